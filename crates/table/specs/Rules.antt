-- What the paper asks of a table, in its words and with its numbers: a second reading of Tables, Nodes and Reach, as facts and not as tests.
use Rattle.std.specs.Prelude.{ℕ, ◌+◌, ◌-◌, ◌<◌, ◌≤◌, ◌⊎◌, ◌≡◌}
use Rattle.table.specs.declared.Sizes.{Sizes}
use Rattle.table.specs.Tables.{Table, kind_at, p_at, q_at}

-- LIMITS: N 1 to 4,096; D at most 64; A 1 to 32; I, S, V at most 16 each; D + S + A at most N
pub record Limits (n : Sizes) : Type 0 where
  pub some_node : 1 ≤ n.nodes
  pub nodes : n.nodes ≤ 4096
  pub definitions : n.definitions ≤ 64
  pub some_agent : 1 ≤ n.agents
  pub agents : n.agents ≤ 32
  pub attributes : n.attributes ≤ 16
  pub stigmergy : n.stigmergy ≤ 16
  pub environment : n.environment ≤ 16
  pub roots : n.definitions + n.stigmergy + n.agents ≤ n.nodes

-- NAMING. The kinds whose p, and whose q, is a node, roots aside
pub data NamesByP : ℕ → Type 0 where
  processes : {k : ℕ} → 5 ≤ k → k ≤ 8 → NamesByP k
  guards : {k : ℕ} → 17 ≤ k → k ≤ 22 → NamesByP k
  expressions : {k : ℕ} → 36 ≤ k → k ≤ 40 → NamesByP k

pub data NamesByQ : ℕ → Type 0 where
  processes : {k : ℕ} → 2 ≤ k → k ≤ 8 → NamesByQ k
  comparisons : {k : ℕ} → 17 ≤ k → k ≤ 19 → NamesByQ k
  connectives : {k : ℕ} → 21 ≤ k → k ≤ 22 → NamesByQ k
  expressions : {k : ℕ} → 36 ≤ k → k ≤ 40 → NamesByQ k

module _ (t : Table) where
  -- the last D + S + A nodes are the roots; the last S + A of them are no bodies, and the last A are agents'
  abbrev pub inners : ℕ
  inners = t.sizes.nodes - (t.sizes.definitions + t.sizes.stigmergy + t.sizes.agents)

  abbrev pub bodies_end : ℕ
  bodies_end = t.sizes.nodes - (t.sizes.stigmergy + t.sizes.agents)

  abbrev pub links_end : ℕ
  links_end = t.sizes.nodes - t.sizes.agents

  -- NODES. m is a process, a guard, an expression
  abbrev pub IsProcess : ℕ → Type 0
  IsProcess m = kind_at t m ≤ 9

  abbrev pub IsGuard : ℕ → Type 0
  IsGuard m = (16 ≤ kind_at t m) × (kind_at t m ≤ 22)

  abbrev pub IsExpression : ℕ → Type 0
  IsExpression m = (32 ≤ kind_at t m) × (kind_at t m ≤ 40)

  -- kind, p and q of node n, which is no root: the rows of the paper's list. What a node names is lower than itself
  pub data Row (n : ℕ) : ℕ → ℕ → ℕ → Type 0 where
    idle : Row n 0 0 0
    tick : Row n 1 0 0
    sets_attribute : {k e : ℕ} → k < t.sizes.attributes → e < n → IsExpression e → Row n 2 k e
    sets_stigmergy : {k e : ℕ} → k < t.sizes.stigmergy → e < n → IsExpression e → Row n 3 k e
    sets_environment : {k e : ℕ} → k < t.sizes.environment → e < n → IsExpression e → Row n 4 k e
    sequence : {P Q : ℕ} → P < n → IsProcess P → Q < n → IsProcess Q → Row n 5 P Q
    choice : {P Q : ℕ} → P < n → IsProcess P → Q < n → IsProcess Q → Row n 6 P Q
    guarded : {b P : ℕ} → b < n → IsGuard b → P < n → IsProcess P → Row n 7 b P
    parallel : {P Q : ℕ} → P < n → IsProcess P → Q < n → IsProcess Q → Row n 8 P Q
    call : {d : ℕ} → d < t.sizes.definitions → Row n 9 d 0
    true : Row n 16 0 0
    equal : {e f : ℕ} → e < n → IsExpression e → f < n → IsExpression f → Row n 17 e f
    less : {e f : ℕ} → e < n → IsExpression e → f < n → IsExpression f → Row n 18 e f
    greater : {e f : ℕ} → e < n → IsExpression e → f < n → IsExpression f → Row n 19 e f
    not : {b : ℕ} → b < n → IsGuard b → Row n 20 b 0
    and : {b c : ℕ} → b < n → IsGuard b → c < n → IsGuard c → Row n 21 b c
    or : {b c : ℕ} → b < n → IsGuard b → c < n → IsGuard c → Row n 22 b c
    constant : {p q : ℕ} → Row n 32 p q
    attribute : {k party : ℕ} → k < t.sizes.attributes → party ≤ 2 → Row n 33 k party
    stigmergy : {k party : ℕ} → k < t.sizes.stigmergy → party ≤ 2 → Row n 34 k party
    environment : {k : ℕ} → k < t.sizes.environment → Row n 35 k 0
    plus : {e f : ℕ} → e < n → IsExpression e → f < n → IsExpression f → Row n 36 e f
    minus : {e f : ℕ} → e < n → IsExpression e → f < n → IsExpression f → Row n 37 e f
    times : {e f : ℕ} → e < n → IsExpression e → f < n → IsExpression f → Row n 38 e f
    divide : {e f : ℕ} → e < n → IsExpression e → f < n → IsExpression f → Row n 39 e f
    remainder : {e f : ℕ} → e < n → IsExpression e → f < n → IsExpression f → Row n 40 e f

  -- root n: definition bodies (process), links of keys (guard), agents' starting processes, in that order
  pub record Root (n : ℕ) : Type 0 where
    pub kind : kind_at t n ≡ 64
    pub lower : p_at t n < n
    pub body : n < bodies_end → IsProcess (p_at t n)
    pub link : bodies_end ≤ n → n < links_end → IsGuard (p_at t n)
    pub start : links_end ≤ n → IsProcess (p_at t n)
    pub nothing : q_at t n ≡ 0

  -- the last D + S + A nodes, and no others, are roots
  pub record Node (n : ℕ) : Type 0 where
    pub inner : n < inners → Row n (kind_at t n) (p_at t n) (q_at t n)
    pub root : inners ≤ n → Root n

  -- node n names node m
  pub data Names (n m : ℕ) : Type 0 where
    named_by_p : NamesByP (kind_at t n) → p_at t n ≡ m → Names n m
    named_by_q : NamesByQ (kind_at t n) → q_at t n ≡ m → Names n m

  -- node n, no root, makes a second naming: of a node that a lower one names, or by naming one twice
  pub data Again (n : ℕ) : Type 0 where
    after : {j m : ℕ} → j < n → n < inners → Names j m → Names n m → Again n
    twice : n < inners → NamesByP (kind_at t n) → NamesByQ (kind_at t n) → p_at t n ≡ q_at t n → Again n

  -- 4: bad kind or operand
  abbrev pub Bad : ℕ → Type 0
  Bad n = (Node n → ⊥) ⊎ Again n

  -- REACHING: a node reaches itself, and what the nodes reach that it names
  pub data Reaches : ℕ → ℕ → Type 0 where
    itself : {n : ℕ} → Reaches n n
    on : {n m l : ℕ} → Names n m → Reaches m l → Reaches n l

  -- a process node, rooted or not, reaches n; the link of a key does
  pub record FromProcess (n : ℕ) : Type 0 where
    pub node : ℕ
    pub there : node < t.sizes.nodes
    pub process : IsProcess node
    pub reaches : Reaches node n

  pub record FromLink (n : ℕ) : Type 0 where
    pub root : ℕ
    pub first : bodies_end ≤ root
    pub last : root < links_end
    pub reaches : Reaches (p_at t root) n

  -- 5: of an attribute (33) or a stigmergy key (34) party is 0 where reached from a process node, 1 (sender) or 2 (receiver) where reached from a
  -- link, and a link reaches no environment key (35)
  pub data Wrong (n : ℕ) : Type 0 where
    party : 33 ≤ kind_at t n → kind_at t n ≤ 34 → FromProcess n → (q_at t n ≡ 0 → ⊥) → Wrong n
    no_party : 33 ≤ kind_at t n → kind_at t n ≤ 34 → FromLink n → (q_at t n ≡ 1 → ⊥) → (q_at t n ≡ 2 → ⊥) → Wrong n
    environment_linked : kind_at t n ≡ 35 → FromLink n → Wrong n
