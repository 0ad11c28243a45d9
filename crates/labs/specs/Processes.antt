-- Processes: Table 2's syntax, read off a residual one level at a time, and Table 3.
-- SEQ₂ and PAR₂ are printed with λ at both premises; by the prose of 2.1 and the paper the first is a √: P terminates, and Q goes on.
use Rattle.std.specs.Prelude.{ℕ, ◌-◌, ◌≡◌, List, [], ◌∷◌, ◌++◌, get_or}
use Rattle.table.specs.Tables.{Table, kind_at, p_at, q_at}
use Rattle.term.specs.declared.Label.{Label}
use Rattle.term.specs.declared.Label.TheVariants.{Ticking, Acting}
use Rattle.term.specs.Terms.{Term, Seq, Par, Tick, Idle, Node}
use Rattle.labs.specs.Expressions.{Expr, expr_of}
use Rattle.labs.specs.Roots.{body_of}

infixr 30 ◌⨾◌
infixr 25 ◌∣◌
infixr 20 ◌⊹◌
infixr 20 ◌⇒◌
-- P ::= 0 | √ | α | P ; P | P + P | b → P | P | P | K, with an action and a guard by its node, a named process by its definition
pub data Form : Type 0 where
  𝟎 √ : Form
  α : ℕ → Form
  ◌⨾◌ ◌⊹◌ ◌∣◌ : Term → Term → Form
  ◌⇒◌ : ℕ → Term → Form
  K : ℕ → Form

-- node n by its kind, from 0, with operands p and q
abbrev pub forms : ℕ → ℕ → ℕ → List Form
forms n p q =
    𝟎 ∷ √ ∷ α n ∷ α n ∷ α n ∷ (Node p ⨾ Node q) ∷ (Node p ⊹ Node q) ∷ (p ⇒ Node q) ∷ (Node p ∣ Node q) ∷ K p ∷ []

unfoldable pub form : Table → Term → Form
form t (Seq P Q) = P ⨾ Q
form t (Par P Q) = P ∣ Q
form t Tick = √
form t Idle = 𝟎
form t (Node n) = get_or (forms n (p_at t n) (q_at t n)) (kind_at t n) 𝟎

-- TABLE 14. An action assigns an expression to an attribute, a stigmergy key or an environment key: kinds 2, 3, 4
pub data Variable : Type 0 where
  attribute stigmergy environment : ℕ → Variable

pub data Action : Type 0 where
  assign : Variable → Expr → Action

abbrev pub action_of : Table → ℕ → Action
action_of t n =
    assign (get_or (attribute (p_at t n) ∷ stigmergy (p_at t n) ∷ environment (p_at t n) ∷ []) (kind_at t n - 2) (environment (p_at t n))) (expr_of t (q_at t n))

-- A derivation tree of Table 3, by the rules that it applies: a term and its forms leave nothing else to choose
pub data Tree : Type 0 where
  by-TICK by-ACT : Tree
  by-CHOICE-L by-CHOICE-R by-SEQ₁ by-CON by-PAR₁ by-PAR₁-COMM by-AWAIT : Tree → Tree
  by-SEQ₂ by-PAR₂ by-PAR₂-COMM : Tree → Tree → Tree

-- TABLE 3. `Moves t T P l g P'`: by the tree T, P does l and leaves P'. R is the term whose form stands below a rule's line.
-- g are the guards on the way: the paper counts a guard wherever it occurs, the document (Table 7) only at an agent's top.
pub data Moves (t : Table) : Tree → Term → Label → List ℕ → Term → Type 0 where
  TICK : {R : Term} → form t R ≡ √ → Moves t by-TICK R Ticking [] Idle
  ACT : {R : Term} {n : ℕ} → form t R ≡ α n → Moves t by-ACT R (Acting n) [] Tick
  CHOICE-L : {T : Tree} {P Q R P' : Term} {l : Label} {g : List ℕ} → form t R ≡ (P ⊹ Q) → Moves t T P l g P' → Moves t (by-CHOICE-L T) R l g P'
  CHOICE-R : {T : Tree} {P Q R Q' : Term} {l : Label} {g : List ℕ} → form t R ≡ (P ⊹ Q) → Moves t T Q l g Q' → Moves t (by-CHOICE-R T) R l g Q'
  SEQ₁ : {T : Tree} {P Q R P' : Term} {n : ℕ} {g : List ℕ} → form t R ≡ (P ⨾ Q) → Moves t T P (Acting n) g P' → Moves t (by-SEQ₁ T) R (Acting n) g (Seq P' Q)
  SEQ₂ : {T U : Tree} {P Q R P' Q' : Term} {l : Label} {g h : List ℕ} → form t R ≡ (P ⨾ Q) → Moves t T P Ticking g P' → Moves t U Q l h Q' →
      Moves t (by-SEQ₂ T U) R l (g ++ h) Q'
  CON : {T : Tree} {R P' : Term} {l : Label} {d : ℕ} {g : List ℕ} → form t R ≡ K d → Moves t T (Node (body_of t d)) l g P' → Moves t (by-CON T) R l g P'
  PAR₁ : {T : Tree} {P Q R P' : Term} {n : ℕ} {g : List ℕ} → form t R ≡ (P ∣ Q) → Moves t T P (Acting n) g P' → Moves t (by-PAR₁ T) R (Acting n) g (Par P' Q)
  PAR₂ : {T U : Tree} {P Q R P' Q' : Term} {l : Label} {g h : List ℕ} → form t R ≡ (P ∣ Q) → Moves t T P Ticking g P' → Moves t U Q l h Q' →
      Moves t (by-PAR₂ T U) R l (g ++ h) Q'
  -- PAR-COMM, of PAR₁ and of PAR₂: the document swaps the sides in what is left, the paper leaves them as they stand
  PAR₁COMM : {T : Tree} {P Q R Q' : Term} {n : ℕ} {g : List ℕ} → form t R ≡ (P ∣ Q) → Moves t T Q (Acting n) g Q' →
      Moves t (by-PAR₁-COMM T) R (Acting n) g (Par P Q')
  PAR₂COMM : {T U : Tree} {P Q R P' Q' : Term} {l : Label} {g h : List ℕ} → form t R ≡ (P ∣ Q) → Moves t T Q Ticking g Q' → Moves t U P l h P' →
      Moves t (by-PAR₂-COMM T U) R l (g ++ h) P'
  -- AWAIT's part in a process: b → P does what P does, under b besides
  AWAIT : {T : Tree} {P R P' : Term} {l : Label} {b : ℕ} {g : List ℕ} → form t R ≡ (b ⇒ P) → Moves t T P l g P' → Moves t (by-AWAIT T) R l (b ∷ g) P'
