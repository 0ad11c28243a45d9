-- Processes, and their derivations in the paper's order.
use Rattle.std.specs.Prelude.{ℕ, Bool, true, false, not, ◌&&◌, List, [], ◌∷◌, ◌++◌, map, leb, get_or, length}
use Rattle.basis.specs.Below.{below}
use Rattle.table.specs.Tables.{Table, kind_at, p_at, q_at, first_root, body_at}
use Rattle.term.specs.declared.Label.{Label}
use Rattle.term.specs.declared.Label.TheVariants.{Ticking, Acting}
use Rattle.term.specs.Terms.{Term, Seq, Par, Tick, Idle, Node}

-- A tree of nodes, with calls opened: `act n` is the action at node n, `guarded g P` has the guard at node g, `call d P` calls definition d,
-- whose body is P. A part that may be left standing comes with its term: in `seq P Q q` and `par P p Q q`, q stands for Q, and p for P.
pub data Process : Type 0 where
  idle tick : Process
  act : ℕ → Process
  choice : Process → Process → Process
  guarded call : ℕ → Process → Process
  seq : Process → Process → Term → Process
  par : Process → Term → Process → Term → Process

-- one way for a process to go on: what it does, under which guards (by their nodes), and what it leaves
pub record Derivation : Type 0 where
  pub label : Label
  pub guards : List ℕ
  pub leaving : Term

abbrev pub derivation : Label → List ℕ → Term → Derivation
derivation l g P = record { label = l; guards = g; leaving = P }

abbrev pub label_ticks : Label → Bool
label_ticks Ticking = true
label_ticks (Acting n) = false

abbrev pub is_tick : Derivation → Bool
is_tick d = label_ticks d.label

abbrev pub is_action : Derivation → Bool
is_action d = not (is_tick d)

-- those that pass a test, in order
unfoldable pub keep : (Derivation → Bool) → List Derivation → List Derivation
keep test [] = []
keep test (d ∷ ds) = elim (test d) [ true ↦ d ∷ keep test ds | false ↦ keep test ds ]

-- d under one guard more; d before q; d beside q on its right; d beside p on its left
abbrev pub under : ℕ → Derivation → Derivation
under g d = derivation d.label (g ∷ d.guards) d.leaving

abbrev pub before : Term → Derivation → Derivation
before q d = derivation d.label d.guards (Seq d.leaving q)

abbrev pub beside_right : Term → Derivation → Derivation
beside_right q d = derivation d.label d.guards (Par d.leaving q)

abbrev pub beside_left : Term → Derivation → Derivation
beside_left p d = derivation d.label d.guards (Par p d.leaving)

-- a tick joins d: the guards of both are collected
abbrev pub join : Derivation → Derivation → Derivation
join t d = derivation d.label (t.guards ++ d.guards) d.leaving

-- for each tick each derivation
unfoldable pub joins : List Derivation → List Derivation → List Derivation
joins [] ds = []
joins (t ∷ ts) ds = map (join t) ds ++ joins ts ds

unfoldable pub derivations : Process → List Derivation
derivations idle = []
derivations tick = derivation Ticking [] Idle ∷ []
derivations (act n) = derivation (Acting n) [] Tick ∷ []
derivations (choice P Q) = derivations P ++ derivations Q
derivations (guarded g P) = map (under g) (derivations P)
derivations (call d P) = derivations P
derivations (seq P Q q) =
    map (before q) (keep is_action (derivations P)) ++
    joins (keep is_tick (derivations P)) (derivations Q)
derivations (par P p Q q) =
    map (beside_right q) (keep is_action (derivations P)) ++
    (map (beside_left p) (keep is_action (derivations Q)) ++
    (joins (keep is_tick (derivations P)) (derivations Q) ++
    joins (keep is_tick (derivations Q)) (derivations P)))

-- derivation c; where there is none, a tick that leaves idle
abbrev pub derivation_at : Process → ℕ → Derivation
derivation_at P c = get_or (derivations P) c (derivation Ticking [] Idle)

abbrev pub derivation_limit : ℕ
derivation_limit = 65535

abbrev pub few : Process → Bool
few P = leb (length (derivations P)) derivation_limit

-- node n by its kind, from 0, of operands p and q, from the processes of lower nodes and of the definitions that may be called
abbrev pub by_kind : (ℕ → Process) → (ℕ → Process) → ℕ → ℕ → ℕ → List Process
by_kind calls lower n p q =
    idle ∷ tick ∷ act n ∷ act n ∷ act n ∷
    seq (lower p) (lower q) (Node q) ∷
    choice (lower p) (lower q) ∷
    guarded p (lower q) ∷
    par (lower p) (Node p) (lower q) (Node q) ∷
    call p (calls p) ∷ []

module _ (t : Table) where
  unfoldable pub node_step : (ℕ → Process) → (ℕ → Process) → ℕ → Process
  node_step calls lower n = get_or (by_kind calls lower n (p_at t n) (q_at t n)) (kind_at t n) idle

  -- the process of a node, given those of the definitions
  unfoldable pub node_with : (ℕ → Process) → ℕ → Process
  node_with calls = below (node_step calls) idle (first_root t)

  -- the processes of the definitions below a level. In a body a call of a definition that is not lower stands as idle:
  -- where 6 passes no derivation comes from such a call, since it is not exposed
  unfoldable pub defined : ℕ → ℕ → Process
  defined = below (λ lower d. node_with lower (body_at t d)) idle

  -- the process of a node with the definitions below a level, and with all of them
  abbrev pub process_at : ℕ → ℕ → Process
  process_at level = node_with (defined level)

  unfoldable pub node_process : ℕ → Process
  node_process = process_at t.sizes.definitions

  -- the process of a residual
  unfoldable pub process : Term → Process
  process (Seq P Q) = seq (process P) (process Q) Q
  process (Par P Q) = par (process P) P (process Q) Q
  process Tick = tick
  process Idle = idle
  process (Node n) = node_process n

  -- every subterm of a residual has few derivations
  unfoldable pub all_few : Term → Bool
  all_few (Seq P Q) = few (process (Seq P Q)) && (all_few P && all_few Q)
  all_few (Par P Q) = few (process (Par P Q)) && (all_few P && all_few Q)
  all_few Tick = true
  all_few Idle = true
  all_few (Node n) = few (node_process n)
