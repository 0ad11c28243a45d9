-- Demand 2: a step is done exactly when a rule of LAbS and the paper's limits allow it, and the state after it is the one that they give.
use Rattle.std.specs.Prelude.{ℕ, ◌≤◌, ◌<◌, true, ◌≡◌, ◌↔◌, List, length, get_or}
use Rattle.std.proofs.Math.Option.{some}
use Rattle.std.proofs.Math.ListN.{get_elem?}
use Rattle.basis.specs.Numbers.{how_many}
use Rattle.table.specs.Checks.{passes, first_of}
use Rattle.table.specs.Tables.{Table, table_of}
use Rattle.term.specs.Terms.{Term, Subterm, words}
use Rattle.term.specs.Processes.{Derivation, derivations, process}
use Rattle.state.specs.declared.Insertion.{Insertion}
use Rattle.state.specs.Entries.{is_add, is_update}
use Rattle.state.specs.Evaluation.{link_holds}
use Rattle.state.specs.WellFormed.{Proper, Words}
use Rattle.steps.specs.declared.Tally.{Tally}
use Rattle.steps.specs.Steps.{done, state_checks, load_of, step_of}
use Rattle.labs.specs.Agents.{System}
use Rattle.labs.specs.Expressions.{◌⊨◌, φ}
use Rattle.labs.specs.Processes.{Tree, Moves}
use Rattle.labs.specs.Systems.{Acted, Passed, put, qry, between}
use Rattle.labs.specs.Reading.{system_of, initial}
use Rattle.labs.specs.Run.{Run}

-- What a message counts: the agents that insert the entry by ADD, and by UPDATE
abbrev pub rule_tally : (ℕ → Insertion) → ℕ → Tally
rule_tally rule agents = record { added = how_many (λ (y : ℕ). is_add (rule y)) agents; replaced = how_many (λ (y : ℕ). is_update (rule y)) agents }

-- The step (kind, agent, number) may take S to S', with this tally of the agents that take an entry: a rule gives it and the limits allow it:
-- at most 65,535 derivations of every subterm of the residual, a clock of at most 65,535, at most 63 words left
pub data Allowed (t : Table) (S S' : System) : ℕ → ℕ → ℕ → Tally → Type 0 where
  act : {x c : ℕ} {d : Derivation} → Acted t t.sizes.agents x d S S' → get_elem? (derivations (process t (S.agent x).P)) c ≡ some d →
      ((P : Term) → Subterm P (S.agent x).P → length (derivations (process t P)) ≤ 65535) →
      S'.clock ≤ 65535 → length (words d.leaving) ≤ 63 → Allowed t S S' 0 x c (record { added = 0; replaced = 0 })
  propagate : {x k : ℕ} {rule : ℕ → Insertion} → k < t.sizes.stigmergy → Passed t t.sizes.agents x put k rule S S' →
      Allowed t S S' 1 x k (rule_tally rule t.sizes.agents)
  confirm : {x k : ℕ} {rule : ℕ → Insertion} → k < t.sizes.stigmergy → Passed t t.sizes.agents x qry k rule S S' →
      Allowed t S S' 2 x k (rule_tally rule t.sizes.agents)

-- bytes, as slices hold them
abbrev pub Bytes : List ℕ → Type 0
Bytes l = (i : ℕ) → get_or l i 0 < 256

-- two systems with the same environment, clock and agents
pub record Same (agents : ℕ) (S S' : System) : Type 0 where
  pub environment_same : S.E ≡ S'.E
  pub clock_same : S.clock ≡ S'.clock
  pub agents_same : (a : ℕ) → a < agents → S.agent a ≡ S'.agent a

-- an accepted table (with room for the scratch) and a well-formed state
pub record Ready (bytes s : List ℕ) (scratch : ℕ) : Type 0 where
  pub small : Bytes bytes
  pub state : Proper (table_of bytes) s
  pub passed : first_of (state_checks bytes s scratch) ≡ passes

-- The derivations of P and the derivation trees of its transitions by Table 3 correspond one to one: the trees stand in a list, as many as
-- the derivations and none twice, and a tree derives d exactly where d is the derivation at the tree's place
pub record Transitions (t : Table) (P : Term) : Type 0 where
  pub trees : List Tree
  pub as_many : length trees ≡ length (derivations (process t P))
  pub once : (c e : ℕ) (T : Tree) → get_elem? trees c ≡ some T → get_elem? trees e ≡ some T → c ≡ e
  pub derive : (T : Tree) (d : Derivation) →
      Moves t T P d.label d.guards d.leaving ↔ ((c : ℕ) × (get_elem? trees c ≡ some T) × (get_elem? (derivations (process t P)) c ≡ some d))

pub record Demand2 : Type 0 where
  -- a step is done only of an accepted table and a well-formed state; load leaves such a state, that of the initial system
  pub ready : (bytes s : List ℕ) (scratch kind x number : ℕ) → Bytes bytes → Words s →
      (step_of bytes s scratch kind x number).check ≡ passes → Ready bytes s scratch
  pub loads : (bytes lent : List ℕ) (scratch : ℕ) → Bytes bytes → (load_of bytes lent scratch).check ≡ passes →
      Ready bytes (load_of bytes lent scratch).state scratch
  pub begins : (bytes lent : List ℕ) (scratch : ℕ) → Bytes bytes → (load_of bytes lent scratch).check ≡ passes →
      Same (table_of bytes).sizes.agents (system_of (load_of bytes lent scratch).state) (initial (table_of bytes))
  -- a step is done with these words exactly when they are a well-formed state, and the rules and limits allow the system that they stand for
  pub exactly : (bytes s s' : List ℕ) (scratch kind x number : ℕ) (counted : Tally) → Ready bytes s scratch →
      (step_of bytes s scratch kind x number ≡ done counted s')
      ↔ (Proper (table_of bytes) s' × Allowed (table_of bytes) (system_of s) (system_of s') kind x number counted)
  -- whatever system the rules and limits allow, the step is done and leaves words that stand for it
  pub every : (bytes s : List ℕ) (scratch kind x number : ℕ) (counted : Tally) → Ready bytes s scratch → (S' : System) →
      Allowed (table_of bytes) (system_of s) S' kind x number counted →
      (s' : List ℕ) × (step_of bytes s scratch kind x number ≡ done counted s') × Same (table_of bytes).sizes.agents S' (system_of s')
  -- two well-formed states that stand for one system are the same words
  pub one : (bytes s s' : List ℕ) (scratch : ℕ) → Ready bytes s scratch → Proper (table_of bytes) s' →
      Same (table_of bytes).sizes.agents (system_of s) (system_of s') → s ≡ s'
  -- a key's link holds exactly where its link predicate does between the two agents
  pub link : (bytes s : List ℕ) (scratch k x y : ℕ) → Ready bytes s scratch → k < (table_of bytes).sizes.stigmergy →
      x < (table_of bytes).sizes.agents → y < (table_of bytes).sizes.agents →
      (link_holds (table_of bytes) s k x y ≡ true) ↔ (between (system_of s) x y ⊨ φ (table_of bytes) k)
  -- an agent's derivations are the transitions that Table 3 derives, one for each derivation tree
  pub transitions : (bytes s : List ℕ) (scratch x : ℕ) → Ready bytes s scratch → x < (table_of bytes).sizes.agents →
      Transitions (table_of bytes) ((system_of s).agent x).P
  -- a run comes to what the single calls of its steps come to
  pub runs : (bytes s : List ℕ) (scratch : ℕ) (schedule answers : List ℕ) → Bytes bytes → Words s → Run bytes s scratch schedule answers
