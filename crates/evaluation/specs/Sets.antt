-- A guard judged for many receivers at once.
use Rattle.std.specs.Prelude.{ℕ, ◌<◌, ◌&&◌, true, List, ◌≡◌, Option, MatchOption}
use Rattle.basis.specs.KeySets.{has, minus}
use Rattle.value.specs.declared.Truth.{Truth}
use Rattle.value.specs.Truths.{compare_values, connect}
use Rattle.table.specs.Tables.{Table, kind_at, p_at, q_at}
use Rattle.state.specs.Evaluation.{value_of}
use Rattle.evaluation.specs.declared.AgentSets.{AgentSets}

-- what node n comes to if it is a comparison
abbrev pub comparison : Table → List ℕ → ℕ → ℕ → ℕ → Truth
comparison t s sender receiver n = compare_values (kind_at t n) (value_of t s sender receiver (p_at t n)) (value_of t s sender receiver (q_at t n))

-- of the agents of a set, those for whom it is well defined, and those for whom it holds
pub record Found (agents : ℕ) (comesTo : ℕ → Truth) (r : AgentSets) : Type 0 where
  pub defined : (y : ℕ) → has r.defined y ≡ (has agents y && (comesTo y).defined)
  pub holding : (y : ℕ) → has r.holding y ≡ (has agents y && (comesTo y).holds)

-- what a connective makes of two
abbrev pub Connects : ℕ → AgentSets → AgentSets → AgentSets → Type 0
Connects kind a b r =
    (agents : ℕ) (f g : ℕ → Truth) → Found agents f a → Found agents g b → Found agents (λ (y : ℕ). connect kind (f y) (g y)) r

-- an agent of the set w is taken, and v is left; nobody is where nobody is in it
abbrev pub TakesOne : ℕ → Option ℕ → ℕ → Type 0
TakesOne w r v = MatchOption r (w ≡ 0) (λ y. (y < 32) × (has w y ≡ true) × (v ≡ minus w y))
