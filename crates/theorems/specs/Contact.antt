-- Beside demand 3: what two agents can rely on where the link between them does not always hold. It has to hold before each done propagate of the
-- key by its sender, and before no other step. Chains has what follows for agents that fall silent.
use Rattle.std.specs.Prelude.{ℕ, ◌<◌, true, ◌≡◌, List, ◌∷◌, ◌++◌}
use Rattle.agreement.specs.Machine.{Before}
use Rattle.table.specs.Checks.{passes}
use Rattle.table.specs.Tables.{table_of}
use Rattle.state.specs.Evaluation.{link_holds}
use Rattle.state.specs.WellFormed.{loaded}
use Rattle.steps.specs.Steps.{load_of}
use Rattle.labs.specs.Lists.{Step, outcome_of, next, state_after}
use Rattle.theorems.specs.Demand3.{HeldBeforeSteps, NewerWaits}

-- Demand 3's links never fail: load leaves no values, so a link that held before a first step holds in every state, from any agent to any other
abbrev pub SteadyLinks : Type 0
SteadyLinks =
    (bytes : List ℕ) (x : Step) (xs : List Step) (k a b : ℕ) → HeldBeforeSteps bytes (x ∷ xs) k a b →
    (s : List ℕ) (c d : ℕ) → link_holds (table_of bytes) s k c d ≡ true

-- step x in state s is a done propagate of key k by agent a
pub record Propagates (bytes s : List ℕ) (x : Step) (a k : ℕ) : Type 0 where
  pub kind_propagate : x.kind ≡ 1
  pub by_agent : x.agent ≡ a
  pub of_key : x.number ≡ k
  pub is_done : (outcome_of bytes s x).check ≡ passes

-- in the steps xs from state s, key k's link from a to b held before every done propagate of k by a
abbrev pub HeldBeforePropagates : List ℕ → List ℕ → List Step → ℕ → ℕ → ℕ → Type 0
HeldBeforePropagates bytes s xs k a b = Before (next bytes) (λ s x. Propagates bytes s x a k → link_holds (table_of bytes) s k a b ≡ true) s xs

-- (b) from any moment on: after the steps `before` from load, in the steps `since` that follow
module _ (bytes : List ℕ) (before since : List Step) where
  -- a's entry for k was newer than b's only while k waited in a, and the link from a to b held before a's done propagates of k since
  pub record InContact (k a b : ℕ) : Type 0 where
    pub newer_waits : NewerWaits (state_after bytes before) k a b
    pub link_held : HeldBeforePropagates bytes (state_after bytes before) since k a b

  -- then a's entry is newer than b's only while k waits in a
  abbrev pub ContactSince : Type 0
  ContactSince =
      (a b k : ℕ) → a < (table_of bytes).sizes.agents → b < (table_of bytes).sizes.agents → k < (table_of bytes).sizes.stigmergy →
      InContact k a b → NewerWaits (state_after bytes (before ++ since)) k a b

-- (a) from load on, where no agent has an entry: the links alone are asked
abbrev pub ContactLoad : List ℕ → List Step → Type 0
ContactLoad bytes xs =
    (a b k : ℕ) → a < (table_of bytes).sizes.agents → b < (table_of bytes).sizes.agents → k < (table_of bytes).sizes.stigmergy →
    HeldBeforePropagates bytes (loaded (table_of bytes)) xs k a b → NewerWaits (state_after bytes xs) k a b

-- for every table that load accepts, and every list of steps
abbrev pub ContactHolds : Type 0
ContactHolds =
    (bytes lent : List ℕ) (scratch : ℕ) → (load_of bytes lent scratch).check ≡ passes →
    ((before since : List Step) → ContactSince bytes before since) × ((xs : List Step) → ContactLoad bytes xs)
