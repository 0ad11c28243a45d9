-- They are silent and disagree: which step is to blame.
use Rattle.std.specs.Prelude.{ℕ, ◌≤◌, ◌<◌, true, false, ◌≡◌, List, length, take}
use Rattle.std.proofs.Math.Option.{some}
use Rattle.std.proofs.Math.ListN.{get_elem?}
use Rattle.table.specs.Checks.{passes}
use Rattle.table.specs.Tables.{table_of}
use Rattle.state.specs.Entries.{entry_of, newer}
use Rattle.state.specs.Evaluation.{link_holds}
use Rattle.steps.specs.Steps.{load_of}
use Rattle.labs.specs.Lists.{Step, state_after}
use Rattle.theorems.specs.Contact.{Propagates}
use Rattle.theorems.specs.Chains.{Silent}

-- the step of the list xs that is to blame: a done propagate of k by a, before which the link from a to b did not hold
pub record Blamed (bytes : List ℕ) (xs : List Step) (a b k : ℕ) : Type 0 where
  pub index : ℕ
  pub step : Step
  pub there : get_elem? xs index ≡ some step
  pub propagates : Propagates bytes (state_after bytes (take index xs)) step a k
  pub not_linked : link_holds (table_of bytes) (state_after bytes (take index xs)) k a b ≡ false
  -- no later step is a done propagate of k by a
  pub last : (j : ℕ) (later : Step) → index < j → get_elem? xs j ≡ some later → Propagates bytes (state_after bytes (take j xs)) later a k → ⊥
  -- from before that step to the end a had the same entry
  pub unchanged : (j : ℕ) → index ≤ j → j ≤ length xs → entry_of (state_after bytes (take j xs)) a k ≡ entry_of (state_after bytes xs) a k

-- where a's entry for k is newer than b's after the steps xs, and k does not wait in a
abbrev pub Blame : List ℕ → List Step → Type 0
Blame bytes xs =
    (a b k : ℕ) → a < (table_of bytes).sizes.agents → b < (table_of bytes).sizes.agents → k < (table_of bytes).sizes.stigmergy →
    newer (entry_of (state_after bytes xs) a k) (entry_of (state_after bytes xs) b k) ≡ true → Silent (state_after bytes xs) k a → Blamed bytes xs a b k

-- for every table that load accepts, and every list of steps
abbrev pub BlameHolds : Type 0
BlameHolds =
    (bytes lent : List ℕ) (scratch : ℕ) → (load_of bytes lent scratch).check ≡ passes → (xs : List Step) → Blame bytes xs
