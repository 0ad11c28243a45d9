-- How agents that disagree and are silent come to agree again: by a propagate or a confirm that reaches. From there on only links are asked.
use Rattle.std.specs.Prelude.{ℕ, ◌<◌, true, ◌≡◌, List, [], ◌∷◌, ◌++◌}
use Rattle.table.specs.Checks.{passes}
use Rattle.table.specs.Tables.{table_of}
use Rattle.state.specs.Layout.{stamp_of}
use Rattle.state.specs.Entries.{entry_of}
use Rattle.state.specs.Evaluation.{link_holds}
use Rattle.labs.specs.Lists.{Step, outcome_of, next, state_after}
use Rattle.theorems.specs.Demand3.{NewerWaits}
use Rattle.theorems.specs.Contact.{Propagates, HeldBeforePropagates, InContact}
use Rattle.theorems.specs.Chains.{Silent}

-- step x in state s is a done confirm of key k by agent b
pub record Confirms (bytes s : List ℕ) (x : Step) (b k : ℕ) : Type 0 where
  pub kind_confirm : x.kind ≡ 2
  pub by_agent : x.agent ≡ b
  pub of_key : x.number ≡ k
  pub is_done : (outcome_of bytes s x).check ≡ passes

module _ (bytes s : List ℕ) (x : Step) (k : ℕ) where
  -- step x is a done propagate of k by a, and reaches b
  pub record PropagateReaches (a b : ℕ) : Type 0 where
    pub propagates : Propagates bytes s x a k
    pub there : b < (table_of bytes).sizes.agents
    pub linked : link_holds (table_of bytes) s k a b ≡ true

  -- step x is a done confirm of k by b, and reaches a
  pub record ConfirmReaches (b a : ℕ) : Type 0 where
    pub confirms : Confirms bytes s x b k
    pub there : a < (table_of bytes).sizes.agents
    pub linked : link_holds (table_of bytes) s k b a ≡ true

-- of any table and any words: where the step is done, they are accepted and well formed
pub record Repair (bytes : List ℕ) : Type 0 where
  -- after a propagate by a that reaches b, a's entry is newer than b's only while the key waits in a
  pub propagated : (s : List ℕ) (x : Step) (k a b : ℕ) → PropagateReaches bytes s x k a b → NewerWaits (next bytes s x) k a b
  -- after a confirm by b that reaches a, each one's entry is newer than the other's only while the key waits in it
  pub confirmed : (s : List ℕ) (x : Step) (k b a : ℕ) → ConfirmReaches bytes s x k b a → NewerWaits (next bytes s x) k a b × NewerWaits (next bytes s x) k b a
  -- an agent without an entry never confirms: it takes a confirm by one that has it, or a propagate
  pub confirm_has : (s : List ℕ) (x : Step) (b k : ℕ) → Confirms bytes s x b k → 0 < stamp_of s b k

-- FROM THERE ON: step x after the steps `before` from load, and then the steps `since`
module _ (bytes : List ℕ) (before since : List Step) (x : Step) where
  abbrev pub moment : List Step
  moment = before ++ (x ∷ [])

  -- key k's link from a to b held before a's done propagates of k since
  abbrev pub HeldSince : ℕ → ℕ → ℕ → Type 0
  HeldSince = HeldBeforePropagates bytes (state_after bytes moment) since

  -- in the end
  abbrev pub ended : List ℕ
  ended = state_after bytes (moment ++ since)

  pub record Repaired : Type 0 where
    -- only links are asked: after a propagate from a to b; after a confirm of each of the two
    pub by_propagate : (k a b : ℕ) → PropagateReaches bytes (state_after bytes before) x k a b → HeldSince k a b → InContact bytes moment since k a b
    pub by_confirm : (k b a : ℕ) → ConfirmReaches bytes (state_after bytes before) x k b a →
        (HeldSince k a b → InContact bytes moment since k a b) × (HeldSince k b a → InContact bytes moment since k b a)
    -- so after a confirm, where both links held so, the two agree whenever the key waits in neither
    pub agree : (k b a : ℕ) → ConfirmReaches bytes (state_after bytes before) x k b a → HeldSince k a b → HeldSince k b a →
        Silent ended k a → Silent ended k b → entry_of ended a k ≡ entry_of ended b k

abbrev pub RepairHolds : Type 0
RepairHolds = (bytes : List ℕ) → Repair bytes × ((before since : List Step) (x : Step) → Repaired bytes before since x)
