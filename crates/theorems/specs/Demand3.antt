-- Demand 3: one claim about every list of steps from load.
use Rattle.std.specs.Prelude.{ℕ, ◌+◌, ◌-◌, ◌≤◌, ◌<◌, true, cond, ◌≡◌, ◌↔◌, List, [], ◌∷◌, ◌++◌, eqb}
use Rattle.std.proofs.Math.Option.{some}
use Rattle.std.proofs.Math.ListN.{get_elem?}
use Rattle.basis.specs.KeySets.{has}
use Rattle.basis.specs.Kinds as kind
use Rattle.agreement.specs.Order.{NotOlder}
use Rattle.agreement.specs.Machine.{Before, writes_of}
use Rattle.table.specs.Checks.{Check, passes, refuses}
use Rattle.table.specs.Tables.{table_of, kind_at, p_at}
use Rattle.term.specs.declared.Label.{Label}
use Rattle.term.specs.declared.Label.TheVariants.{Ticking, Acting}
use Rattle.state.specs.declared.Store.TheVariants.{Entries}
use Rattle.state.specs.declared.Entry.{Entry}
use Rattle.state.specs.Layout.{word_of, stamp_of, writer_of, zp_of}
use Rattle.state.specs.Entries.{entry, entry_of, newer, next_stamp}
use Rattle.state.specs.Evaluation.{link_holds}
use Rattle.state.specs.WellFormed.{loaded}
use Rattle.steps.specs.Acts.{chosen, value_for, word_in}
use Rattle.steps.specs.Steps.{load_of}
use Rattle.labs.specs.Lists.{Step, outcome_of, next, state_after}

-- a write: agent, key, the expression's value in the state before, the stamp taken
pub record Write : Type 0 where
  pub agent : ℕ
  pub key : ℕ
  pub value : ℕ
  pub stamp : ℕ

-- the entry that it puts in its agent
abbrev pub entry_written : Write → Entry
entry_written w = entry w.value w.stamp w.agent

-- a refused step adds none
abbrev pub if_done : Check → List Write → List Write
if_done passes ws = ws
if_done (refuses number place) ws = []

module _ (bytes : List ℕ) where
  -- what a done step adds: an act that sets a stigmergy key adds one write
  abbrev pub write_of : List ℕ → ℕ → Label → List Write
  write_of s x Ticking = []
  write_of s x (Acting n) =
      cond (eqb (kind_at (table_of bytes) n) kind.set_stigmergy)
      (record { agent = x; key = p_at (table_of bytes) n; value = word_in (value_for (table_of bytes) s x n); stamp = next_stamp s } ∷ [])
      []

  abbrev pub adds : List ℕ → Step → List Write
  adds s x =
      if_done (outcome_of bytes s x).check
      (cond (eqb x.kind 0) (write_of s x.agent (chosen (table_of bytes) s x.agent x.number).label) [])

  abbrev pub history : List Step → List Write
  history xs = writes_of (next bytes) adds (loaded (table_of bytes)) xs

  -- key k's link from a to b held before every step
  abbrev pub HeldBeforeSteps : List Step → ℕ → ℕ → ℕ → Type 0
  HeldBeforeSteps xs k a b = Before (next bytes) (λ s x. link_holds (table_of bytes) s k a b ≡ true) (loaded (table_of bytes)) xs

-- in state s, a's entry for k is newer than b's only while k waits in a: it is not newer, or k waits in a
abbrev pub NewerWaits : List ℕ → ℕ → ℕ → ℕ → Type 0
NewerWaits s k a b = newer (entry_of s a k) (entry_of s b k) ≡ true → has (zp_of s a) k ≡ true

-- An entry is an agent's value, stamp and writer for a key, with a stamp above 0; a key waits in an agent while it is in its Zp
pub record Demand3 (bytes : List ℕ) (xs : List Step) : Type 0 where
  -- newer means a higher stamp
  pub newer_is_higher : (e f : Entry) → (newer e f ≡ true) ↔ (f.stamp < e.stamp)
  -- write n, counted from 1, bears stamp n
  pub numbered : (n : ℕ) (w : Write) → get_elem? (history bytes xs) n ≡ some w → w.stamp ≡ n + 1
  -- (i) value and writer are those of the write at the stamp
  pub written : (a k : ℕ) → a < (table_of bytes).sizes.agents → k < (table_of bytes).sizes.stigmergy → 0 < stamp_of (state_after bytes xs) a k →
      (w : Write) × (get_elem? (history bytes xs) (stamp_of (state_after bytes xs) a k - 1) ≡ some w) × (w.key ≡ k)
      × (w.value ≡ word_of (state_after bytes xs) (Entries a) k) × (w.agent ≡ writer_of (state_after bytes xs) a k)
  -- (ii) equal stamps have equal values and writers
  pub equal : (a b k : ℕ) → a < (table_of bytes).sizes.agents → b < (table_of bytes).sizes.agents → k < (table_of bytes).sizes.stigmergy →
      stamp_of (state_after bytes xs) a k ≡ stamp_of (state_after bytes xs) b k →
      (word_of (state_after bytes xs) (Entries a) k ≡ word_of (state_after bytes xs) (Entries b) k)
      × (writer_of (state_after bytes xs) a k ≡ writer_of (state_after bytes xs) b k)
  -- (iii) an agent's entry is never older than it was after the list's own earlier steps
  pub never_older : (before since : List Step) → xs ≡ before ++ since → (a k : ℕ) → a < (table_of bytes).sizes.agents → k < (table_of bytes).sizes.stigmergy →
      NotOlder newer (entry_of (state_after bytes xs) a k) (entry_of (state_after bytes before) a k)
  -- so stamps never fall
  pub never_fall : (before since : List Step) → xs ≡ before ++ since → (a k : ℕ) → a < (table_of bytes).sizes.agents → k < (table_of bytes).sizes.stigmergy →
      stamp_of (state_after bytes before) a k ≤ stamp_of (state_after bytes xs) a k
  -- (iv) where the key's link from a to b held before every step, a holds a newer entry than b only while the key waits in a
  pub pair : (a b k : ℕ) → a < (table_of bytes).sizes.agents → b < (table_of bytes).sizes.agents → k < (table_of bytes).sizes.stigmergy →
      HeldBeforeSteps bytes xs k a b → NewerWaits (state_after bytes xs) k a b

-- for every table that load accepts, whatever words were lent, and every list of steps
abbrev pub Demand3Holds : Type 0
Demand3Holds =
    (bytes lent : List ℕ) (scratch : ℕ) → (load_of bytes lent scratch).check ≡ passes →
    ((load_of bytes lent scratch).state ≡ loaded (table_of bytes)) × ((xs : List Step) → Demand3 bytes xs)
