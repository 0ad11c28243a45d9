-- Which step wrote it: every write of the history has its step in the list, and so has every entry.
use Rattle.std.specs.Prelude.{ℕ, ◌-◌, ◌<◌, ◌≡◌, List, [], ◌∷◌, length, take}
use Rattle.std.proofs.Math.Option.{some}
use Rattle.std.proofs.Math.ListN.{get_elem?}
use Rattle.table.specs.Checks.{passes}
use Rattle.table.specs.Tables.{table_of}
use Rattle.state.specs.Layout.{stamp_of}
use Rattle.state.specs.Entries.{entry_of, clock_of}
use Rattle.steps.specs.Steps.{load_of}
use Rattle.labs.specs.Lists.{Step, outcome_of, state_after}
use Rattle.theorems.specs.Demand3.{Write, entry_written, adds, history}

-- the step of the list xs that wrote w, which is write n of the history, counted from 0
pub record WrittenBy (bytes : List ℕ) (xs : List Step) (n : ℕ) (w : Write) : Type 0 where
  pub index : ℕ
  pub step : Step
  pub there : get_elem? xs index ≡ some step
  -- it is an act of the write's agent, done in the state that the steps before it leave, and w is what it writes
  pub is_act : step.kind ≡ 0
  pub by_agent : step.agent ≡ w.agent
  pub is_done : (outcome_of bytes (state_after bytes (take index xs)) step).check ≡ passes
  pub writes : adds bytes (state_after bytes (take index xs)) step ≡ w ∷ []
  -- n writes came before it: two writes have two steps
  pub before : length (history bytes (take index xs)) ≡ n

pub record Origins (bytes : List ℕ) (xs : List Step) : Type 0 where
  pub written_by : (n : ℕ) (w : Write) → get_elem? (history bytes xs) n ≡ some w → WrittenBy bytes xs n w
  -- every entry has a write to its key that wrote it, numbered by its stamp, and the step of that write
  pub entry_from_step : (a k : ℕ) → a < (table_of bytes).sizes.agents → k < (table_of bytes).sizes.stigmergy → 0 < stamp_of (state_after bytes xs) a k →
      (w : Write) × (w.key ≡ k) × (entry_written w ≡ entry_of (state_after bytes xs) a k) × WrittenBy bytes xs (stamp_of (state_after bytes xs) a k - 1) w
  -- there is one clock, so it is the length of the history
  pub clock : clock_of (state_after bytes xs) ≡ length (history bytes xs)

-- for every table that load accepts, and every list of steps
abbrev pub OriginsHold : Type 0
OriginsHold =
    (bytes lent : List ℕ) (scratch : ℕ) → (load_of bytes lent scratch).check ≡ passes → (xs : List Step) → Origins bytes xs
