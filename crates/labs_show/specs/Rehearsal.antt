-- Load, then run.
use Rattle.std.specs.Prelude.{ℕ, ◌≡◌, List, take, drop, Result, Ok}
use Rattle.table.specs.Checks.{passes, refuses}
use Rattle.steps.specs.Steps.{load_of}
use Rattle.steps.specs.Runs.{begun, Rehearsal, run_of}
use Rattle.machine.specs.declared.Totals.{Totals}
use Rattle.table.specs.declared.refusals.Refused.{Refused}
use Rattle.machine.specs.Answers.{Runs}
use Rattle.labs_show.specs.Input.{table_end}
use Rattle.lines.specs.Writing.{Fleet}

-- a refused load is the whole answer, and changes nothing
unfoldable pub rehearsed : List ℕ → List ℕ → List ℕ → ℕ → List ℕ → Rehearsal
rehearsed table schedule was scratch answers =
    elim (load_of table was scratch).check [
      | passes ↦ run_of table (load_of table was scratch).state scratch schedule answers
      | refuses number place ↦ record { check = refuses number place; progress = begun was answers }
    ]

-- what follows the table is the schedule
abbrev pub rehearsed_input : List ℕ → List ℕ → ℕ → List ℕ → Rehearsal
rehearsed_input input = rehearsed (take (table_end input) input) (drop (table_end input) input)

-- the answer, the state and the answer bytes are those of a rehearsal; where it is done, the state can be printed
pub record Rehearses (o : Rehearsal) (r : Result Totals Refused) (after bytes : List ℕ) : Type 0 where
  pub runs : Runs o r after bytes
  pub fleet : (counts : Totals) → r ≡ Ok counts → Fleet after
