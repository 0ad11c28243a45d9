-- What is known of a table and a state where checks 1 to 9 have passed.
use Rattle.std.specs.Prelude.{ℕ, Bool, ◌≡◌, List, length, Result, Ok}
use Rattle.table.specs.Checks.{first_of}
use Rattle.table.specs.Tables.{table_of}
use Rattle.table.specs.declared.fleets.Fleet.{Fleet}
use Rattle.table.specs.Fleets.{table_in}
use Rattle.table.specs.declared.refusals.Refused.{Refused}
use Rattle.table.specs.Refusals.{result_check}
use Rattle.accept.specs.Prepared.{Prepared}
use Rattle.state.specs.WellFormed.{Proper}
use Rattle.steps.specs.Steps.{state_checks_with}

-- a table, a state, and the words that hold the counts of its nodes
pub record Open (bytes was scratch : List ℕ) (f : Fleet) : Type 0 where
  pub fleet : table_in f ≡ table_of bytes
  pub ready : Prepared (table_in f) scratch
  pub proper : Proper (table_in f) was

-- the answer r by checks 1 to 9; the words before and after
pub record Opens (othersFit : Bool) (bytes was before after : List ℕ) (r : Result Fleet Refused) : Type 0 where
  pub check : result_check r ≡ first_of (state_checks_with othersFit bytes was (length before))
  pub opened : (f : Fleet) → r ≡ Ok f → Open bytes was after f
