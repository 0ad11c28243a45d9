-- What is known of a table that was accepted.
use Rattle.std.specs.Prelude.{ℕ, List}
use Rattle.table.specs.Tables.{Table}
use Rattle.term.specs.Accepted.{Checked}
use Rattle.accept.specs.Scratch.{Counted}

-- the table has been checked, and the words hold the counts of its nodes
pub record Prepared (t : Table) (s : List ℕ) : Type 0 where
  pub checked : Checked t
  pub counted : Counted t s
