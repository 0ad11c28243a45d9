-- What judging a table answers.
use Rattle.std.specs.Prelude.{ℕ, Bool, not, ◌||◌, ◌≡◌, List, length, ltb, Result, Ok}
use Rattle.table.specs.Checks.{passes, Refusal, refuse_if, first_of}
use Rattle.table.specs.Refusals.{result_check}
use Rattle.table.specs.Tables.{Table, table_of}
use Rattle.table.specs.Fleets.{table_in}
use Rattle.table.specs.declared.Sizes.{Sizes}
use Rattle.table.specs.declared.fleets.Fleet.{Fleet}
use Rattle.table.specs.declared.refusals.Refused.{Refused}
use Rattle.term.specs.Acceptance.{scratch_words, table_checks}
use Rattle.accept.specs.Scratch.{Counted}

-- 8, of a table with these sizes
abbrev pub lent_line : Sizes → Bool → ℕ → Refusal
lent_line sizes fits scratchLength = refuse_if 8 (not fits || ltb scratchLength (scratch_words sizes))

-- the answer r by some checks; s is what the words hold then
pub record Judged (t : Table) (checks : List Refusal) (s : List ℕ) (r : Result Unit Refused) : Type 0 where
  pub check : result_check r ≡ first_of checks
  pub counted : result_check r ≡ passes → Counted t s

-- the answer r by all of them; the words before and after
pub record Accepts (bytes : List ℕ) (fits : Bool) (before after : List ℕ) (r : Result Fleet Refused) : Type 0 where
  pub check : result_check r ≡ first_of (table_checks bytes fits (length before))
  pub fleet : (f : Fleet) → r ≡ Ok f → table_in f ≡ table_of bytes
  pub counted : (f : Fleet) → r ≡ Ok f → Counted (table_of bytes) after
  pub same_length : length after ≡ length before
