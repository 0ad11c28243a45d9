-- What a call answers that reports nothing, load, save, restore and drop, is what the definitions give.
use Rattle.std.specs.Prelude.{ℕ, ◌≡◌, List, Result}
use Rattle.table.specs.Checks.{Check}
use Rattle.table.specs.declared.refusals.Refused.{Refused}
use Rattle.table.specs.Refusals.{result_check}

-- the answer r is check c, and the buffer that the call may write holds the words ws after
pub record Answers (c : Check) (ws : List ℕ) (r : Result (Unit {0}) Refused) (after : List ℕ) : Type 0 where
  pub check : result_check r ≡ c
  pub words : after ≡ ws
