-- `value::operate` meets its contract.
-- Assumes nothing.
use mathlib.Core.Path.{◌≡◌, ◌∙◌}
use mir.Syntax.{w32}
use mir.Val.{SFits, to_z, of_z}
use mir.Facts.{to_z-of_z}
use Rattle.std.proofs.Common.{rules}
use Rattle.value.specs.Values.{signed_of}
use Rattle.value.proofs.operate.Goals as goal
use Rattle.value.proofs.operate.Goals.{After-compute}

-- the numbers as they are read back
module _ (c : After-compute) where
  first : to_z w32 (of_z w32 c.cast_signed.result) ≡ signed_of c.in_ok-a.field-0
  first = let f : SFits w32 c.cast_signed.result = record { sfits = c.cast_signed.type_inv } in to_z-of_z f ∙ c.cast_signed.ensures

  second : to_z w32 (of_z w32 c.cast_signed-2.result) ≡ signed_of c.in_ok-b.field-0
  second = let f : SFits w32 c.cast_signed-2.result = record { sfits = c.cast_signed-2.type_inv } in to_z-of_z f ∙ c.cast_signed-2.ensures

pub returns-in_err-result : goal.returns-in_err-result
returns-in_err-result c =
    let s = (goal.at.returns-in_err-result c).After-compute in
    rw (c.in_ok-a.was, c.in_ok-b.was) (c.from_residual-in_err-result.ensures ∙ (rw (first s, second s) at c.in_err-result.ensures))

pub returns : goal.returns
returns c =
    let s = (goal.at.returns c).After-compute in
    let f : SFits w32 c.in_ok-result.result = search rules in
    rw (c.in_ok-a.was, c.in_ok-b.was, c.cast_unsigned.ensures, to_z-of_z f) (rw (first s, second s) at c.in_ok-result.ensures)
