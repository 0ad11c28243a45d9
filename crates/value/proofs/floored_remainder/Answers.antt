-- `value::floored_remainder` meets its contract: by the tests, the rest is handed back or the divisor is added, as `floored` has it.
-- Assumes nothing.
use mathlib.Core.Bool.{Bool, true, false, cond}
use mathlib.Core.Path.{◌≡◌, sym, subst, ◌∙◌}
use native.Mathlib.Omega.{arith}
use lib.IntN.{ℤ, pos, ◌+ℤ◌}
use lib.Signed.{lt_z, rem_z, mag_rem}
use mir.Syntax.{w32}
use mir.Val.{SFits, to_z, of_z}
use mir.Facts.{to_z-of_z}
use Rattle.value.specs.Values.{floor_rem}
use Rattle.value.proofs.Floored.{floored, floor_fits}
use Rattle.value.proofs.floored_remainder.Goals as goal
use Rattle.value.proofs.floored_remainder.Goals.{After-wrapping_rem-rest}

module _ (c : After-wrapping_rem-rest) where
  -- divisor and rest, as they are read back
  abbrev y : ℤ
  y = to_z w32 (of_z w32 c.args.y)

  abbrev rest : ℤ
  rest = to_z w32 (of_z w32 c.wrapping_rem-rest.result)

  rest-is : c.wrapping_rem-rest.result ≡ rem_z c.args.x c.args.y
  rest-is = rw (to_z-of_z c.ranges.x, to_z-of_z c.ranges.y) at c.wrapping_rem-rest.ensures

  rest-fits : SFits w32 c.wrapping_rem-rest.result
  rest-fits = rw rest-is (record { sfits = omega (arith, mag_rem c.args.x c.args.y, c.ranges.x.sfits) })

  -- the result, by the tests that are made
  chosen : floor_rem c.args.x c.args.y ≡ cond (lt_z y (pos 0)) (cond (lt_z (pos 0) rest) (rest +ℤ y) rest) (cond (lt_z rest (pos 0)) (rest +ℤ y) rest)
  chosen = rw (to_z-of_z rest-fits, to_z-of_z c.ranges.y, rest-is) (floored c.args.x c.args.y c.requires)

  below : {b : Bool} → lt_z y (pos 0) ≡ true → lt_z (pos 0) rest ≡ b → floor_rem c.args.x c.args.y ≡ cond b (rest +ℤ y) rest
  below e f = rw (e, f) at chosen

  above : {b : Bool} → lt_z y (pos 0) ≡ false → lt_z rest (pos 0) ≡ b → floor_rem c.args.x c.args.y ≡ cond b (rest +ℤ y) rest
  above e f = rw (e, f) at chosen

  result-is : {z : ℤ} → floor_rem c.args.x c.args.y ≡ z → to_z w32 (of_z w32 z) ≡ floor_rem c.args.x c.args.y
  result-is e = to_z-of_z (subst (SFits w32) e (floor_fits c.args.x c.args.y c.requires c.ranges.y)) ∙ sym e

pub returns-then-rest-gt0 : goal.returns-then-rest-gt0
returns-then-rest-gt0 c = let s = (goal.at.returns-then-rest-gt0 c).After-wrapping_rem-rest in result-is s (below s c.if-y-lt0.true c.if-rest-gt0.true)

pub returns-else-rest-gt0 : goal.returns-else-rest-gt0
returns-else-rest-gt0 c = sym (below (goal.at.returns-else-rest-gt0 c).After-wrapping_rem-rest c.if-y-lt0.true c.if-rest-gt0.false)

pub returns-then-rest-lt0 : goal.returns-then-rest-lt0
returns-then-rest-lt0 c = let s = (goal.at.returns-then-rest-lt0 c).After-wrapping_rem-rest in result-is s (above s c.if-y-lt0.false c.if-rest-lt0.true)

pub returns-else-rest-lt0 : goal.returns-else-rest-lt0
returns-else-rest-lt0 c = sym (above (goal.at.returns-else-rest-lt0 c).After-wrapping_rem-rest c.if-y-lt0.false c.if-rest-lt0.false)
