-- 19 and 20 pass of exactly these schedules and answer buffers.
-- Assumes nothing.
use Prim.Native.Nat.{ℕ, ◌+◌, ◌*◌, ◌≤◌}
use mathlib.Core.Bool.{Bool, false, not, ◌||◌}
use mathlib.Core.Logic.{◌↔◌}
use mathlib.Core.Path.{◌≡◌}
use mathlib.Core.List.{List, []}
use native.Mathlib.Omega.{arith}
use lib.Dec.{eqb, ltb}
use lib.ListN.{length}
use borrow.Author.Tests.{le-ltb, eq-eqb, ltb-false, eqb-true, not-false}
use Rattle.basis.proofs.Tests.{or_neither}
use Rattle.table.specs.Checks.{passes, refuse_if, first_of}
use Rattle.table.proofs.Checks.{first_passes, first_both, none_passes}
use Rattle.steps.specs.Runs.{step_limit, steps_of, schedule_checks}

pub schedule_checks_lem : (schedule answers : List ℕ) → first_of (schedule_checks schedule answers) ≡ passes
    ↔ ((length schedule ≡ 2 + 5 * steps_of schedule) × (steps_of schedule ≤ step_limit) × (steps_of schedule ≤ length answers))
schedule_checks_lem schedule answers = (
  λ e.
      let f = first_passes (refuse_if 19 wrong) _ e in
      let g = first_passes (refuse_if 20 (ltb (length answers) n)) [] f.1 in
      let w = or_neither odd (ltb step_limit n) (or_neither (ltb (length schedule) 2) (odd || ltb step_limit n) f.0).1 in
      (eqb-true (length schedule) (2 + 5 * n) (not-false (eqb (length schedule) (2 + 5 * n)) w.0), ltb-false step_limit n w.1, ltb-false (length answers) n g.0),
  λ p. first_both (refuse_if 19 wrong) _ (right p) (first_both (refuse_if 20 (ltb (length answers) n)) [] (le-ltb (length answers) n p.2) none_passes),
)
  where
    n : ℕ
    n = steps_of schedule

    odd : Bool
    odd = not (eqb (length schedule) (2 + 5 * n))

    wrong : Bool
    wrong = ltb (length schedule) 2 || (odd || ltb step_limit n)

    right : (length schedule ≡ 2 + 5 * n) × (n ≤ step_limit) × (n ≤ length answers) → wrong ≡ false
    right p = rw (le-ltb (length schedule) 2 (omega (arith, p.0)), eq-eqb (length schedule) (2 + 5 * n) p.0, le-ltb step_limit n p.1)
