-- Refusals 19 and 20.
-- Assumes nothing.
use Prim.Native.Nat.{ℕ, ◌+◌, ◌*◌, ◌<◌, ◌≤◌}
use mathlib.Core.Bool.{Bool, true, false, not, ◌||◌}
use mathlib.Core.Logic.{◌⊎◌, ⊎_elim}
use mathlib.Core.Path.{◌≡◌, ap, subst, ◌∙◌}
use mathlib.Core.List.{List, [], ◌∷◌}
use native.Mathlib.Omega.{arith}
use lib.Dec.{eqb, ltb}
use lib.ListN.{length}
use borrow.Author.Tests.{lt-ltb, le-ltb, eq-eqb, ne_eqb}
use Rattle.basis.proofs.Tests.{or_left, or_right}
use Rattle.table.specs.Checks.{passes, refuses, refuse_if, first_of}
use Rattle.table.proofs.Checks.{first_refuses, first_later}
use Rattle.steps.specs.Runs.{step_limit, steps_of, schedule_checks}
use Rattle.steps.proofs.Schedules.{schedule_checks_lem}
use Rattle.machine.specs.Whole.{Whole}

module _ (schedule answers : List ℕ) where
  abbrev n : ℕ
  n = steps_of schedule

  abbrev long : Bool
  long = ltb step_limit n

  abbrev odd : Bool
  odd = not (eqb (length schedule) (2 + 5 * n))

  abbrev wrong : Bool
  wrong = ltb (length schedule) 2 || (odd || long)

  refused_19 : wrong ≡ true → first_of (schedule_checks schedule answers) ≡ refuses 19 0
  refused_19 e = first_refuses (refuse_if 19 wrong) _ e

  pub schedule_short : length schedule < 2 → first_of (schedule_checks schedule answers) ≡ refuses 19 0
  schedule_short h = refused_19 (or_left (ltb (length schedule) 2) (odd || long) (lt-ltb (length schedule) 2 h))

  pub schedule_odd : (length schedule ≡ 2 + 5 * n → ⊥) → first_of (schedule_checks schedule answers) ≡ refuses 19 0
  schedule_odd h = refused_19 (or_right (ltb (length schedule) 2) (odd || long) (or_left odd long (ap not (ne_eqb (length schedule) (2 + 5 * n) h))))

  pub schedule_long : step_limit < n → first_of (schedule_checks schedule answers) ≡ refuses 19 0
  schedule_long h = refused_19 (or_right (ltb (length schedule) 2) (odd || long) (or_right odd long (lt-ltb step_limit n h)))

  pub schedule_wrong : (length schedule < 2) ⊎ ((length schedule ≡ 2 + 5 * n → ⊥) ⊎ (step_limit < n)) → first_of (schedule_checks schedule answers) ≡ refuses 19 0
  schedule_wrong h = ⊎_elim schedule_short (λ g. ⊎_elim schedule_odd schedule_long g) h

  module _ (size : length schedule ≡ 2 + 5 * n) (few : n ≤ step_limit) where
    right : wrong ≡ false
    right = rw (le-ltb (length schedule) 2 (omega arith), eq-eqb (length schedule) (2 + 5 * n) size, le-ltb step_limit n few)

    past_19 : first_of (schedule_checks schedule answers) ≡ first_of (refuse_if 20 (ltb (length answers) n) ∷ [])
    past_19 = first_later (refuse_if 19 wrong) _ right

    pub answers_short : length answers < n → first_of (schedule_checks schedule answers) ≡ refuses 20 0
    answers_short h = past_19 ∙ first_refuses (refuse_if 20 (ltb (length answers) n)) [] (lt-ltb (length answers) n h)

    pub schedule_passes : n ≤ length answers → first_of (schedule_checks schedule answers) ≡ passes
    schedule_passes h = (schedule_checks_lem schedule answers).1 (size, few, h)

-- of the bytes that code has measured
pub whole_is : (bytes : List ℕ) (n : ℕ) → Whole bytes n → Whole bytes (steps_of bytes)
whole_is bytes n w = subst (λ (m : ℕ). Whole bytes m) w.is w
