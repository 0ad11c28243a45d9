-- What a step reports is small: it counts each of at most 32 agents once.
-- Assumes nothing.
use Prim.Native.Nat.{ℕ}
use mathlib.Core.Bool.{Bool, true}
use mathlib.Core.Path.{◌≡◌, refl}
use mathlib.Core.List.{List, ◌++◌}
use Rattle.table.specs.Checks.{Check, passes, refuses, Refusal, first_of}
use Rattle.table.specs.Tables.{Table, table_of}
use Rattle.table.proofs.Checks.{append_refuses}
use Rattle.state.specs.Layout.{is_whole}
use Rattle.steps.specs.Steps.{outcome, tally_of, after, step_checks, state_checks_with, step_of}
use Rattle.steps.specs.Previews.{preview_of}
use Rattle.steps.proofs.Steps.{outcome_refused, checks_with}
use Rattle.offering.specs.Passing.{TallyWithin}
use Rattle.machine.proofs.Sums.{none_within, outcome_within, tally_within}

module _ (bytes was : List ℕ) (scratch kind x number : ℕ) where
  abbrev t : Table
  t = table_of bytes

  abbrev checks : List Refusal
  checks = step_checks t was kind x number

  -- in any buffer, lent with others that fit or not
  with_within : (othersFit : Bool) (lent : List ℕ)
      → TallyWithin 1 (outcome (first_of (state_checks_with othersFit bytes was scratch ++ checks)) lent (tally_of t was kind x number) (after t was kind x number)).tally
  with_within othersFit lent = by (first_of opening) refl
    where
      opening : List Refusal
      opening = state_checks_with othersFit bytes was scratch

      by : (c : Check) → first_of opening ≡ c
          → TallyWithin 1 (outcome (first_of (opening ++ checks)) lent (tally_of t was kind x number) (after t was kind x number)).tally
      by passes e =
          outcome_within lent (tally_of t was kind x number) (after t was kind x number)
          (tally_within t ((checks_with othersFit bytes was scratch).0 e).0.table.sound.shaped.limits.agents was kind x number) (first_of (opening ++ checks))
      by (refuses n place) e =
          rw (outcome_refused lent (tally_of t was kind x number) (after t was kind x number) (first_of (opening ++ checks)) (append_refuses opening checks e)) none_within

  pub step_within : TallyWithin 1 (step_of bytes was scratch kind x number).tally
  unfolding step_of
  step_within = with_within true was

  pub preview_within : (next : List ℕ) → TallyWithin 1 (preview_of bytes was scratch kind x number next).tally
  unfolding preview_of
  preview_within next = with_within (is_whole next) next
