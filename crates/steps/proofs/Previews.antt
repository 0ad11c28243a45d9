-- A preview is a step on a copy.
-- Assumes nothing.
use Prim.Native.Nat.{ℕ}
use mathlib.Core.Bool.{Bool, true, false}
use mathlib.Core.Path.{◌≡◌, refl, sym, ap, ◌∙◌}
use mathlib.Core.List.{List, ◌++◌}
use Rattle.basis.proofs.Tests.{not_both, and_left}
use Rattle.table.specs.Checks.{Check, passes, refuses, Refusal, first_of}
use Rattle.table.specs.Tables.{Table, table_of}
use Rattle.table.proofs.Checks.{append_later, append_refuses, append_passes}
use Rattle.term.specs.Acceptance.{table_checks}
use Rattle.term.proofs.Acceptance.{passes_accepted}
use Rattle.state.specs.Layout.{is_whole}
use Rattle.steps.specs.Steps.{Outcome, refused, outcome, tally_of, after, step_checks, state_checks_with, step_of}
use Rattle.steps.specs.Previews.{preview_of, OnACopy}
use Rattle.steps.proofs.Steps.{outcome_done, outcome_refused, checks_with, step_check_lem}

module _ (bytes was : List ℕ) (scratch kind x number : ℕ) (next : List ℕ) where
  abbrev t : Table
  t = table_of bytes

  abbrev preview : Outcome
  preview = preview_of bytes was scratch kind x number next

  -- its checks, where the lengths of other buffers fit or not
  abbrev opening : Bool → List Refusal
  opening fits = state_checks_with fits bytes was scratch

  abbrev checks : List Refusal
  checks = step_checks t was kind x number

  abbrev whole : Check
  whole = first_of (opening (is_whole next) ++ checks)

  pub preview_check : preview.check ≡ whole
  unfolding preview_of outcome
  preview_check = refl

  shape : preview ≡ outcome whole next (tally_of t was kind x number) (after t was kind x number)
  unfolding preview_of
  shape = refl

  -- where 1 to 9 pass, a step's own checks decide; else it is refused
  pub preview_in : first_of (opening (is_whole next)) ≡ passes → preview ≡ outcome (first_of checks) next (tally_of t was kind x number) (after t was kind x number)
  preview_in e = shape ∙ ap (λ (c : Check). outcome c next (tally_of t was kind x number) (after t was kind x number)) (append_later (opening (is_whole next)) checks e)

  stays : (n place : ℕ) → preview.check ≡ refuses n place → preview ≡ refused n place next
  stays n place e = shape ∙ outcome_refused next (tally_of t was kind x number) (after t was kind x number) whole (sym preview_check ∙ e)

  pub preview_stopped : {n place : ℕ} → first_of (opening (is_whole next)) ≡ refuses n place → preview ≡ refused n place next
  preview_stopped {n} {place} e = stays n place (preview_check ∙ append_refuses (opening (is_whole next)) checks e)

  whole_check : is_whole next ≡ true → preview.check ≡ (step_of bytes was scratch kind x number).check
  whole_check e = preview_check ∙ ap (λ (b : Bool). first_of (opening b ++ checks)) e ∙ sym (step_check_lem bytes was scratch kind x number)

  -- a buffer whose length is wrong: 1, 2, 3 or 8
  wrong_check : is_whole next ≡ false → preview.check ≡ first_of (table_checks bytes false scratch)
  wrong_check e = preview_check ∙ ap (λ (b : Bool). first_of (opening b ++ checks)) e ∙ by (first_of (table_checks bytes false scratch)) refl
    where
      by : (c : Check) → first_of (table_checks bytes false scratch) ≡ c → first_of (opening false ++ checks) ≡ first_of (table_checks bytes false scratch)
      by passes f = absurd (not_both (passes_accepted bytes false scratch f).fit refl)
      by (refuses n place) f = append_refuses (opening false) checks (append_refuses (table_checks bytes false scratch) _ f) ∙ sym f

  same : preview.check ≡ passes → preview ≡ step_of bytes was scratch kind x number
  unfolding step_of
  same e =
      let f : whole ≡ passes = sym preview_check ∙ e in
      let a = ((checks_with (is_whole next) bytes was scratch).0 (append_passes (opening (is_whole next)) checks f).0).0 in
      let fits : is_whole next ≡ true = and_left (is_whole next) (is_whole was) a.fit in
      shape ∙ outcome_done next (tally_of t was kind x number) (after t was kind x number) whole f
      ∙ sym (outcome_done was (tally_of t was kind x number) (after t was kind x number) (first_of (opening true ++ checks))
      (sym (ap (λ (b : Bool). first_of (opening b ++ checks)) fits) ∙ f))

  pub on_a_copy : OnACopy bytes was scratch kind x number next
  on_a_copy = record { done = same; refused = stays; whole = whole_check; wrong = wrong_check }
