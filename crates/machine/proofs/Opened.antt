-- A step, a preview and a run of what checks 1 to 9 leave.
-- Assumes nothing.
use Rattle.std.proofs.Common.{ℕ, ◌+◌, true, ◌≡◌, refl, sym, ap, subst, ◌∙◌, List, ◌++◌, Result, Ok, Err, length}
use lib.Seq.{get_or-drop}
use Rattle.table.specs.declared.fleets.Fleet.{Fleet}
use Rattle.table.specs.declared.refusals.Refused.{Refused}
use Rattle.table.specs.Checks.{Check, passes, first_of}
use Rattle.table.specs.Tables.{Table, sizes_of, table_of}
use Rattle.table.specs.Fleets.{table_in}
use Rattle.table.specs.Refusals.{check_of}
use Rattle.table.proofs.Checks.{append_later}
use Rattle.table.proofs.Refusing.{refuses_so, refused_first}
use Rattle.state.specs.Layout.{is_whole}
use Rattle.steps.specs.declared.Tally.{Tally}
use Rattle.steps.specs.Steps.{Outcome, outcome, tally_of, after, step_checks, state_checks, step_in, step_of}
use Rattle.steps.specs.Previews.{preview_of}
use Rattle.steps.specs.Runs.{steps_of, schedule_checks, begun, ran, Progress, run_of}
use Rattle.steps.proofs.Steps.{step_in_lem, step_stopped}
use Rattle.steps.proofs.Previews.{preview_in, preview_stopped}
use Rattle.opening.specs.Opening.{Opens}
use Rattle.machine.specs.declared.Totals.{Totals}
use Rattle.machine.specs.Answers.{Steps, Reports, Runs}
use Rattle.machine.specs.Running.{IsNarrow}
use Rattle.machine.specs.Stepping.{into}
use Rattle.machine.proofs.Outcomes.{refused_so, steps_stopped, into_outcome}

-- STEP
module _ {bytes was before after : List ℕ} (kind x number : ℕ) where
  pub step_refused : {e : Refused} → Opens true bytes was before after (Err e) → Steps (step_of bytes was (length before) kind x number) (Err e) was
  step_refused {e} a = steps_stopped e was (step_stopped bytes was (length before) kind x number (sym a.check ∙ refuses_so e) ∙ refused_so e was)

  pub step_opened : {f : Fleet} → Opens true bytes was before after (Ok f) → {s : Result Tally Refused} {left : List ℕ}
      → Steps (step_in (table_in f) was kind x number) s left → Steps (step_of bytes was (length before) kind x number) s left
  step_opened {f} a {s} {left} h =
      subst (λ (o : Outcome). Steps o s left)
      (ap (λ (t : Table). step_in t was kind x number) (a.opened f refl).fleet ∙ sym (step_in_lem bytes was (length before) kind x number (sym a.check))) h

-- PREVIEW
into_step : (next was : List ℕ) (t : Table) (kind x number : ℕ)
    → into next (step_in t was kind x number) ≡ outcome (first_of (step_checks t was kind x number)) next (tally_of t was kind x number) (after t was kind x number)
unfolding step_in
into_step next was t kind x number = into_outcome next was (tally_of t was kind x number) (after t was kind x number) (first_of (step_checks t was kind x number))

module _ (next : List ℕ) {bytes was before after : List ℕ} (kind x number : ℕ) where
  pub preview_refused : {e : Refused} → Opens (is_whole next) bytes was before after (Err e) → Steps (preview_of bytes was (length before) kind x number next) (Err e) next
  preview_refused {e} a =
      steps_stopped e next (preview_stopped bytes was (length before) kind x number next (sym a.check ∙ refuses_so e) ∙ refused_so e next)

  pub preview_opened : {f : Fleet} → Opens (is_whole next) bytes was before after (Ok f) → {s : Result Tally Refused} {left : List ℕ}
      → Steps (into next (step_in (table_in f) was kind x number)) s left → Steps (preview_of bytes was (length before) kind x number next) s left
  preview_opened {f} a {s} {left} h =
      subst (λ (o : Outcome). Steps o s left)
      (ap (λ (t : Table). into next (step_in t was kind x number)) (a.opened f refl).fleet ∙ into_step next was (table_of bytes) kind x number
      ∙ sym (preview_in bytes was (length before) kind x number next (sym a.check))) h

-- RUN
module _ (bytes was before after schedule answers : List ℕ) where
  abbrev whole : Check
  whole = first_of (state_checks bytes was (length before) ++ schedule_checks schedule answers)

  run_passes : whole ≡ passes → (run_of bytes was (length before) schedule answers).progress ≡ ran (table_of bytes) schedule (steps_of schedule) (begun was answers)
  unfolding run_of
  run_passes e = rw (run_of, e)

  refused_run : (e : Refused) → check_of e ≡ whole → Runs (run_of bytes was (length before) schedule answers) (Err e) was answers
  unfolding run_of
  refused_run e h =
      let f = sym h ∙ refuses_so e in
      record { check = h; reports = record { totals = rw (run_of, f); state = rw (run_of, f); answers = rw (run_of, f) } }

  pub run_refused : {e : Refused} → Opens true bytes was before after (Err e) → Runs (run_of bytes was (length before) schedule answers) (Err e) was answers
  run_refused {e} a = refused_run e (refused_first (state_checks bytes was (length before)) (schedule_checks schedule answers) e a.check)

  module _ {f : Fleet} (a : Opens true bytes was before after (Ok f)) where
    later : whole ≡ first_of (schedule_checks schedule answers)
    later = append_later (state_checks bytes was (length before)) (schedule_checks schedule answers) (sym a.check)

    pub opened_narrow : IsNarrow bytes → IsNarrow (table_in f).operands
    opened_narrow narrow =
        subst (λ (t : Table). IsNarrow t.operands) (sym (a.opened f refl).fleet)
        (λ i. rw (get_or-drop (12 + (sizes_of bytes).nodes) bytes i 0) (narrow (12 + (sizes_of bytes).nodes + i)))

    pub run_unscheduled : {e : Refused} → first_of (schedule_checks schedule answers) ≡ check_of e → Runs (run_of bytes was (length before) schedule answers) (Err e) was answers
    run_unscheduled {e} g = refused_run e (sym (later ∙ g))

    pub run_opened : {c : Totals} {left out : List ℕ} {m : ℕ} → first_of (schedule_checks schedule answers) ≡ passes → m ≡ steps_of schedule
        → Reports (ran (table_in f) schedule m (begun was answers)) c left out → Runs (run_of bytes was (length before) schedule answers) (Ok c) left out
    unfolding run_of
    run_opened {c} {left} {out} g h r =
        record {
          check = sym (later ∙ g);
          reports = subst (λ (p : Progress). Reports p c left out)
              ((λ j. ran ((a.opened f refl).fleet j) schedule (h j) (begun was answers)) ∙ sym (run_passes (later ∙ g))) r;
        }
