-- What is printed of a rehearsal, by its answer.
-- Assumes nothing.
use mathlib.Core.Path.{◌≡◌, sym, ap, ◌∙◌}
use mathlib.Core.List.{List, ◌++◌}
use Prim.Native.Nat.{ℕ}
use Rattle.std.specs.Prelude.{Result, Ok, Err}
use Rattle.table.specs.declared.refusals.Refused.{Refused}
use Rattle.table.specs.Checks.{number_of, place_of}
use Rattle.table.specs.Refusals.{check_of, result_check}
use Rattle.table.proofs.Refusing.{refuses_so}
use Rattle.steps.specs.Runs.{Rehearsal}
use Rattle.machine.specs.declared.Totals.{Totals}
use Rattle.machine.specs.Answers.{run_totals, totals_of}
use Rattle.lines.specs.Lines.{totals_line, refused_line, state_lines, shown}
use Rattle.labs_show.specs.Rehearsal.{Rehearses}

module _ {o : Rehearsal} {r : Result Totals Refused} {after bytes : List ℕ} (h : Rehearses o r after bytes) where
  check : (x : Result Totals Refused) → r ≡ x → o.check ≡ result_check x
  check x e = sym h.runs.check ∙ ap (λ (y : Result Totals Refused). result_check y) e

  pub shown_done : (counts : Totals) → r ≡ Ok counts → shown o ≡ totals_line counts ++ state_lines after
  unfolding shown
  shown_done counts e =
      let t : totals_of o.progress ≡ counts = sym h.runs.reports.totals ∙ ap (λ (y : Result Totals Refused). run_totals y) e in
      rw (shown, check (Ok counts) e)
      (ap (λ (x : Totals). totals_line x ++ state_lines o.progress.state) t ∙ ap (λ (s : List ℕ). totals_line counts ++ state_lines s) (sym h.runs.reports.state))

  pub shown_refused : (e : Refused) → r ≡ Err e → shown o ≡ refused_line (number_of (check_of e)) (place_of (check_of e))
  unfolding shown
  shown_refused e f = rw (shown, check (Err e) f ∙ refuses_so e)
