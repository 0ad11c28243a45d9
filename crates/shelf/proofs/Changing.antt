-- A call that is refused, and one that is done.
-- Assumes nothing.
use Rattle.std.proofs.Common.{ℕ, ◌≡◌, sym, ◌∙◌, List, Ok, Err}
use Rattle.table.specs.declared.refusals.Refused.{Refused}
use Rattle.table.specs.Checks.{Check, passes}
use Rattle.table.specs.Refusals.{check_of}
use Rattle.table.proofs.Refusing.{refuses_so}
use Rattle.steps.specs.Points.{change}
use Rattle.steps.proofs.Points.{change_check, change_done, change_refused}
use Rattle.shelf.specs.Answers.{Changes}

module _ (was words : List ℕ) (c : Check) where
  pub answers_refused : (e : Refused) → c ≡ check_of e → Changes (change c was words) (Err e) was
  answers_refused e f = record { check = sym (change_check was words c ∙ f); words = sym (change_refused was words c (f ∙ refuses_so e)) }

  pub answers_done : {left : List ℕ} → c ≡ passes → left ≡ words → Changes (change c was words) (Ok tt) left
  answers_done e f = record { check = sym (change_check was words c ∙ e); words = f ∙ sym (change_done was words c e) }
