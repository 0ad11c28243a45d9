-- Laws of refusals in code: none of them passes, and the first check that refuses decides.
-- Assumes nothing.
use mathlib.Core.Path.{◌≡◌, refl, sym, ◌∙◌}
use mathlib.Core.List.{List, ◌++◌}
use Rattle.table.specs.Checks.{Check, passes, refuses, Refusal, first_of, number_of, place_of}
use Rattle.table.specs.Refusals.{check_of}
use Rattle.table.specs.declared.refusals.Refused.{Refused}
use Rattle.table.specs.declared.refusals.Refused.TheVariants.{TableShort, SizeOutsideLimits, TableLength, BadNode, WrongParty, ExposedCall, NodeDerivations, BufferLength, StateNotWellFormed, StepOutOfRange, KeysPending, ResidualDerivations, NoSuchChoice, GuardFails, ExpressionAbsent, ClockAtEnd, ResidualTooLong, KeyNotInSet, ScheduleLength, AnswersShort, NoSuchName, ShelfFull}
use Rattle.table.proofs.Checks.{refused, append_later, append_refuses}

pub refuses_so : (e : Refused) → check_of e ≡ refuses (number_of (check_of e)) (place_of (check_of e))
refuses_so TableShort = refl
refuses_so SizeOutsideLimits = refl
refuses_so TableLength = refl
refuses_so (BadNode place) = refl
refuses_so (WrongParty place) = refl
refuses_so (ExposedCall place) = refl
refuses_so (NodeDerivations place) = refl
refuses_so BufferLength = refl
refuses_so StateNotWellFormed = refl
refuses_so StepOutOfRange = refl
refuses_so KeysPending = refl
refuses_so ResidualDerivations = refl
refuses_so NoSuchChoice = refl
refuses_so GuardFails = refl
refuses_so ExpressionAbsent = refl
refuses_so ClockAtEnd = refl
refuses_so ResidualTooLong = refl
refuses_so KeyNotInSet = refl
refuses_so ScheduleLength = refl
refuses_so AnswersShort = refl
refuses_so NoSuchName = refl
refuses_so ShelfFull = refl

pub not_passed : (e : Refused) → check_of e ≡ passes → ⊥
not_passed e f = refused (sym (refuses_so e) ∙ f)

-- of two lists of checks in a row
module _ (rs qs : List Refusal) where
  pub refused_first : (e : Refused) → check_of e ≡ first_of rs → check_of e ≡ first_of (rs ++ qs)
  refused_first e f = refuses_so e ∙ sym (append_refuses rs qs (sym f ∙ refuses_so e))

  pub passed_first : {c : Check} → passes ≡ first_of rs → c ≡ first_of qs → c ≡ first_of (rs ++ qs)
  passed_first f g = g ∙ sym (append_later rs qs (sym f))
