-- An act's checks in order: what is judged where the earlier ones have passed.
-- Assumes nothing.
use Prim.Native.Nat.{ℕ, ◌<◌, ◌≤◌}
use mathlib.Core.Bool.{Bool, true, false, not, ◌&&◌}
use mathlib.Core.Path.{◌≡◌, sym, ap, subst, ◌∙◌}
use mathlib.Core.List.{List, ◌∷◌}
use Rattle.std.specs.Prelude.{Result, Err}
use lib.Dec.{eqb, leb}
use lib.ListN.{length}
use borrow.Author.Tests.{le-leb, lt-leb}
use Rattle.table.proofs.Checks.{first_refuses, first_later}
use Rattle.table.specs.Checks.{Check, Refusal, refuse_if, first_of}
use Rattle.table.specs.Tables.{Table}
use Rattle.table.specs.declared.refusals.Refused.{Refused}
use Rattle.table.specs.declared.refusals.Refused.TheVariants.{KeysPending, ResidualDerivations, NoSuchChoice, GuardFails}
use Rattle.term.specs.declared.Label.{Label}
use Rattle.term.specs.Terms.{words}
use Rattle.term.specs.Processes.{all_few}
use Rattle.choice.specs.declared.Effect.{Effect}
use Rattle.choice.specs.Outcomes.{Tells}
use Rattle.state.specs.Layout.{zc_of, zp_of, term_in}
use Rattle.steps.specs.Acts.{choices, chosen, all_hold, act_checks, last_checks}
use Rattle.judging.specs.declared.Allowed.{Allowed}
use Rattle.judging.specs.Guards.{guard_keys}
use Rattle.judging.specs.Judging.{Judges}
use Rattle.judging.specs.Outcomes.{Found, Ended}

module _ (t : Table) (was : List ℕ) (x c : ℕ) where
  abbrev idle : Bool
  idle = eqb (zc_of was x) 0 && eqb (zp_of was x) 0

  abbrev held : Bool
  held = all_hold t was x (chosen t was x c).guards

  -- the checks from 15, 14, 13 and 12 on
  abbrev from15 : List Refusal
  from15 = last_checks t was x (chosen t was x c).label (length (words (chosen t was x c).leaving))

  abbrev from14 : List Refusal
  from14 = refuse_if 14 (not held) ∷ from15

  abbrev from13 : List Refusal
  from13 = refuse_if 13 (leb (length (choices t was x)) c) ∷ from14

  abbrev from12 : List Refusal
  from12 = refuse_if 12 (not (all_few t (term_in was x))) ∷ from13

  pub judges_11 : not (eqb (zc_of was x) 0 && eqb (zp_of was x) 0) ≡ true → Judges t was x c (Err KeysPending)
  judges_11 e = first_refuses (refuse_if 11 (not idle)) from12 e

  module _ (confirmed : zc_of was x ≡ 0) (propagated : zp_of was x ≡ 0) where
    past_11 : first_of (act_checks t was x c) ≡ first_of from12
    past_11 = first_later (refuse_if 11 (not idle)) from12 (rw (confirmed, propagated))

    pub judges_12 : all_few t (term_in was x) ≡ false → Judges t was x c (Err ResidualDerivations)
    judges_12 e = past_11 ∙ first_refuses (refuse_if 12 (not (all_few t (term_in was x)))) from13 (ap not e)

    module _ (few : all_few t (term_in was x) ≡ true) where
      past_12 : first_of (act_checks t was x c) ≡ first_of from13
      past_12 = past_11 ∙ first_later (refuse_if 12 (not (all_few t (term_in was x)))) from13 (ap not few)

      pub judges_13 : length (choices t was x) ≤ c → Judges t was x c (Err NoSuchChoice)
      judges_13 h = past_12 ∙ first_refuses (refuse_if 13 (leb (length (choices t was x)) c)) from14 (le-leb (length (choices t was x)) c h)

      module _ (there : c < length (choices t was x)) where
        past_13 : first_of (act_checks t was x c) ≡ first_of from14
        past_13 = past_12 ∙ first_later (refuse_if 13 (leb (length (choices t was x)) c)) from14 (lt-leb (length (choices t was x)) c there)

        pub judges_14 : all_hold t was x (chosen t was x c).guards ≡ false → Judges t was x c (Err GuardFails)
        judges_14 e = past_13 ∙ first_refuses (refuse_if 14 (not held)) from15 (ap not e)

        -- 15 to 17, or nothing
        pub judges_last : all_hold t was x (chosen t was x c).guards ≡ true → {limit : ℕ} (o : Effect) → Tells (chosen t was x c) limit o
            → (r : Result Allowed Refused) → Ended t was x o.label (guard_keys t (chosen t was x c).guards) o.size r → Judges t was x c r
        judges_last e o tells r ends =
            let keys = guard_keys t (chosen t was x c).guards in
            subst (λ (k : Check). Found t was x (chosen t was x c).label keys k r) (sym (past_13 ∙ first_later (refuse_if 14 (not held)) from15 (ap not e)))
            (subst (λ (n : ℕ). Ended t was x (chosen t was x c).label keys n r) tells.size (subst (λ (l : Label). Ended t was x l keys o.size r) tells.label ends))
