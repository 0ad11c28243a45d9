-- What refusals 1 to 9 leave.
-- Assumes nothing.
use Rattle.std.proofs.Common.{ℕ, Bool, true, false, not, ◌&&◌, ◌≡◌, refl, sym, ap, subst, ◌∙◌, List, [], ◌∷◌, Ok, Err, length, arith}
use borrow.Author.Tests.{eqb-true}
use Rattle.basis.proofs.Tests.{and_right}
use Rattle.table.specs.declared.fleets.Fleet.{Fleet}
use Rattle.table.specs.declared.refusals.Refused.{Refused}
use Rattle.table.specs.declared.refusals.Refused.TheVariants.{StateNotWellFormed}
use Rattle.table.specs.Checks.{Refusal, refuse_if}
use Rattle.table.specs.Tables.{Table, table_of}
use Rattle.table.specs.Fleets.{table_in}
use Rattle.table.proofs.Checks.{first_both, first_refuses, none_passes}
use Rattle.table.proofs.Refusing.{refused_first, passed_first}
use Rattle.term.specs.Accepted.{Acceptable}
use Rattle.term.specs.Acceptance.{table_checks}
use Rattle.accept.specs.Answers.{Accepts}
use Rattle.accept.specs.Prepared.{Prepared}
use Rattle.accept.proofs.Answering.{accepted_table}
use Rattle.state.specs.Layout.{state_words, is_whole}
use Rattle.state.specs.WellFormed.{well_formed, Words}
use Rattle.wellformed.specs.Given.{CheckGiven}
use Rattle.opening.specs.Opening.{Opens}

-- an accepted table, whose counts the words hold
pub accepted_ready : {bytes : List ℕ} {fits : Bool} {before after : List ℕ} {f : Fleet} → Accepts bytes fits before after (Ok f) → Prepared (table_in f) after
accepted_ready {after = after} {f} a =
    subst (λ (t : Table). Prepared t after) (sym (a.fleet f refl)) (record { checked = (accepted_table a refl).table; counted = a.counted f refl })

-- told whether the state, and what the call lends besides, have their lengths
module _ (othersFit : Bool) (bytes was before after : List ℕ) where
  abbrev fits : Bool
  fits = othersFit && is_whole was

  abbrev formed : Refusal
  formed = refuse_if 9 (not (well_formed (table_of bytes) was))

  pub open_refused : {e : Refused} → Accepts bytes fits before after (Err e) → Opens othersFit bytes was before after (Err e)
  open_refused {e} a =
      record { check = refused_first (table_checks bytes fits (length before)) (formed ∷ []) e a.check; opened = λ f g. cc }

  module _ {f : Fleet} (a : Accepts bytes fits before after (Ok f)) where
    fit : is_whole was ≡ true
    fit = let l : Acceptable bytes fits (length before) = accepted_table a refl in and_right othersFit (is_whole was) l.fit

    whole : length was ≡ state_words
    whole = eqb-true (length was) state_words fit

    pub check_given : CheckGiven f.sizes f.kinds.now was
    check_given = record { limits = f.shaped.limits; nodes = omega (arith, f.shaped.kinds); blocks = omega (arith, whole) }

    module _ {b : Bool} (e : b ≡ well_formed (table_in f) was) where
      same : b ≡ well_formed (table_of bytes) was
      same = e ∙ ap (λ (t : Table). well_formed t was) (a.fleet f refl)

      pub open_broken : b ≡ false → Opens othersFit bytes was before after (Err StateNotWellFormed)
      open_broken g =
          record {
            check = passed_first (table_checks bytes fits (length before)) (formed ∷ []) a.check
                (sym (first_refuses formed [] (ap not (sym same ∙ g))));
            opened = λ f g. cc;
          }

      pub open_formed : Words was → b ≡ true → Opens othersFit bytes was before after (Ok f)
      open_formed small g =
          record {
            check = passed_first (table_checks bytes fits (length before)) (formed ∷ []) a.check
                (sym (first_both formed [] (ap not (sym same ∙ g)) none_passes));
            opened = λ h k. let i : h ≡ f = cc in rw i (record {
              fleet = a.fleet f refl;
              ready = accepted_ready a;
              proper = record { whole = whole; small = small; formed = sym e ∙ g };
            });
          }
