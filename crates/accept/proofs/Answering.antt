-- Answers of checks in order.
-- Assumes nothing.
use Prim.Native.Nat.{ℕ, ◌≤◌, ◌<◌}
use mathlib.Core.Bool.{Bool, true, false, not, or-true}
use mathlib.Core.Path.{◌≡◌, refl, sym, ap, subst, ◌∙◌}
use mathlib.Core.List.{List, [], ◌∷◌, ◌++◌}
use lib.ListN.{length}
use borrow.Author.Tests.{lt-ltb, le-ltb}
use Rattle.std.specs.Prelude.{Result, Ok, Err}
use Rattle.table.specs.declared.Sizes.{Sizes}
use Rattle.table.specs.declared.fleets.Fleet.{Fleet}
use Rattle.table.specs.declared.refusals.Refused.{Refused}
use Rattle.table.specs.declared.refusals.Refused.TheVariants.{BufferLength}
use Rattle.table.specs.Checks.{passes, Refusal, first_of}
use Rattle.table.specs.Tables.{Table, table_of}
use Rattle.table.specs.Fleets.{table_in}
use Rattle.table.specs.Measuring.{size_checks, Measure}
use Rattle.table.specs.Refusals.{check_of, result_check}
use Rattle.table.proofs.Checks.{first_later, first_refuses, none_passes}
use Rattle.table.proofs.Refusing.{not_passed, refused_first, passed_first}
use Rattle.term.specs.Acceptance.{scratch_words, table_checks}
use Rattle.term.specs.Parts.{content_checks, lent_check}
use Rattle.term.specs.Accepted.{Acceptable}
use Rattle.term.proofs.Acceptance.{passes_accepted}
use Rattle.accept.specs.Scratch.{Counted}
use Rattle.accept.specs.Answers.{lent_line, Judged, Accepts}

module _ {t : Table} {s : List ℕ} (rs qs : List Refusal) where
  -- the first lines refuse; they pass, and the others decide
  pub judged_refused : (e : Refused) → check_of e ≡ first_of rs → Judged t (rs ++ qs) s (Err e)
  judged_refused e f = record { check = refused_first rs qs e f; counted = λ g. absurd (not_passed e g) }

  pub judged_later : {r : Result Unit Refused} → passes ≡ first_of rs → Judged t qs s r → Judged t (rs ++ qs) s r
  judged_later f j = record { check = passed_first rs qs f j.check; counted = j.counted }

-- 8
module _ (sizes : Sizes) (fits : Bool) (scratchLength : ℕ) where
  abbrev short : Refusal
  short = lent_line sizes fits scratchLength

  pub lent_not : fits ≡ false → check_of BufferLength ≡ first_of (short ∷ [])
  lent_not e = sym (first_refuses short [] (rw e))

  pub lent_short : scratchLength < scratch_words sizes → check_of BufferLength ≡ first_of (short ∷ [])
  lent_short h = sym (first_refuses short [] (rw (lt-ltb scratchLength (scratch_words sizes) h) (or-true (not fits))))

  pub lent_enough : fits ≡ true → scratch_words sizes ≤ scratchLength → passes ≡ first_of (short ∷ [])
  lent_enough e h = sym (first_later short [] (rw (e, le-ltb scratchLength (scratch_words sizes) h)) ∙ none_passes)

-- the whole, from what measuring found
module _ {bytes : List ℕ} (fits : Bool) {before after : List ℕ} (same : length after ≡ length before) where
  pub accepts_refused : (e : Refused) → check_of e ≡ first_of (size_checks bytes) → Accepts bytes fits before after (Err e)
  accepts_refused e f =
      record {
        check = refused_first (size_checks bytes) (lent_check bytes fits (length before) ∷ content_checks (table_of bytes)) e f;
        fleet = λ g h. (cc);
        counted = λ g h. (cc);
        same_length = same;
      }

-- and what judging the fleet's table found
module _ {bytes : List ℕ} (f : Fleet) (measured : Measure bytes (Ok f)) (fits : Bool) (before after : List ℕ) (same : length after ≡ length before)
    {r : Result Unit Refused} (j : Judged (table_in f) (lent_line f.sizes fits (length before) ∷ content_checks (table_in f)) after r) where
  later : result_check r ≡ first_of (table_checks bytes fits (length before))
  later =
      passed_first (size_checks bytes) (lent_check bytes fits (length before) ∷ content_checks (table_of bytes)) measured.check
      (subst (λ (t : Table). result_check r ≡ first_of (lent_line t.sizes fits (length before) ∷ content_checks t)) (measured.fleet f refl) j.check)

  pub accepts_later : (e : Refused) → r ≡ Err e → Accepts bytes fits before after (Err e)
  accepts_later e g = record { check = sym (ap result_check g) ∙ later; fleet = λ g h. (cc); counted = λ g h. (cc); same_length = same }

  pub accepts_all : (x : Unit) → r ≡ Ok x → Accepts bytes fits before after (Ok f)
  accepts_all x g =
      record {
        check = sym (ap result_check g) ∙ later;
        fleet = λ g h. let k : g ≡ f = cc in rw k (measured.fleet f refl);
        counted = λ h k. subst (λ (t : Table). Counted t after) (measured.fleet f refl) (j.counted (ap result_check g));
        same_length = same;
      }

-- what may be relied on of an accepted table
pub accepted_table : {bytes : List ℕ} {fits : Bool} {before after : List ℕ} {r : Result Fleet Refused} {f : Fleet}
    → Accepts bytes fits before after r → r ≡ Ok f → Acceptable bytes fits (length before)
accepted_table {bytes} {fits} {before} a e = passes_accepted bytes fits (length before) (sym a.check ∙ ap (λ (r : Result Fleet Refused). result_check r) e)
