-- The answers of the shelf's calls: `checks` were judged earlier, then 9 of the shelf, then `own`.
-- Assumes nothing.
use Rattle.std.specs.Prelude.{IfOk, length}
use Rattle.std.proofs.Common.{ℕ, ◌≡◌, refl, sym, ap, subst, ◌∙◌, List, [], ◌∷◌, ◌++◌, Result, Ok, Err}
use Rattle.table.specs.declared.refusals.Refused.{Refused}
use Rattle.table.specs.Checks.{Check, passes, Refusal, first_of}
use Rattle.table.specs.Refusals.{check_of, result_check}
use Rattle.table.proofs.Refusing.{refused_first, passed_first}
use Rattle.table.specs.declared.fleets.Fleet.{Fleet}
use Rattle.table.specs.Tables.{Table, table_of}
use Rattle.table.specs.Fleets.{table_in}
use Rattle.steps.specs.Shelves.{shelf_words}
use Rattle.steps.specs.Points.{change, shelf_check}
use Rattle.shelf.specs.Answers.{Changes}
use Rattle.shelf.specs.Shelving.{ShelfJudged}
use Rattle.shelf.proofs.Changing.{answers_refused}

-- 9 of the shelf, for a fleet of the table
pub of_table : (bytes : List ℕ) (f : Fleet) {c : Check} (shelf : List ℕ) → table_in f ≡ table_of bytes
    → c ≡ first_of (shelf_check (table_in f) shelf ∷ []) → c ≡ first_of (shelf_check (table_of bytes) shelf ∷ [])
of_table bytes f {c = c} shelf e = subst (λ (t : Table). c ≡ first_of (shelf_check t shelf ∷ [])) e

module _ (checks : List Refusal) (shelf : Refusal) (own : List Refusal) (was words : List ℕ) where
  abbrev all : Check
  all = first_of (checks ++ (shelf ∷ own))

  -- the earlier checks refuse
  pub refused_earlier : {e : Refused} → check_of e ≡ first_of checks → Changes (change all was words) (Err e) was
  refused_earlier {e} f = answers_refused was words all e (sym (refused_first checks (shelf ∷ own) e f))

  -- they pass, and the shelf's refuses
  pub refused_shelf : {e : Refused} → passes ≡ first_of checks → check_of e ≡ first_of (shelf ∷ []) → Changes (change all was words) (Err e) was
  refused_shelf {e} f g = answers_refused was words all e (sym (passed_first checks (shelf ∷ own) f (refused_first (shelf ∷ []) own e g)))

  -- both pass: the rest decides
  pub then_own : {r : Result (Unit {0}) Refused} {left : List ℕ} → passes ≡ first_of checks → passes ≡ first_of (shelf ∷ [])
      → Changes (change (first_of own) was words) r left → Changes (change all was words) r left
  then_own {r} {left} f g p = rw (sym (passed_first checks (shelf ∷ own) f (passed_first (shelf ∷ []) own g refl))) p

-- what is asked of an earlier answer: where it has a fleet, the shelf has its length
pub whole_where : (r : Result Fleet Refused) (shelf : List ℕ) → ((f : Fleet) → r ≡ Ok f → length shelf ≡ shelf_words)
    → IfOk r (λ f. length shelf ≡ shelf_words)
whole_where (Ok f) shelf h = h f refl
whole_where (Err e) shelf h = tt

-- where 9 of the shelf passes too, the earlier answer has a fleet
pub judged_fleet : (r : Result Fleet Refused) (shelf : List ℕ) {u : Unit {0}} → ShelfJudged r shelf (Ok u) → (f : Fleet) × (r ≡ Ok f)
judged_fleet (Ok f) shelf j = (f, refl)
judged_fleet (Err e) shelf {u} j = absurd (let z : ◌≡◌ {A = Result (Unit {0}) Refused} (Ok u) (Err e) = j in cc)

-- the same of an earlier answer r of the table's: the shelf is refused, or judged with it
module _ (bytes shelf : List ℕ) (checks own : List Refusal) (was words : List ℕ) where
  abbrev with_shelf : Check
  with_shelf = first_of (checks ++ (shelf_check (table_of bytes) shelf ∷ own))

  pub judged_refused : (r : Result Fleet Refused) → result_check r ≡ first_of checks → ((f : Fleet) → r ≡ Ok f → table_in f ≡ table_of bytes)
      → {e : Refused} → ShelfJudged r shelf (Err e) → Changes (change with_shelf was words) (Err e) was
  judged_refused (Ok f) p of j =
      refused_shelf checks (shelf_check (table_of bytes) shelf) own was words p (of_table bytes f shelf (of f refl) j)
  judged_refused (Err d) p of {e} j =
      let same : e ≡ d = let z : ◌≡◌ {A = Result (Unit {0}) Refused} (Err e) (Err d) = j in cc in
      refused_earlier checks (shelf_check (table_of bytes) shelf) own was words (ap check_of same ∙ p)

  pub judged_passed : (r : Result Fleet Refused) → result_check r ≡ first_of checks → ((f : Fleet) → r ≡ Ok f → table_in f ≡ table_of bytes)
      → {u : Unit {0}} → ShelfJudged r shelf (Ok u) → {x : Result (Unit {0}) Refused} {left : List ℕ}
      → Changes (change (first_of own) was words) x left → Changes (change with_shelf was words) x left
  judged_passed (Ok f) p of j h =
      then_own checks (shelf_check (table_of bytes) shelf) own was words p (of_table bytes f shelf (of f refl) j) h
  judged_passed (Err d) p of {u} j h = absurd (let z : ◌≡◌ {A = Result (Unit {0}) Refused} (Ok u) (Err d) = j in cc)
