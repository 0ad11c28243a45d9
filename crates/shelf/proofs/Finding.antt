-- Which place a name has, and what is read and written there, as code finds it.
-- Assumes nothing.
use Rattle.std.proofs.Common.{ℕ, ◌+◌, ◌-◌, ◌≤◌, ◌<◌, Bool, true, false, ◌≡◌, sym, ap, ◌∙◌, List, ◌++◌, Option, Some, None, Ok, Err, length, set, take, drop, eqb, arith}
use Rattle.std.specs.Prelude.{ok_or, MatchOption}
use Rattle.std.proofs.lemmas.List.{length-take-le, length-drop}
use lib.Seq.{drop-drop}
use borrow.Author.Tests.{ne_eqb}
use Rattle.basis.proofs.Numbers.{some_at, some_none, lowest_at, lowest_passes}
use Rattle.table.specs.declared.refusals.Refused.{Refused}
use Rattle.state.specs.Layout.{state_words}
use Rattle.steps.specs.Shelves.{place_limit, saved_at, shelf_words, name_of, saved_of, is_held, place_of, put_saved, put_name}
use Rattle.shelf.specs.Shelving.{Found}

-- the first of the places that has this name
module _ (shelf : List ℕ) (name : ℕ) where
  abbrev named : ℕ → Bool
  named i = eqb (name_of shelf i) name

  -- r, as a search from the first place on finds it
  abbrev pub Searched : Option ℕ → Type 0
  Searched r =
      MatchOption r ((k : ℕ) → 0 ≤ k → k < place_limit → named k ≡ false)
      (λ (i : ℕ). (0 ≤ i) × (i < place_limit) × (named i ≡ true) × ((k : ℕ) → 0 ≤ k → k < i → named k ≡ false))

  pub first_found : (r : Option ℕ) → Searched r → Found (is_held shelf name) (place_of shelf name) r
  first_found None f = some_none named place_limit (λ k h. f k (omega arith) h)
  first_found (Some r) m =
      (m.1, some_at named place_limit r m.1 m.2, sym (lowest_at named place_limit r m.1 m.2 (λ k h. m.3 k (omega arith) h)))

  -- another place, or none, is found
  pub not_here : (r : Option ℕ) → Found (is_held shelf name) (place_of shelf name) r → (i : ℕ) → i < place_limit → (r ≡ Some i → ⊥) → eqb (place_of shelf name) i ≡ false
  not_here r f i h d = ne_eqb _ _ (by r f d)
    where
      by : (r : Option ℕ) → Found (is_held shelf name) (place_of shelf name) r → (r ≡ Some i → ⊥) → place_of shelf name ≡ i → ⊥
      by None f d e =
          let low : place_of shelf name < place_limit = omega arith in
          let held : is_held shelf name ≡ true = some_at named place_limit (place_of shelf name) low (lowest_passes named place_limit low) in
          cc
      by (Some r) f d e = d (ap Some (f.2 ∙ e))

-- the part of a shelf where the state of a place stands, as code lends it
module _ (shelf : List ℕ) (place : ℕ) {at : ℕ} (e : at ≡ saved_at place) where
  whole : at + state_words - at ≡ state_words
  whole = omega arith

  pub part_saved : take (at + state_words - at) (drop at shelf) ≡ saved_of shelf place
  part_saved = rw (whole, e)

  -- it comes back with another state, and then the name is written
  pub put_back : {out state : List ℕ} (name : ℕ) → out ≡ state
      → set (take at shelf ++ (out ++ drop (at + state_words - at) (drop at shelf))) place name ≡ put_name (put_saved shelf place state) place name
  unfolding put_saved put_name
  put_back {out} {state} name f =
      rw (whole, e, f) (ap (λ (rest : List ℕ). set (take (saved_at place) shelf ++ (state ++ rest)) place name) (drop-drop state_words (saved_at place) shelf))

pub length-saved : (shelf : List ℕ) (place : ℕ) → length shelf ≡ shelf_words → place < place_limit → length (saved_of shelf place) ≡ state_words
length-saved shelf place e h = length-take-le state_words (drop (saved_at place) shelf) (omega (arith, length-drop (saved_at place) shelf))

-- a place that is looked for, or a refusal
pub is_missing : (there : Bool) (place : ℕ) (o : Option ℕ) → Found there place o → (e d : Refused) → Err d ≡ ok_or o e → (there ≡ false) × (d ≡ e)
is_missing there place None f e d w = (f, cc)
is_missing there place (Some r) f e d w = cc

pub is_found : (there : Bool) (place : ℕ) (o : Option ℕ) → Found there place o → (e : Refused) (r : ℕ) → Ok r ≡ ok_or o e → Found there place (Some r)
is_found there place None f e r w = cc
is_found there place (Some q) f e r w = let same : q ≡ r = cc in rw (← same) f
