-- Which place a name holds, and a well-formed shelf in other words.
-- Assumes nothing.
use Prim.Native.Nat.{ℕ, ◌<◌, ◌≤◌}
use mathlib.Core.Bool.{Bool, true, false, cond, ◌&&◌, ◌||◌}
use mathlib.Core.Path.{◌≡◌, refl, sym, ap, ◌∙◌}
use mathlib.Core.Logic.{◌⊎◌, ◌↔◌, inl, inr, ⊎_elim}
use mathlib.Core.List.{List}
use native.Mathlib.Omega.{arith}
use lib.Dec.{eqb, leb, ltb}
use borrow.Author.Tests.{ltb-true, leb-true, eqb-true, lt-ltb, le-leb, eq-eqb, ne_eqb}
use Rattle.basis.proofs.Tests.{not_both, or_either, or_left, or_right, and_left, and_right, and_both, same_or_other}
use Rattle.basis.proofs.Numbers.{some_at, some_witness, every_at, every_all, lowest_at, lowest_below, lowest_before, lowest_passes}
use Rattle.table.specs.Tables.{Table}
use Rattle.state.specs.WellFormed.{well_formed}
use Rattle.steps.specs.Shelves.{place_limit, name_limit, shelf_words, is_name, name_of, saved_of, is_named, is_held, place_of, save_place, place_formed, shelf_formed}
use Rattle.steps.specs.Kept.{Free, Holds, Held, LowestFree, WellFormed, OnlyAt, IsName}

pub is_name_lem : (name : ℕ) → (is_name name ≡ true) ↔ IsName name
is_name_lem name = (
  λ e. (ltb-true 0 name (and_left (ltb 0 name) (leb name name_limit) e), leb-true name name_limit (and_right (ltb 0 name) (leb name name_limit) e)),
  λ p. and_both (ltb 0 name) (leb name name_limit) (lt-ltb 0 name p.0) (le-leb name name_limit p.1),
)

module _ (shelf : List ℕ) where
  -- some place has it; of 0, some place is free
  pub is_held_lem : (name : ℕ) → (is_held shelf name ≡ true) ↔ Held shelf name
  is_held_lem name = (
    λ e. let w = some_witness (is_named shelf name) place_limit e in (w.0, record { place = w.1; named = eqb-true (name_of shelf w.0) name w.2 }),
    λ w. some_at (is_named shelf name) place_limit w.0 w.1.place (eq-eqb (name_of shelf w.0) name w.1.named),
  )

  -- the place of a held name, of a new one, and of a save
  pub place_held : (name : ℕ) → is_held shelf name ≡ true → Holds shelf name (place_of shelf name)
  place_held name e =
      let l = lowest_below (is_named shelf name) place_limit e in
      record { place = l; named = eqb-true (name_of shelf (place_of shelf name)) name (lowest_passes (is_named shelf name) place_limit l) }

  place_new : (name : ℕ) → is_held shelf name ≡ false → is_held shelf 0 ≡ true → LowestFree shelf name (place_of shelf 0)
  place_new name d e =
      let h = place_held 0 e in
      record {
        place = h.place;
        free = h.named;
        lower = λ j l f. not_both (eq-eqb (name_of shelf j) 0 f) (lowest_before (is_named shelf 0) place_limit j l);
        new = λ w. not_both ((is_held_lem name).1 w) d;
      }

  pub place_saved : (name : ℕ) → (is_held shelf name || is_held shelf 0) ≡ true → Holds shelf name (save_place shelf name) ⊎ LowestFree shelf name (save_place shelf name)
  place_saved name = by (is_held shelf name) refl
    where
      by : (b : Bool) → is_held shelf name ≡ b → (b || is_held shelf 0) ≡ true
          → Holds shelf name (cond b (place_of shelf name) (place_of shelf 0)) ⊎ LowestFree shelf name (cond b (place_of shelf name) (place_of shelf 0))
      by true d e = inl (place_held name d)
      by false d e = inr (place_new name d e)

  pub saved_below : (name i : ℕ) → Holds shelf name i ⊎ LowestFree shelf name i → i < place_limit
  saved_below name i = ⊎_elim (λ (h : Holds shelf name i). h.place) (λ (h : LowestFree shelf name i). h.place)

  -- WELL FORMED
  module _ (t : Table) where
    record Named (i : ℕ) : Type 0 where
      small : name_of shelf i ≤ name_limit
      first : place_of shelf (name_of shelf i) ≡ i
      formed : well_formed t (saved_of shelf i) ≡ true

    place_formed_lem : (i : ℕ) → (place_formed shelf t i ≡ true) ↔ (Free shelf i ⊎ Named i)
    unfolding place_formed
    place_formed_lem i = (
      λ e. ⊎_elim (λ (d : free ≡ true). inl (eqb-true (name_of shelf i) 0 d))
          (λ (d : (small && (first && formed)) ≡ true).
          let r = and_right small (first && formed) d in
          inr (
          record {
            small = leb-true (name_of shelf i) name_limit (and_left small (first && formed) d);
            first = eqb-true (place_of shelf (name_of shelf i)) i (and_left first formed r);
            formed = and_right first formed r;
          }
          ))
          (or_either free (small && (first && formed)) e),
      ⊎_elim (λ (d : Free shelf i). or_left free (small && (first && formed)) (eq-eqb (name_of shelf i) 0 d))
          (λ (d : Named i). or_right free (small && (first && formed))
          (and_both small (first && formed) (le-leb (name_of shelf i) name_limit d.small)
          (and_both first formed (eq-eqb (place_of shelf (name_of shelf i)) i d.first) d.formed))),
    )
      where
        free : Bool
        free = eqb (name_of shelf i) 0

        small : Bool
        small = leb (name_of shelf i) name_limit

        first : Bool
        first = eqb (place_of shelf (name_of shelf i)) i

        formed : Bool
        formed = well_formed t (saved_of shelf i)

    -- every place is free or named, and in other words
    in_words : ((i : ℕ) → i < place_limit → Free shelf i ⊎ Named i) → WellFormed shelf t
    in_words each = record { small = small; once = once; formed = formed }
      where
        small : (i : ℕ) → i < place_limit → name_of shelf i ≤ name_limit
        small i h = ⊎_elim (λ (d : Free shelf i). omega arith) (λ (d : Named i). d.small) (each i h)

        once : (i j : ℕ) → i < place_limit → j < place_limit → name_of shelf i ≡ name_of shelf j → Free shelf i ⊎ (i ≡ j)
        once i j h l e =
            ⊎_elim (λ (d : Free shelf i). inl d)
            (λ (d : Named i). ⊎_elim (λ (f : Free shelf j). inl (e ∙ f)) (λ (f : Named j). inr (sym d.first ∙ ap (place_of shelf) e ∙ f.first)) (each j l)) (each i h)

        formed : (i : ℕ) → i < place_limit → (Free shelf i → ⊥) → well_formed t (saved_of shelf i) ≡ true
        formed i h n = ⊎_elim (λ (d : Free shelf i). absurd (n d)) (λ (d : Named i). d.formed) (each i h)

    from_words : WellFormed shelf t → (i : ℕ) → i < place_limit → Free shelf i ⊎ Named i
    from_words w i h =
        ⊎_elim (λ (d : Free shelf i). inl d)
        (λ (d : Free shelf i → ⊥). inr (record { small = w.small i h; first = first d; formed = w.formed i h d })) (same_or_other (name_of shelf i) 0)
      where
        other : (Free shelf i → ⊥) → (j : ℕ) → j < i → name_of shelf j ≡ name_of shelf i → ⊥
        other d j l e = ⊎_elim d (λ (f : i ≡ j). omega arith) (w.once i j h (omega arith) (sym e))

        first : (Free shelf i → ⊥) → place_of shelf (name_of shelf i) ≡ i
        first d =
            lowest_at (is_named shelf (name_of shelf i)) place_limit i h (eq-eqb (name_of shelf i) (name_of shelf i) refl)
            (λ j l. ne_eqb (name_of shelf j) (name_of shelf i) (other d j l))

pub is_well_formed : (t : Table) (shelf : List ℕ) → (shelf_formed shelf t ≡ true) ↔ WellFormed shelf t
unfolding shelf_formed
is_well_formed t shelf = (
  λ e. in_words shelf t (λ i h. (place_formed_lem shelf t i).0 (every_at (place_formed shelf t) place_limit e i h)),
  λ w. every_all (place_formed shelf t) place_limit (λ i h. (place_formed_lem shelf t i).1 (from_words shelf t w i h)),
)

-- A NAME'S OWN PLACE: what stands there is the name's, or nothing, and the name stands nowhere else
pub record Own (shelf : List ℕ) (name i : ℕ) : Type 0 where
  pub place : i < place_limit
  pub was : Free shelf i ⊎ (name_of shelf i ≡ name)
  pub alone : (j : ℕ) → j < place_limit → (j ≡ i → ⊥) → name_of shelf j ≡ name → ⊥

module _ (t : Table) (shelf : List ℕ) (name i : ℕ) (w : WellFormed shelf t) (pos : 0 < name) where
  pub own_held : Holds shelf name i → Own shelf name i
  own_held h =
      record {
        place = h.place;
        was = inr h.named;
        alone = λ j l d e. ⊎_elim (λ (z : Free shelf j). let y = sym e ∙ z in omega arith) d (w.once j i l h.place (e ∙ sym h.named));
      }

  pub own_saved : Holds shelf name i ⊎ LowestFree shelf name i → Own shelf name i
  own_saved =
      ⊎_elim own_held
      (λ (h : LowestFree shelf name i). record { place = h.place; was = inl h.free; alone = λ j l d e. h.new (j, record { place = l; named = e }) })

-- a shelf that changed at place i alone is still well formed: the word there is 0, or no other place has it and the state is well formed
module _ (t : Table) (shelf : List ℕ) (w : WellFormed shelf t) (i word : ℕ) (state after : List ℕ) (only : OnlyAt shelf i word state after) where
  pub formed_after : word ≤ name_limit → ((word ≡ 0 → ⊥) → well_formed t state ≡ true)
      → ((j : ℕ) → j < place_limit → (j ≡ i → ⊥) → name_of shelf j ≡ word → word ≡ 0) → WellFormed after t
  formed_after few good alone = record { small = small; once = once; formed = formed }
    where
      here : (j : ℕ) → j ≡ i → name_of after j ≡ word
      here j e = ap (name_of after) e ∙ only.name

      small : (j : ℕ) → j < place_limit → name_of after j ≤ name_limit
      small j h =
          ⊎_elim (λ (e : j ≡ i). omega (arith, here j e)) (λ (d : j ≡ i → ⊥). omega (arith, only.names j h d, w.small j h)) (same_or_other j i)

      once : (j k : ℕ) → j < place_limit → k < place_limit → name_of after j ≡ name_of after k → Free after j ⊎ (j ≡ k)
      once j k h l e =
          ⊎_elim
          (λ (a : j ≡ i). ⊎_elim (λ (b : k ≡ i). inr (a ∙ sym b))
          (λ (b : k ≡ i → ⊥). inl (here j a ∙ alone k l b (sym (only.names k l b) ∙ sym e ∙ here j a))) (same_or_other k i))
          (λ (a : j ≡ i → ⊥). ⊎_elim (λ (b : k ≡ i). inl (e ∙ here k b ∙ alone j h a (sym (only.names j h a) ∙ e ∙ here k b)))
          (λ (b : k ≡ i → ⊥). ⊎_elim (λ (z : Free shelf j). inl (only.names j h a ∙ z)) (λ (z : j ≡ k). inr z)
          (w.once j k h l (sym (only.names j h a) ∙ e ∙ only.names k l b))) (same_or_other k i)) (same_or_other j i)

      formed : (j : ℕ) → j < place_limit → (Free after j → ⊥) → well_formed t (saved_of after j) ≡ true
      formed j h n =
          ⊎_elim (λ (a : j ≡ i). ap (well_formed t) (ap (saved_of after) a ∙ only.state) ∙ good (λ z. n (here j a ∙ z)))
          (λ (a : j ≡ i → ⊥). ap (well_formed t) (only.states j h a) ∙ w.formed j h (λ z. n (only.names j h a ∙ z))) (same_or_other j i)

-- the paper's words of a shelf
pub paper_shelf : shelf_words ≡ 37656
paper_shelf = refl
