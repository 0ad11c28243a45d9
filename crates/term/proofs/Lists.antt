-- Laws of the lists that derivations are made of: those that pass a test, those that a tick joins, and what stands at a place.
-- Assumes nothing.
use Prim.Native.Nat.{ℕ, zero, suc, ◌*◌, ◌-◌, ◌/◌, ◌%◌, ◌≤◌, ◌<◌}
use mathlib.Core.Bool.{Bool, true, false}
use mathlib.Core.Logic.{⊎_elim}
use mathlib.Core.Option.{Option, none, some}
use mathlib.Core.Path.{◌≡◌, refl, sym, ◌∙◌}
use mathlib.Core.List.{List, [], ◌∷◌, ◌++◌, map}
use native.Mathlib.Nat.{suc-mul, zero-mul, add_comm, eq-zero-or-pos, div-eq_of_lt, mod-eq_of_lt, div-eq-sub-div, mod-eq-sub-mod}
use native.Mathlib.Numerals.{add-one}
use native.Mathlib.Omega.{arith}
use lib.ListN.{length, get_elem?, length-append, length-map}
use borrow.Author.Tests.{lt-ltb, le-ltb}
use Rattle.basis.proofs.Tests.{lt_or_le}
use Rattle.basis.proofs.Lists.{nth_left, nth_right, nth_past}
use Rattle.term.specs.Processes.{Derivation, keep, join, joins}
use Rattle.term.specs.Choices.{mapped, joined, split, pairs}

abbrev pub Test : Type 0
Test = Derivation → Bool

abbrev pub Change : Type 0
Change = Derivation → Derivation

-- keep, of each way to make a list

pub keep_append : (f : Test) (xs ys : List Derivation) → keep f (xs ++ ys) ≡ keep f xs ++ keep f ys
unfolding keep
keep_append f [] ys = refl
keep_append f (x ∷ xs) ys = go (f x) (keep_append f xs ys)
  where
    go : (b : Bool) → keep f (xs ++ ys) ≡ keep f xs ++ keep f ys →
        ◌≡◌ {A = List Derivation} (elim b [ true ↦ x ∷ keep f (xs ++ ys) | false ↦ keep f (xs ++ ys) ])
        (elim b [ true ↦ x ∷ keep f xs | false ↦ keep f xs ] ++ keep f ys)
    go true e = rw e
    go false e = e

pub keep_map : (f : Test) (g : Change) → ((d : Derivation) → f (g d) ≡ f d) → (xs : List Derivation) → keep f (map g xs) ≡ map g (keep f xs)
unfolding keep
keep_map f g h [] = refl
keep_map f g h (x ∷ xs) = rw (h x, keep) (go (f x) (keep_map f g h xs))
  where
    go : (b : Bool) → keep f (map g xs) ≡ map g (keep f xs) →
        ◌≡◌ {A = List Derivation} (elim b [ true ↦ g x ∷ keep f (map g xs) | false ↦ keep f (map g xs) ])
        (map g (elim b [ true ↦ x ∷ keep f xs | false ↦ keep f xs ]))
    go true e = rw e
    go false e = e

pub keep_all : (xs : List Derivation) → keep (λ d. true) xs ≡ xs
unfolding keep
keep_all [] = refl
keep_all (x ∷ xs) = rw (keep_all xs)

pub keep_joins : (f : Test) → ((t d : Derivation) → f (join t d) ≡ f d) → (ts ds : List Derivation) → keep f (joins ts ds) ≡ joins ts (keep f ds)
unfolding joins keep
keep_joins f h [] ds = refl
keep_joins f h (t ∷ ts) ds = keep_append f (map (join t) ds) (joins ts ds) ∙ rw (keep_map f (join t) (h t) ds, keep_joins f h ts ds)

pub length_joins : (ts ds : List Derivation) → length (joins ts ds) ≡ length ts * length ds
unfolding joins
length_joins [] ds = sym (zero-mul (length ds))
length_joins (t ∷ ts) ds = length-append (map (join t) ds) (joins ts ds) ∙ rw (length-map, length_joins ts ds, suc-mul, add_comm (length ds))

-- a place of each way to make a list

abbrev pub Places : Type 0
Places = ℕ → Option Derivation

pub split_left : (n : ℕ) (f g : Places) (c : ℕ) → c < n → split n f g c ≡ f c
unfolding split
split_left n f g c h = rw (lt-ltb c n h, split)

pub split_right : (n : ℕ) (f g : Places) (c : ℕ) → n ≤ c → split n f g c ≡ g (c - n)
unfolding split
split_right n f g c h = rw (le-ltb c n h, split)

pub nth_append : (xs ys : List Derivation) (c : ℕ) → get_elem? (xs ++ ys) c ≡ split (length xs) (get_elem? xs) (get_elem? ys) c
nth_append xs ys c =
    ⊎_elim (λ h. nth_left xs ys c h ∙ sym (split_left (length xs) (get_elem? xs) (get_elem? ys) c h))
    (λ h. nth_right xs ys c h ∙ sym (split_right (length xs) (get_elem? xs) (get_elem? ys) c h)) (lt_or_le c (length xs))

pub nth_map : (g : Change) (xs : List Derivation) (c : ℕ) → get_elem? (map g xs) c ≡ mapped g (get_elem? xs c)
nth_map g [] c = refl
nth_map g (x ∷ xs) zero = refl
nth_map g (x ∷ xs) (suc c) = nth_map g xs c

joined_some : (t : Derivation) (o : Option Derivation) → joined (some t) o ≡ mapped (join t) o
joined_some t none = refl
joined_some t (some d) = refl

joined_none : (o : Option Derivation) → joined o none ≡ none
joined_none none = refl
joined_none (some d) = refl

-- where each t of ts is joined to each of no ds at all
joined_past : (ts : Places) (ds : List Derivation) (i c : ℕ) → length ds ≡ 0 → joined (ts i) (get_elem? ds c) ≡ none
joined_past ts ds i c e = rw (nth_past ds c (omega arith)) (joined_none (ts i))

-- the i-th element of the first list with the j-th of the second, at i times the second's length and j
pub nth_joins : (ts ds : List Derivation) (c : ℕ) → get_elem? (joins ts ds) c ≡ pairs (length ds) (get_elem? ts) (get_elem? ds) c
unfolding joins pairs
nth_joins [] ds c = refl
nth_joins (t ∷ ts) ds c = ⊎_elim first (later (nth_joins ts ds (c - length ds))) (lt_or_le c (length ds))
  where
    first : c < length ds → get_elem? (map (join t) ds ++ joins ts ds) c ≡ pairs (length ds) (get_elem? (t ∷ ts)) (get_elem? ds) c
    first h =
        nth_left (map (join t) ds) (joins ts ds) c (rw length-map h) ∙ nth_map (join t) ds c ∙
        rw (div-eq_of_lt h, mod-eq_of_lt h) (sym (joined_some t (get_elem? ds c)))

    later :
        get_elem? (joins ts ds) (c - length ds) ≡ pairs (length ds) (get_elem? ts) (get_elem? ds) (c - length ds) → length ds ≤ c →
        get_elem? (map (join t) ds ++ joins ts ds) c ≡ pairs (length ds) (get_elem? (t ∷ ts)) (get_elem? ds) c
    later e h =
        nth_right (map (join t) ds) (joins ts ds) c (rw length-map h) ∙ rw length-map e ∙
        ⊎_elim (λ (z : length ds ≡ 0). joined_past (get_elem? ts) ds ((c - length ds) / length ds) ((c - length ds) % length ds) z ∙
        sym (joined_past (get_elem? (t ∷ ts)) ds (c / length ds) (c % length ds) z))
        (λ (p : 0 < length ds). rw (div-eq-sub-div p h, mod-eq-sub-mod h, add-one)) (eq-zero-or-pos (length ds))
