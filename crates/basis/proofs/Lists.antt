-- Laws of lists that the library lacks: a changed list at any place, the parts that code lends, and what stands at a place, if anything.
-- Assumes nothing.
use Prim.Native.Nat.{ℕ, zero, suc, ◌+◌, ◌-◌, ◌<◌, ◌≤◌}
use mathlib.Core.Bool.{cond}
use mathlib.Core.Logic.{⊎_elim}
use mathlib.Core.Option.{none, some}
use mathlib.Core.Path.{◌≡◌, refl, sym, ap, ◌∙◌}
use mathlib.Core.List.{List, [], ◌∷◌, ◌++◌}
use native.Mathlib.Nat.{suc-sub-suc, sub-zero, le_of_suc-le-suc, not-suc-le-zero}
use native.Mathlib.Omega.{arith}
use lib.Dec.{eqb}
use lib.ListN.{length, get_or, get_elem?, set, take, drop, replicate, length-drop, length-append, length-replicate, get_or-replicate, get_or-append, get_or-eq_default}
use lib.Seq.{get_or-set_same, get_or-set_other, get_or-take, get_or-drop, get_or-append-add, length-take-le, take_all, take-nil, take_at, drop_at, take-take, drop-drop, take-append-le, drop-append-le, drop-append-add, paste, paste-zero, paste-suc}
use borrow.Author.Tests.{eq-eqb, ne_eqb}
use Rattle.basis.specs.Numbers.{for_each}
use Rattle.basis.proofs.Tests.{same_or_other, lt_or_le}

module _ {A : Type 0} where
  -- every place of a list in which one place was set
  pub get_d_set : (l : List A) (i j : ℕ) (v d : A) → i < length l → get_or (set l i v) j d ≡ cond (eqb j i) v (get_or l j d)
  get_d_set l i j v d h =
      ⊎_elim (λ (e : j ≡ i). rw (e, eq-eqb i i refl) (get_or-set_same l i v d h))
      (λ (e : j ≡ i → ⊥). rw (ne_eqb j i e) (get_or-set_other l i j v d e)) (same_or_other j i)

  -- the part of m places from a on, and the part from a to the end, as code lends them
  pub get_d_part : (l : List A) (a m i : ℕ) (d : A) → i < m → get_or (take m (drop a l)) i d ≡ get_or l (a + i) d
  get_d_part l a m i d h = get_or-take m (drop a l) i d h ∙ get_or-drop a l i d

  pub take_rest : (l : List A) (a : ℕ) → take (length l - a) (drop a l) ≡ drop a l
  take_rest l a = take_all (length l - a) (drop a l) (omega (arith, length-drop a l))

  pub drop_take : (n m : ℕ) (l : List A) → n ≤ m → drop n (take m l) ≡ take (m - n) (drop n l)
  drop_take zero m l h = rw (sub-zero m)
  drop_take (suc n) zero l h = absurd (not-suc-le-zero h)
  drop_take (suc n) (suc m) [] h = sym (take-nil (suc m - suc n))
  drop_take (suc n) (suc m) (x ∷ l) h = rw (suc-sub-suc m n) (drop_take n m l (le_of_suc-le-suc h))

  -- a row of one element, read anywhere
  pub get_d_row : (n i : ℕ) (a : A) → get_or (replicate n a) i a ≡ a
  get_d_row zero i a = refl
  get_d_row (suc n) zero a = refl
  get_d_row (suc n) (suc i) a = get_d_row n i a

  -- what stands at a place of two lists in a row, and past the end
  pub nth_left : (xs ys : List A) (n : ℕ) → n < length xs → get_elem? (xs ++ ys) n ≡ get_elem? xs n
  nth_left [] ys n h = absurd (not-suc-le-zero h)
  nth_left (x ∷ xs) ys zero h = refl
  nth_left (x ∷ xs) ys (suc n) h = nth_left xs ys n (le_of_suc-le-suc h)

  pub nth_right : (xs ys : List A) (n : ℕ) → length xs ≤ n → get_elem? (xs ++ ys) n ≡ get_elem? ys (n - length xs)
  nth_right [] ys n h = rw (sub-zero n)
  nth_right (x ∷ xs) ys zero h = absurd (not-suc-le-zero h)
  nth_right (x ∷ xs) ys (suc n) h = nth_right xs ys n (le_of_suc-le-suc h) ∙ rw (suc-sub-suc n (length xs))

  pub nth_past : (xs : List A) (n : ℕ) → length xs ≤ n → get_elem? xs n ≡ none
  nth_past [] n h = refl
  nth_past (x ∷ xs) zero h = absurd (not-suc-le-zero h)
  nth_past (x ∷ xs) (suc n) h = nth_past xs n (le_of_suc-le-suc h)

  pub nth_in : (xs : List A) (n : ℕ) (d : A) → n < length xs → get_elem? xs n ≡ some (get_or xs n d)
  nth_in [] n d h = absurd (not-suc-le-zero h)
  nth_in (x ∷ xs) zero d h = refl
  nth_in (x ∷ xs) (suc n) d h = nth_in xs n d (le_of_suc-le-suc h)

  -- what stands at a place is there, and is read there
  pub nth_is : (xs : List A) (n : ℕ) (o a : A) → get_elem? xs n ≡ some a → (n < length xs) × (get_or xs n o ≡ a)
  nth_is xs n o a e =
      ⊎_elim (λ (l : n < length xs). let f : some (get_or xs n o) ≡ some a = sym (nth_in xs n o l) ∙ e in (l, cc))
      (λ (l : length xs ≤ n). let f : none ≡ some a = sym (nth_past xs n l) ∙ e in let z : ◌≡◌ {A = ℕ} 0 1 = cc in absurd (omega arith)) (lt_or_le n (length xs))

-- a list in which other elements stand in the m places from a on
module _ {A : Type 0} (l new : List A) (a m : ℕ) (fits : length new ≡ m) (within : a + m ≤ length l) where
  abbrev replaced : List A
  replaced = take a l ++ (new ++ drop (a + m) l)

  front : length (take a l) ≡ a
  front = length-take-le a l (omega arith)

  pub length_replaced : length replaced ≡ length l
  length_replaced =
      omega (arith, length-append (take a l) (new ++ drop (a + m) l), length-append new (drop (a + m) l), length-drop (a + m) l, front)

  -- they stand there; what stood before them and after them does still
  pub part_replaced : take m (drop a replaced) ≡ new
  part_replaced = ap (take m) (drop_at (take a l) (new ++ drop (a + m) l) a front) ∙ take_at new (drop (a + m) l) m fits

  pub get_d_replaced : (i : ℕ) (d : A) → i < a → get_or replaced i d ≡ get_or l i d
  get_d_replaced i d h = get_or-append (take a l) (new ++ drop (a + m) l) d i (omega (arith, front)) ∙ get_or-take a l i d h

  pub part_before : (b n : ℕ) → b + n ≤ a → take n (drop b replaced) ≡ take n (drop b l)
  part_before b n h =
      let e = drop_take b a l (omega arith) in
      ap (take n) (drop-append-le b (take a l) (new ++ drop (a + m) l) (omega (arith, front)))
      ∙ take-append-le n (drop b (take a l)) (new ++ drop (a + m) l) (omega (arith, length-drop b (take a l), front))
      ∙ ap (take n) e ∙ take-take n (a - b) (drop b l) (omega arith)

  pub drop_after : (b : ℕ) → a + m ≤ b → drop b replaced ≡ drop b l
  drop_after b h =
      let k : ℕ = b - (a + m) in
      let e : b ≡ length (take a l) + (length new + k) = omega (arith, front) in
      let f : a + m + k ≡ b = omega arith in
      ap (λ (j : ℕ). drop j replaced) e ∙ drop-append-add (take a l) (new ++ drop (a + m) l) (length new + k)
      ∙ drop-append-add new (drop (a + m) l) k ∙ drop-drop k (a + m) l ∙ ap (λ (j : ℕ). drop j l) f

-- words and 0 after them, n places in all
module _ (ws : List ℕ) (n : ℕ) (short : length ws ≤ n) where
  pub padded_length : length (ws ++ replicate (n - length ws) 0) ≡ n
  padded_length = omega (arith, length-append ws (replicate (n - length ws) 0), length-replicate {A = ℕ} (n - length ws) 0)

  pub padded_at : (i : ℕ) → i < n → get_or (ws ++ replicate (n - length ws) 0) i 0 ≡ get_or ws i 0
  padded_at i l =
      ⊎_elim (λ (h : i < length ws). get_or-append ws (replicate (n - length ws) 0) 0 i h)
      (λ (h : length ws ≤ i).
      let e : i ≡ length ws + (i - length ws) = omega arith in
      ap (λ (j : ℕ). get_or (ws ++ replicate (n - length ws) 0) j 0) e ∙ get_or-append-add ws (replicate (n - length ws) 0) (i - length ws) 0
      ∙ get_or-replicate (n - length ws) (i - length ws) 0 0 (omega arith) ∙ sym (get_or-eq_default ws 0 h)) (lt_or_le i (length ws))

-- a part that is set word by word
pub for_each_paste : (at : ℕ) (ws s : List ℕ) (n : ℕ) → at + n ≤ length s → n ≤ length ws → for_each (λ (i : ℕ) (u : List ℕ). set u (at + i) (get_or ws i 0)) n s ≡ paste s at ws n
unfolding for_each
for_each_paste at ws s zero h l = paste-zero s at ws
for_each_paste at ws s (suc n) h l =
    ap (λ (u : List ℕ). set u (at + n) (get_or ws n 0)) (for_each_paste at ws s n (omega arith) (omega arith)) ∙ paste-suc s at ws n 0 (omega arith) (omega arith)
