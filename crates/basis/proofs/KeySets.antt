-- Laws of a set of keys in a word.
-- Assumes nothing.
use Prim.Native.Nat.{ℕ, zero, suc, ◌+◌, ◌-◌, ◌/◌, ◌%◌, ◌^◌, ◌<◌, ◌≤◌}
use native.Mathlib.Nat.{pow-succ', div-div-eq-div-mul}
use native.Mathlib.Omega.{arith}
use mathlib.Core.Bool.{Bool, true, false, cond, not, ◌&&◌, ◌||◌, and-true, and-false, or-false, or_comm, and_comm}
use mathlib.Core.Path.{◌≡◌, refl, sym, ap, ◌∙◌}
use mathlib.Core.Logic.{⊎_elim}
use lib.Pow.{pow_pos}
use lib.Count.{count_trailing_zeros, under}
use lib.Bits.{bit_and, bit_or, bit_xor, and_shr, or_shr, xor_shr, and_mod, or_mod, xor_mod}
use lib.Dec.{eqb, ltb, eqb-zero-suc, eqb-suc-zero, eqb-suc-suc}
use Rattle.std.specs.Int.{w32}
use Rattle.std.proofs.lemmas.Nat.{and_le_l, or_of_32, pow_below}
use Rattle.std.proofs.lemmas.Nat.Bits.{bit_at_not}
use native.Mathlib.Nat.{zero-add}
use borrow.Author.Tests.{eqb-true, eqb-false, eq-eqb, ne_eqb, lt-ltb, le-ltb}
use Rattle.basis.specs.Numbers.{for_each}
use Rattle.basis.specs.KeySets.{has, plus, plus_if, minus, plus_all}
use Rattle.basis.proofs.Tests.{either, cond_cases, lt_or_le, same_or_other}
use Rattle.basis.proofs.Numbers.{for_each_keeps, for_each_more, for_each_ext}

-- key 0 is the word's parity, and the others are those of its half
pub has_zero : (w : ℕ) → has w 0 ≡ eqb (w % 2) 1
unfolding has
has_zero w = let e : w / 1 ≡ w = omega arith in rw e

pub has_suc : (w k : ℕ) → has w (suc k) ≡ has (w / 2) k
unfolding has
has_suc w k = rw (pow-succ' 2 k, div-div-eq-div-mul w 2 (2 ^ k))

odd : (w : ℕ) → has w 0 ≡ true → w % 2 ≡ 1
odd w e = eqb-true (w % 2) 1 (sym (has_zero w) ∙ e)

even : (w : ℕ) → has w 0 ≡ false → w % 2 ≡ 0
even w e = let h = eqb-false (w % 2) 1 (sym (has_zero w) ∙ e) in omega arith

-- a key that is in the set has its power in the word; one that is not leaves room for it
pub enough : (k w : ℕ) → has w k ≡ true → 2 ^ k ≤ w
enough zero w e = let h = odd w e in omega arith
enough (suc k) w e = let h = enough k (w / 2) (sym (has_suc w k) ∙ e) in omega arith

pub room : (n k w : ℕ) → k < n → w < 2 ^ n → has w k ≡ false → w + 2 ^ k < 2 ^ n
room zero k w l h e = absurd (omega arith)
room (suc n) zero w l h e = let p = even w e in omega arith
room (suc n) (suc k) w l h e = let r = room n k (w / 2) (omega arith) (omega arith) (sym (has_suc w k) ∙ e) in omega arith

has_added : (k j w : ℕ) → has w k ≡ false → has (w + 2 ^ k) j ≡ (eqb k j || has w j)
has_added zero zero w e = let p = even w e in has_zero (w + 1) ∙ eq-eqb ((w + 1) % 2) 1 (omega arith)
has_added zero (suc j) w e =
    let p = even w e in
    let h : (w + 1) / 2 ≡ w / 2 = omega arith in
    rw (has_suc (w + 1) j, has_suc w j, h, eqb-zero-suc j)
has_added (suc k) zero w e =
    let h : (w + 2 ^ suc k) % 2 ≡ w % 2 = omega arith in
    rw (has_zero (w + 2 ^ suc k), has_zero w, h, eqb-suc-zero k)
has_added (suc k) (suc j) w e =
    let h : (w + 2 ^ suc k) / 2 ≡ w / 2 + 2 ^ k = omega arith in
    rw (has_suc (w + 2 ^ suc k) j, has_suc w j, h, eqb-suc-suc k j) (has_added k j (w / 2) (sym (has_suc w k) ∙ e))

removed : (k j w : ℕ) → has w k ≡ true → has (w - 2 ^ k) j ≡ (not (eqb k j) && has w j)
removed zero zero w e = let p = odd w e in has_zero (w - 1) ∙ ne_eqb ((w - 1) % 2) 1 (omega arith)
removed zero (suc j) w e =
    let p = odd w e in
    let h : (w - 1) / 2 ≡ w / 2 = omega arith in
    rw (has_suc (w - 1) j, has_suc w j, h, eqb-zero-suc j)
removed (suc k) zero w e =
    let p = enough (suc k) w e in
    let h : (w - 2 ^ suc k) % 2 ≡ w % 2 = omega arith in
    rw (has_zero (w - 2 ^ suc k), has_zero w, h, eqb-suc-zero k)
removed (suc k) (suc j) w e =
    let p = enough (suc k) w e in
    let h : (w - 2 ^ suc k) / 2 ≡ w / 2 - 2 ^ k = omega arith in
    rw (has_suc (w - 2 ^ suc k) j, has_suc w j, h, eqb-suc-suc k j) (removed k j (w / 2) (sym (has_suc w k) ∙ e))

-- what is in the set with k, and in the set without it
pub has_plus : (w k j : ℕ) → has (plus w k) j ≡ (eqb k j || has w j)
unfolding plus
has_plus w k j = cond_cases (λ (v : ℕ). has v j ≡ (eqb k j || has w j)) (has w k) (λ e. same (eqb k j) refl e) (λ e. has_added k j w e)
  where
    same : (b : Bool) → eqb k j ≡ b → has w k ≡ true → has w j ≡ (b || has w j)
    same true p e = rw (← eqb-true k j p, e)
    same false p e = refl

pub has_minus : (w k j : ℕ) → has (minus w k) j ≡ (not (eqb k j) && has w j)
unfolding minus
has_minus w k j = cond_cases (λ (v : ℕ). has v j ≡ (not (eqb k j) && has w j)) (has w k) (λ e. removed k j w e) (λ e. same (eqb k j) refl e)
  where
    same : (b : Bool) → eqb k j ≡ b → has w k ≡ false → has w j ≡ (not b && has w j)
    same true p e = rw (← eqb-true k j p, e)
    same false p e = refl

pub has_plus_if : (w k : ℕ) (on : Bool) (j : ℕ) → has (plus_if w k on) j ≡ ((eqb k j && on) || has w j)
unfolding plus_if
has_plus_if w k true j = rw (and-true (eqb k j)) (has_plus w k j)
has_plus_if w k false j = rw (and-false (eqb k j))

pub has_plus_same : (w k : ℕ) → has (plus w k) k ≡ true
has_plus_same w k = rw (has_plus w k k, eq-eqb k k refl)

-- a key added twice
pub plus_if_twice : (w k : ℕ) (a b : Bool) → plus_if (plus_if w k a) k b ≡ plus_if w k (a || b)
unfolding plus_if plus
plus_if_twice w k true true = rw (has_plus_same w k)
plus_if_twice w k true false = refl
plus_if_twice w k false b = refl

pub has_plus_other : (w k j : ℕ) → (k ≡ j → ⊥) → has (plus w k) j ≡ has w j
has_plus_other w k j d = rw (has_plus w k j, ne_eqb k j d)

-- keys below n stay below n
pub plus_small : (n w k : ℕ) → k < n → w < 2 ^ n → plus w k < 2 ^ n
unfolding plus
plus_small n w k l h = cond_cases (λ (v : ℕ). v < 2 ^ n) (has w k) (λ e. h) (λ e. room n k w l h e)

pub minus_small : (n w k : ℕ) → w < 2 ^ n → minus w k < 2 ^ n
unfolding minus
minus_small n w k h = cond_cases (λ (v : ℕ). v < 2 ^ n) (has w k) (λ e. omega arith) (λ e. h)

-- without a key that it has, the word is less
pub minus_less : (w k : ℕ) → has w k ≡ true → minus w k < w
unfolding minus
minus_less w k e = rw e (omega (arith, enough k w e, pow_pos k))

pub has_nothing : (k : ℕ) → has 0 k ≡ false
has_nothing zero = has_zero 0
has_nothing (suc k) = has_suc 0 k ∙ has_nothing k

-- words of the same keys are the same
pub same_keys : (n w u : ℕ) → w < 2 ^ n → u < 2 ^ n → ((k : ℕ) → k < n → has w k ≡ has u k) → w ≡ u
same_keys zero w u l m h = omega arith
same_keys (suc n) w u l m h =
    let e : w / 2 ≡ u / 2 = same_keys n (w / 2) (u / 2) (omega arith) (omega arith) (λ k i. sym (has_suc w k) ∙ h (suc k) (omega arith) ∙ has_suc u k) in
    let f : w % 2 ≡ u % 2 = ⊎_elim (λ (p : has u 0 ≡ true). odd w (h 0 (omega arith) ∙ p) ∙ sym (odd u p)) (λ (p : has u 0 ≡ false). even w (h 0 (omega arith) ∙ p) ∙ sym (even u p)) (either (has u 0)) in
    omega arith

pub nothing_zero : (n w : ℕ) → w < 2 ^ n → ((k : ℕ) → k < n → has w k ≡ false) → w ≡ 0
nothing_zero n w l h = same_keys n w 0 l (omega (arith, pow_pos n)) (λ k i. h k i ∙ sym (has_nothing k))

-- the set with each key that passes
one_more : (test : ℕ → Bool) (n w v k : ℕ) → has v k ≡ ((ltb k n && test k) || has w k) → has (cond (test n) (plus v n) v) k ≡ ((ltb k (suc n) && test k) || has w k)
one_more test n w v k r = ⊎_elim last (λ (d : n ≡ k → ⊥). cond_cases After (test n) (λ e. has_plus_other v n k d ∙ kept d) (λ e. kept d)) (same_or_other n k)
  where
    After : ℕ → Type 0
    After u = has u k ≡ ((ltb k (suc n) && test k) || has w k)

    last : n ≡ k → After (cond (test n) (plus v n) v)
    last d =
        cond_cases After (test n)
        (λ e. let t : test k ≡ true = rw d at e in rw (has_plus v n k, eq-eqb n k d, lt-ltb k (suc n) (omega arith), t))
        (λ e. let t : test k ≡ false = rw d at e in r ∙ rw (le-ltb k n (omega arith), lt-ltb k (suc n) (omega arith), t))

    kept : (n ≡ k → ⊥) → After v
    kept d =
        r ∙ ⊎_elim (λ (l : k < n). rw (lt-ltb k n l, lt-ltb k (suc n) (omega arith))) (λ (l : n ≤ k). rw (le-ltb k n l, le-ltb k (suc n) (omega arith))) (lt_or_le k n)

pub has_plus_all : (test : ℕ → Bool) (n w k : ℕ) → has (plus_all test n w) k ≡ ((ltb k n && test k) || has w k)
unfolding plus_all for_each
has_plus_all test zero w k = rw (le-ltb k 0 (omega arith))
has_plus_all test (suc n) w k = one_more test n w (plus_all test n w) k (has_plus_all test n w k)

pub plus_all_small : (test : ℕ → Bool) (m n w : ℕ) → n ≤ m → w < 2 ^ m → plus_all test n w < 2 ^ m
unfolding plus_all
plus_all_small test m n w l h =
    for_each_keeps (λ k v. cond (test k) (plus v k) v) (λ (v : ℕ). v < 2 ^ m) n
    (λ k i v p. cond_cases (λ (u : ℕ). u < 2 ^ m) (test k) (λ e. plus_small m v k (omega arith) p) (λ e. p)) w h

-- for no key, for one key more, and with a test that agrees
pub plus_all_zero : (test : ℕ → Bool) (w : ℕ) → plus_all test 0 w ≡ w
unfolding plus_all for_each
plus_all_zero test w = refl

pub plus_all_more : (test : ℕ → Bool) (n w : ℕ) → plus_all test (n + 1) w ≡ cond (test n) (plus (plus_all test n w) n) (plus_all test n w)
unfolding plus_all
plus_all_more test n w = for_each_more (λ k v. cond (test k) (plus v k) v) n w

pub plus_all_ext : (f g : ℕ → Bool) (n w : ℕ) → ((k : ℕ) → k < n → f k ≡ g k) → plus_all f n w ≡ plus_all g n w
unfolding plus_all
plus_all_ext f g n w h =
    for_each_ext (λ k v. cond (f k) (plus v k) v) (λ k v. cond (g k) (plus v k) v) n w
    (λ k l. ap (λ b. cond b (plus (plus_all f k w) k) (plus_all f k w)) (h k l))

-- an operation digit by digit, which makes of two digits what `g` makes of two tests
module _ (op : ℕ → ℕ → ℕ) (g : Bool → Bool → Bool)
    (high : (a b k : ℕ) → op a b / 2 ^ k ≡ op (a / 2 ^ k) (b / 2 ^ k)) (low : (a b k : ℕ) → op a b % 2 ^ k ≡ op (a % 2 ^ k) (b % 2 ^ k))
    (zeros : eqb (op 0 0) 1 ≡ g false false) (second : eqb (op 0 1) 1 ≡ g false true)
    (first : eqb (op 1 0) 1 ≡ g true false) (ones : eqb (op 1 1) 1 ≡ g true true) where
  digits : (x y : ℕ) → x < 2 → y < 2 → eqb (op x y) 1 ≡ g (eqb x 1) (eqb y 1)
  digits zero zero h l = zeros
  digits zero (suc zero) h l = second
  digits (suc zero) zero h l = first
  digits (suc zero) (suc zero) h l = ones
  digits zero (suc (suc y)) h l = absurd (omega arith)
  digits (suc zero) (suc (suc y)) h l = absurd (omega arith)
  digits (suc (suc x)) y h l = absurd (omega arith)

  has_bits : (a b k : ℕ) → has (op a b) k ≡ g (has a k) (has b k)
  unfolding has
  has_bits a b k = rw (high a b k, low (a / 2 ^ k) (b / 2 ^ k) 1) (digits (a / 2 ^ k % 2) (b / 2 ^ k % 2) (omega arith) (omega arith))

-- keys of both sets, of either, of the first alone
pub has_both : (a b k : ℕ) → has (bit_and a b) k ≡ (has a k && has b k)
has_both = has_bits bit_and ◌&&◌ and_shr and_mod refl refl refl refl

pub has_either : (a b k : ℕ) → has (bit_or a b) k ≡ (has a k || has b k)
has_either = has_bits bit_or ◌||◌ or_shr or_mod refl refl refl refl

pub has_without : (a b k : ℕ) → has (bit_xor a (bit_and a b)) k ≡ (has a k && not (has b k))
has_without a b k = has_bits bit_xor (λ x y. cond x (not y) y) xor_shr xor_mod refl refl refl refl a (bit_and a b) k ∙ rw (has_both a b k) (alone (has a k) (has b k))
  where
    alone : (x y : Bool) → cond x (not (x && y)) (x && y) ≡ (x && not y)
    alone true y = refl
    alone false y = refl

-- the lowest key of a set that has one
pub has_lowest : (n w : ℕ) → 0 < w → w < 2 ^ n → (count_trailing_zeros n w < n) × (has w (count_trailing_zeros n w) ≡ true)
unfolding count_trailing_zeros
has_lowest zero w h l = absurd (omega arith)
has_lowest (suc n) w h l = by (w % 2) refl (has_lowest n (w / 2))
  where
    by : (d : ℕ) → w % 2 ≡ d → (0 < w / 2 → w / 2 < 2 ^ n → (count_trailing_zeros n (w / 2) < n) × (has (w / 2) (count_trailing_zeros n (w / 2)) ≡ true))
        → (under d (count_trailing_zeros n (w / 2)) < suc n) × (has w (under d (count_trailing_zeros n (w / 2))) ≡ true)
    by zero e more =
        let r = more (omega arith) (omega arith) in
        (omega arith, has_suc w (count_trailing_zeros n (w / 2)) ∙ r.1)
    by (suc d) e more = let f : w % 2 ≡ 1 = omega arith in (omega arith, has_zero w ∙ rw f)

-- a set has no key below its lowest one
pub below_lowest : (n w k : ℕ) → k < count_trailing_zeros n w → has w k ≡ false
unfolding count_trailing_zeros
below_lowest zero w k h = absurd (omega arith)
below_lowest (suc n) w k h = by (w % 2) refl k h (below_lowest n (w / 2))
  where
    by : (d : ℕ) → w % 2 ≡ d → (k : ℕ) → k < under d (count_trailing_zeros n (w / 2)) → ((j : ℕ) → j < count_trailing_zeros n (w / 2) → has (w / 2) j ≡ false) → has w k ≡ false
    by zero e zero h lower = has_zero w ∙ rw e
    by zero e (suc j) h lower = has_suc w j ∙ lower j (omega arith)
    by (suc d) e k h lower = absurd (omega arith)

-- the set with k, and without it, by operations digit by digit
has_power : (k j : ℕ) → has (2 ^ k) j ≡ eqb k j
has_power k j = rw (zero-add (2 ^ k), has_nothing j, or-false (eqb k j)) at (has_added k j 0 (has_nothing k))

has_rest : (k j : ℕ) → k < 32 → j < 32 → has (2 ^ 32 - 1 - 2 ^ k) j ≡ not (eqb k j)
unfolding has
has_rest k j h l = rw (bit_at_not w32 (2 ^ k) j (pow_below k 32 h) l) (turned (2 ^ k / 2 ^ j % 2) (omega arith) ∙ ap not (has_power k j))
  where
    turned : (b : ℕ) → b < 2 → eqb (1 - b) 1 ≡ not (eqb b 1)
    turned zero h = refl
    turned (suc zero) h = refl
    turned (suc (suc b)) h = absurd (omega arith)

pub plus_either : (w k : ℕ) → w < 2 ^ 32 → k < 32 → bit_or w (2 ^ k) ≡ plus w k
plus_either w k h l =
    same_keys 32 (bit_or w (2 ^ k)) (plus w k) (or_of_32 w (2 ^ k) h (pow_below k 32 l)) (plus_small 32 w k l h)
    (λ j i. has_either w (2 ^ k) j ∙ rw (has_power k j) (or_comm (has w j) (eqb k j)) ∙ sym (has_plus w k j))

pub minus_both : (w k : ℕ) → w < 2 ^ 32 → k < 32 → bit_and w (2 ^ 32 - 1 - 2 ^ k) ≡ minus w k
minus_both w k h l =
    same_keys 32 (bit_and w (2 ^ 32 - 1 - 2 ^ k)) (minus w k) (omega (arith, and_le_l w (2 ^ 32 - 1 - 2 ^ k))) (minus_small 32 w k h)
    (λ j i. has_both w (2 ^ 32 - 1 - 2 ^ k) j ∙ rw (has_rest k j l i) (and_comm (has w j) (not (eqb k j))) ∙ sym (has_minus w k j))
