-- NUMBERS: the operations and comparisons of words are those that the document's relations give the numbers which the words hold.
-- Assumes nothing.
use Prim.Native.Nat.{ℕ, zero, suc, ◌+◌, ◌*◌, ◌-◌, ◌/◌, ◌%◌, ◌^◌, ◌<◌}
use mathlib.Core.Bool.{Bool, true, false, cond}
use mathlib.Core.Logic.{◌⊎◌, inl, inr, ◌↔◌}
use mathlib.Core.Path.{◌≡◌, refl, sym, ap, subst, ◌∙◌}
use native.Mathlib.Nat.{mul-add-div, div-eq_of_lt}
use native.Mathlib.Omega.{arith}
use lib.Dec.{eqb, ltb}
use lib.IntN.{ℤ, pos, negsuc, neg_ℤ, nat_abs, ◌+ℤ◌, ◌-ℤ◌, ◌*ℤ◌, neg_ℤ-neg_ℤ, neg_ℤ-+ℤ, pos-ne-negsuc, +ℤ_comm, +ℤ-neg_ℤ_cancel, -ℤ-+ℤ_cancel}
use lib.Signed.{lt_z, non_neg, quot_z, rem_z}
use mir.Syntax.{w32}
use mir.Val.{Fits, of_z}
use mir.Facts.{Fits-of_lt, to_z-of_z, of_z-to_z, to_z_inj}
use borrow.Author.Tests.{lt-ltb, le-ltb, ltb-true, eqb-true, eq-eqb}
use Rattle.basis.proofs.Tests.{not_both, cond_cases}
use Rattle.value.specs.Values.{Value}
use Rattle.std.specs.Prelude.{None, Some}
use Rattle.value.specs.Values.{signed_of, in_range, fit, is_zero, floor_z, floor_rem, arithmetic}
use Rattle.value.specs.Truths.{test_of}
use Rattle.value.proofs.Words.{in_range_lem, word_small}
use Rattle.value.proofs.Bounds.{word_in_range}
use Rattle.value.proofs.Floored.{times_neg, neg_times, rest_of, of_pos, above_is, exchanged, floor_fits}
use Rattle.labs.specs.Numbers.{number, Divided, Operates, plus, minus, times, divide, remainder, ◌≺◌, Compares, equal, less, greater}

pub no_value : {v : ℕ} → None ≡ Some v → ⊥
no_value p = let z : ◌≡◌ {A = ℕ} 0 1 = cc in omega arith

-- the number of a word
pub number_is : (w : ℕ) → w < 2 ^ 32 → number w ≡ signed_of w
number_is w l = by (ltb w (2 ^ 31))
  where
    by : (b : Bool) → cond b (pos w) (pos w -ℤ pos (2 ^ 32)) ≡ cond b (pos w) (negsuc (2 ^ 32 - suc w))
    by true = refl
    by false = rw (lt-ltb w (2 ^ 32) l)

-- a number is a value where a word holds it
fit_is : (z : ℤ) (w : ℕ) → (fit z ≡ Some w) ↔ ((w < 2 ^ 32) × (number w ≡ z))
fit_is z w = (by (in_range z) refl, back)
  where
    by : (b : Bool) → in_range z ≡ b → cond b (Some (of_z w32 z)) None ≡ Some w → (w < 2 ^ 32) × (number w ≡ z)
    by true e p =
        let i : of_z w32 z ≡ w = cc in
        let l = word_small z e in
        subst (λ (o : ℕ). (o < 2 ^ 32) × (number o ≡ z)) i (l, number_is (of_z w32 z) l ∙ to_z-of_z {w = w32} (record { sfits = (in_range_lem z).0 e }))
    by false e p = absurd (no_value p)

    back : (w < 2 ^ 32) × (number w ≡ z) → fit z ≡ Some w
    back h =
        let e : signed_of w ≡ z = sym (number_is w h.0) ∙ h.1 in
        let f : Fits w32 w = Fits-of_lt h.0 in
        subst (λ (o : ℤ). fit o ≡ Some w) e (rw (word_in_range f, of_z-to_z f))

-- a floored remainder is a value where the divisor is
pub floor_in_range : (x y : ℤ) → is_zero y ≡ false → in_range y ≡ true → in_range (floor_rem x y) ≡ true
floor_in_range x y e h =
    (in_range_lem (floor_rem x y)).1 (floor_fits x y e (record { sfits = (in_range_lem y).0 h })).sfits

-- DIVISION: signs are taken off, and what is left is division by a number above 0
abs_neg : (z : ℤ) → nat_abs (neg_ℤ z) ≡ nat_abs z
abs_neg (pos zero) = refl
abs_neg (pos (suc n)) = refl
abs_neg (negsuc n) = refl

abbrev Sign : ℤ → ℤ → Type 0
Sign s r = (r ≡ pos 0) ⊎ (non_neg r ≡ non_neg s)

sign_neg : (s r : ℤ) → (s ≡ pos 0 → ⊥) → Sign s r → Sign (neg_ℤ s) (neg_ℤ r)
sign_neg (pos zero) r d g = absurd (d refl)
sign_neg (pos (suc a)) (pos zero) d g = inl refl
sign_neg (pos (suc a)) (pos (suc c)) d g = inr refl
sign_neg (pos (suc a)) (negsuc c) d (inl e) = absurd (pos-ne-negsuc 0 c (sym e))
sign_neg (pos (suc a)) (negsuc c) d (inr e) = absurd (not_both e refl)
sign_neg (negsuc a) (pos c) d (inl e) = inl (ap neg_ℤ e)
sign_neg (negsuc a) (pos c) d (inr e) = absurd (not_both refl e)
sign_neg (negsuc a) (negsuc c) d g = inr refl

module _ {s x y q r : ℤ} (t : Divided s x y q r) where
  dividend_neg : (s ≡ pos 0 → ⊥) → Divided (neg_ℤ s) (neg_ℤ x) y (neg_ℤ q) (neg_ℤ r)
  dividend_neg d = record {
    sum = ap neg_ℤ t.sum ∙ neg_ℤ-+ℤ (y *ℤ q) r ∙ ap (λ p. p +ℤ neg_ℤ r) (sym (times_neg y q));
    smaller = rw (abs_neg r) t.smaller;
    sign = sign_neg s r d t.sign;
  }

  divisor_neg : Divided s x (neg_ℤ y) (neg_ℤ q) r
  divisor_neg = record {
    sum = t.sum ∙ ap (λ p. p +ℤ r) (sym (times_neg (neg_ℤ y) q ∙ ap neg_ℤ (neg_times y q) ∙ neg_ℤ-neg_ℤ (y *ℤ q)));
    smaller = rw (abs_neg y) t.smaller;
    sign = t.sign;
  }

above_zero : {n : ℕ} → pos (suc n) ≡ pos 0 → ⊥
above_zero e = let z = ap nat_abs e in omega arith

below_zero : {n : ℕ} → negsuc n ≡ pos 0 → ⊥
below_zero {n} e = pos-ne-negsuc 0 n (sym e)

-- (y × q + c) / y, rounded down, is q
floor_back : (b c : ℕ) (q : ℤ) → c < suc b → floor_z (pos (suc b) *ℤ q +ℤ pos c) (pos (suc b)) ≡ q
floor_back b c (pos m) l = ap pos (mul-add-div (omega arith) m c ∙ ap (λ (n : ℕ). m + n) (div-eq_of_lt l) ∙ omega arith)
floor_back b c (negsuc m) l = by (suc b * suc m) refl
  where
    by : (n : ℕ) → suc b * suc m ≡ n → floor_z (neg_ℤ (pos n) +ℤ pos c) (pos (suc b)) ≡ negsuc m
    by zero e = absurd (omega arith)
    by (suc n) e =
        let f : suc n - suc c ≡ suc b * m + (b - c) = omega arith in
        rw (lt-ltb c (suc n) (omega arith), f)
        (ap negsuc (mul-add-div (omega arith) m (b - c) ∙ ap (λ (k : ℕ). m + k) (div-eq_of_lt (omega arith)) ∙ omega arith))

-- any number by one above 0, where the rest is not below 0
module _ (s x : ℤ) (b : ℕ) (p : non_neg s ≡ true) where
  above_divides : Divided s x (pos (suc b)) (floor_z x (pos (suc b))) (floor_rem x (pos (suc b)))
  above_divides =
      let w = above_is x b in
      let m = pos (suc b) *ℤ floor_z x (pos (suc b)) in record {
        sum = sym (+ℤ_comm m (x -ℤ m) ∙ -ℤ-+ℤ_cancel x m);
        smaller = rw w.2 w.1;
        sign = inr (ap non_neg w.2 ∙ sym p);
      }

  above_one : (q r : ℤ) → Divided s x (pos (suc b)) q r → (q ≡ floor_z x (pos (suc b))) × (r ≡ floor_rem x (pos (suc b)))
  above_one q (pos c) t =
      let e : floor_z x (pos (suc b)) ≡ q = ap (λ z. floor_z z (pos (suc b))) t.sum ∙ floor_back b c q t.smaller in
      (sym e, sym (ap (λ k. x -ℤ pos (suc b) *ℤ k) e ∙ rest_of (pos (suc b) *ℤ q) (pos c) t.sum))
  above_one q (negsuc c) t = absurd (by t.sign)
    where
      by : Sign s (negsuc c) → ⊥
      by (inl e) = below_zero e
      by (inr e) = not_both p (sym e)

-- TRUNCATED: of two natural numbers, the second not 0
module _ (a b : ℕ) where
  natural : Divided (pos a) (pos a) (pos (suc b)) (pos (a / suc b)) (pos (a % suc b))
  natural = subst (λ r. Divided (pos a) (pos a) (pos (suc b)) (pos (a / suc b)) r) (of_pos a b) (above_divides (pos a) (pos a) b refl)

  natural_one : (q r : ℤ) → Divided (pos a) (pos a) (pos (suc b)) q r → (q ≡ pos (a / suc b)) × (r ≡ pos (a % suc b))
  natural_one q r t = let w = above_one (pos a) (pos a) b refl q r t in (w.0, w.1 ∙ of_pos a b)

-- and of any two numbers, the second not 0
truncates : (x y : ℤ) → (y ≡ pos 0 → ⊥) → Divided x x y (quot_z x y) (rem_z x y)
truncates (pos a) (pos zero) d = absurd (d refl)
truncates (pos a) (pos (suc b)) d = natural a b
truncates (pos a) (negsuc b) d = divisor_neg (natural a b)
truncates (negsuc a) (pos zero) d = absurd (d refl)
truncates (negsuc a) (pos (suc b)) d = dividend_neg (natural (suc a) b) above_zero
truncates (negsuc a) (negsuc b) d =
    subst (λ q. Divided (negsuc a) (negsuc a) (negsuc b) q (rem_z (negsuc a) (negsuc b))) (neg_ℤ-neg_ℤ (pos (suc a / suc b)))
    (dividend_neg (divisor_neg (natural (suc a) b)) above_zero)

over : {p q : ℤ} → neg_ℤ p ≡ q → p ≡ neg_ℤ q
over {p} e = sym (neg_ℤ-neg_ℤ p) ∙ ap neg_ℤ e

no_divisor : {n : ℕ} → n < 0 → ⊥
no_divisor l = omega arith

truncated_one : (x y q r : ℤ) → Divided x x y q r → q ≡ quot_z x y
truncated_one (pos a) (pos zero) q r t = absurd (no_divisor t.smaller)
truncated_one (pos a) (pos (suc b)) q r t = (natural_one a b q r t).0
truncated_one (pos a) (negsuc b) q r t = over (natural_one a b (neg_ℤ q) r (divisor_neg t)).0
truncated_one (negsuc a) (pos zero) q r t = absurd (no_divisor t.smaller)
truncated_one (negsuc a) (pos (suc b)) q r t = over (natural_one (suc a) b (neg_ℤ q) (neg_ℤ r) (dividend_neg t below_zero)).0
truncated_one (negsuc a) (negsuc b) q r t =
    sym (neg_ℤ-neg_ℤ q) ∙ (natural_one (suc a) b (neg_ℤ (neg_ℤ q)) (neg_ℤ r) (divisor_neg (dividend_neg t below_zero))).0

-- FLOORED: of any two numbers, the second not 0
floors : (x y : ℤ) → (y ≡ pos 0 → ⊥) → Divided y x y (floor_z x y) (floor_rem x y)
floors x (pos zero) d = absurd (d refl)
floors x (pos (suc b)) d = above_divides (pos (suc b)) x b refl
floors x (negsuc b) d =
    let q = floor_z x (negsuc b) in
    subst (λ z. Divided (negsuc b) z (negsuc b) q (floor_rem x (negsuc b))) (neg_ℤ-neg_ℤ x)
    (subst (λ k. Divided (negsuc b) (neg_ℤ (neg_ℤ x)) (negsuc b) k (floor_rem x (negsuc b))) (neg_ℤ-neg_ℤ q)
    (subst (λ r. Divided (negsuc b) (neg_ℤ (neg_ℤ x)) (negsuc b) (neg_ℤ (neg_ℤ q)) r) (sym (exchanged x b))
    (divisor_neg (dividend_neg (above_divides (pos (suc b)) (neg_ℤ x) b refl) above_zero))))

floored_one : (x y q r : ℤ) → Divided y x y q r → r ≡ floor_rem x y
floored_one x (pos zero) q r t = absurd (no_divisor t.smaller)
floored_one x (pos (suc b)) q r t = (above_one (pos (suc b)) x b refl q r t).1
floored_one x (negsuc b) q r t =
    over (above_one (pos (suc b)) (neg_ℤ x) b refl (neg_ℤ (neg_ℤ q)) (neg_ℤ r) (divisor_neg (dividend_neg t below_zero))).1 ∙ sym (exchanged x b)

nonzero : (s x y q r : ℤ) → Divided s x y q r → is_zero y ≡ false
nonzero s x (pos zero) q r t = absurd (no_divisor t.smaller)
nonzero s x (pos (suc n)) q r t = refl
nonzero s x (negsuc n) q r t = refl

not_zero : (y : ℤ) → is_zero y ≡ false → y ≡ pos 0 → ⊥
not_zero y e p = not_both (ap is_zero p) e

-- THE OPERATIONS
module _ (x y : ℤ) (w : ℕ) where
  abbrev Given : ℕ → Type 0
  Given kind = (w < 2 ^ 32) × Operates kind x y (number w)

  -- a value that is given by this kind
  abbrev Gives : ℕ → Value → Type 0
  Gives kind v = v ≡ Some w → Given kind

  gives_fit : (kind : ℕ) (z : ℤ) → (number w ≡ z → Operates kind x y (number w)) → Gives kind (fit z)
  gives_fit kind z f e = let h = (fit_is z w).0 e in (h.0, f h.1)

  gives_divided : (kind : ℕ) (z : ℤ) → ((y ≡ pos 0 → ⊥) → number w ≡ z → Operates kind x y (number w)) → Gives kind (cond (is_zero y) None (fit z))
  gives_divided kind z f = cond_cases (Gives kind) (is_zero y) (λ e p. absurd (no_value p)) (λ e. gives_fit kind z (f (not_zero y e)))

  arithmetic_gives : (kind : ℕ) → Gives kind (arithmetic kind x y)
  arithmetic_gives kind =
      cond_cases (Gives kind) (eqb kind 36) (λ e. at 36 e (fit (x +ℤ y)) (gives_fit 36 (x +ℤ y) plus))
      (λ e. cond_cases (Gives kind) (eqb kind 37) (λ f. at 37 f (fit (x -ℤ y)) (gives_fit 37 (x -ℤ y) (λ h. minus (ap (λ z. z +ℤ y) h ∙ -ℤ-+ℤ_cancel x y))))
      (λ f. cond_cases (Gives kind) (eqb kind 38) (λ g. at 38 g (fit (x *ℤ y)) (gives_fit 38 (x *ℤ y) times))
      (λ g. cond_cases (Gives kind) (eqb kind 39) (λ h. at 39 h _ (gives_divided 39 (quot_z x y) (λ d i. divide (subst (λ q. Divided x x y q (rem_z x y)) (sym i) (truncates x y d)))))
      (λ h. cond_cases (Gives kind) (eqb kind 40) (λ i. at 40 i _ (gives_divided 40 (floor_rem x y) (λ d j. remainder (subst (λ r. Divided y x y (floor_z x y) r) (sym j) (floors x y d)))))
      (λ i p. absurd (no_value p))))))
    where
      at : (k : ℕ) → eqb kind k ≡ true → (v : Value) → Gives k v → Gives kind v
      at k e v g p = subst (λ (j : ℕ). Given j) (sym (eqb-true kind k e)) (g p)

  given_arithmetic : {kind : ℕ} → w < 2 ^ 32 → Operates kind x y (number w) → arithmetic kind x y ≡ Some w
  given_arithmetic l (plus e) = (fit_is (x +ℤ y) w).1 (l, e)
  given_arithmetic l (minus e) = (fit_is (x -ℤ y) w).1 (l, sym (+ℤ-neg_ℤ_cancel (number w) y) ∙ ap (λ z. z -ℤ y) e)
  given_arithmetic l (times e) = (fit_is (x *ℤ y) w).1 (l, e)
  given_arithmetic l (divide {r = r} t) = rw (nonzero x x y (number w) r t) ((fit_is (quot_z x y) w).1 (l, truncated_one x y (number w) r t))
  given_arithmetic l (remainder {q = q} t) = rw (nonzero y x y q (number w) t) ((fit_is (floor_rem x y) w).1 (l, floored_one x y q (number w) t))

  pub operates_is : (kind : ℕ) → (arithmetic kind x y ≡ Some w) ↔ ((w < 2 ^ 32) × Operates kind x y (number w))
  operates_is kind = (arithmetic_gives kind, λ h. given_arithmetic h.0 h.1)

-- THE COMPARISONS
less_is : (x y : ℤ) → (lt_z x y ≡ true) ↔ (x ≺ y)
less_is (pos a) (pos b) = (
  λ e. let l = ltb-true a b e in (b - suc a, ap pos (omega arith)),
  λ h. lt-ltb a b (let e = ap nat_abs h.1 in omega arith),
)
less_is (pos a) (negsuc b) = (λ e. absurd (not_both e refl), λ h. absurd (pos-ne-negsuc _ b (sym h.1)))
less_is (negsuc a) (pos b) = (
  λ e. (a + b, sym (rw (le-ltb (suc (a + b)) (suc a) (omega arith)) (ap pos (omega arith)))),
  λ h. refl,
)
less_is (negsuc a) (negsuc b) = (
  λ e. let l = ltb-true b a e in (a - suc b, sym (rw (lt-ltb (suc (a - suc b)) (suc a) (omega arith)) (ap negsuc (omega arith)))),
  λ h. lt-ltb b a (by h.0 (ltb (suc h.0) (suc a)) refl h.1),
)
  where
    by : (n : ℕ) → (c : Bool) → ltb (suc n) (suc a) ≡ c → negsuc b ≡ cond c (negsuc (suc a - suc (suc n))) (pos (suc n - suc a)) → b < a
    by n true l e = let m = ltb-true (suc n) (suc a) l in let i = ap nat_abs e in omega arith
    by n false l e = absurd (pos-ne-negsuc _ b (sym e))

pub compares_is : (kind v w : ℕ) → v < 2 ^ 32 → w < 2 ^ 32 → (test_of kind v w ≡ true) ↔ Compares kind (number v) (number w)
compares_is kind v w l m = (
  cond_cases Gives (eqb kind 17) (λ e p. at 17 e (equal (ap number (eqb-true v w p))))
      (λ e. cond_cases Gives (eqb kind 18) (λ f p. at 18 f (less (of v w l m p)))
      (λ f. cond_cases Gives (eqb kind 19) (λ g p. at 19 g (greater (of w v m l p)))
      (λ g p. absurd (not_both p refl)))),
  λ h. back h,
)
  where
    Gives : Bool → Type 0
    Gives b = b ≡ true → Compares kind (number v) (number w)

    at : (k : ℕ) → eqb kind k ≡ true → Compares k (number v) (number w) → Compares kind (number v) (number w)
    at k e c = subst (λ (j : ℕ). Compares j (number v) (number w)) (sym (eqb-true kind k e)) c

    of : (v w : ℕ) → v < 2 ^ 32 → w < 2 ^ 32 → lt_z (signed_of v) (signed_of w) ≡ true → number v ≺ number w
    of v w l m p = rw (number_is v l, number_is w m) ((less_is (signed_of v) (signed_of w)).0 p)

    to : (v w : ℕ) → v < 2 ^ 32 → w < 2 ^ 32 → number v ≺ number w → lt_z (signed_of v) (signed_of w) ≡ true
    to v w l m h = (less_is (signed_of v) (signed_of w)).1 (rw (number_is v l, number_is w m) at h)

    back : {k : ℕ} → Compares k (number v) (number w) → test_of k v w ≡ true
    back (equal e) = eq-eqb v w (to_z_inj {w = w32} (Fits-of_lt l) (Fits-of_lt m) (sym (number_is v l) ∙ e ∙ number_is w m))
    back (less h) = to v w l m h
    back (greater h) = to w v m l h
