-- Laws of tests: and, or, not, and the choice that a test makes.
-- Assumes nothing.
use Prim.Native.Nat.{ℕ, suc, ◌<◌, ◌≤◌}
use mathlib.Core.Bool.{Bool, true, false, cond, not, ◌&&◌, ◌||◌}
use mathlib.Core.Path.{◌≡◌, refl, sym, ap, ◌∙◌}
use mathlib.Core.Logic.{◌⊎◌, inl, inr, ⊎_elim}
use native.Mathlib.Omega.{arith}
use lib.Dec.{ltb, leb, eqb}
use borrow.Author.Tests.{ltb-true, ltb-false, eqb-true, eqb-false, eq-eqb, lt-ltb, le-ltb, le-leb, lt-leb}

-- a test's two values, which differ
pub either : (a : Bool) → (a ≡ true) ⊎ (a ≡ false)
either true = inl refl
either false = inr refl

pub not_both : {a : Bool} → a ≡ true → a ≡ false → ⊥
not_both d e = let z : ◌≡◌ {A = ℕ} 0 1 = cc in omega arith

pub is_false : (a : Bool) → (a ≡ true → ⊥) → a ≡ false
is_false true f = absurd (f refl)
is_false false f = refl

-- a test that is true where the other is, and the other way round, is the same
pub same_test : (a b : Bool) → (a ≡ true → b ≡ true) → (b ≡ true → a ≡ true) → a ≡ b
same_test true b f g = sym (f refl)
same_test false true f g = g refl
same_test false false f g = refl

pub or_either : (a b : Bool) → (a || b) ≡ true → (a ≡ true) ⊎ (b ≡ true)
or_either true b e = inl refl
or_either false b e = inr e

pub or_left : (a b : Bool) → a ≡ true → (a || b) ≡ true
or_left a b e = rw e

pub or_right : (a b : Bool) → b ≡ true → (a || b) ≡ true
or_right true b e = refl
or_right false b e = e

pub or_neither : (a b : Bool) → (a || b) ≡ false → (a ≡ false) × (b ≡ false)
or_neither true b e = absurd (not_both refl e)
or_neither false b e = (refl, e)

-- b is asked only where a holds
pub or_implies : (a b : Bool) → a ≡ true → (not a || b) ≡ true → b ≡ true
or_implies true b e f = f
or_implies false b e f = absurd (not_both e refl)

pub and_when : (a b c : Bool) → (a ≡ true → b ≡ c) → (a && b) ≡ (a && c)
and_when true b c f = f refl
and_when false b c f = refl

pub and_left : (a b : Bool) → (a && b) ≡ true → a ≡ true
and_left true b e = refl
and_left false b e = e

pub and_right : (a b : Bool) → (a && b) ≡ true → b ≡ true
and_right true b e = e
and_right false b e = absurd (not_both e refl)

pub and_both : (a b : Bool) → a ≡ true → b ≡ true → (a && b) ≡ true
and_both a b d e = rw (d, e)

pub and_fails : (a b : Bool) → (a && b) ≡ false → (a ≡ false) ⊎ (b ≡ false)
and_fails true b e = inr e
and_fails false b e = inl refl

pub not_and : (a b : Bool) → not (a && b) ≡ (not a || not b)
not_and true b = refl
not_and false b = refl

-- what a test chooses
module _ {A : Type 0} where
  pub cond_true : (a : Bool) (x y : A) → a ≡ true → cond a x y ≡ x
  cond_true a x y e = rw e

  pub cond_same : (a : Bool) (x : A) → cond a x x ≡ x
  cond_same true x = refl
  cond_same false x = refl

  -- what holds in each case holds of the choice
  pub cond_cases : (P : A → Type 0) (a : Bool) {x y : A} → (a ≡ true → P x) → (a ≡ false → P y) → P (cond a x y)
  cond_cases P true f g = f refl
  cond_cases P false f g = g refl

-- tests of two numbers, as cases
pub lt_or_le : (a b : ℕ) → (a < b) ⊎ (b ≤ a)
lt_or_le a b = by (ltb a b) refl
  where
    by : (t : Bool) → ltb a b ≡ t → (a < b) ⊎ (b ≤ a)
    by true e = inl (ltb-true a b e)
    by false e = inr (ltb-false a b e)

pub not_below : (a b : ℕ) → not (ltb a b) ≡ leb b a
not_below a b =
    ⊎_elim (λ (h : a < b). ap not (lt-ltb a b h) ∙ sym (lt-leb b a h)) (λ (h : b ≤ a). ap not (le-ltb a b h) ∙ sym (le-leb b a h)) (lt_or_le a b)

pub same_or_other : (a b : ℕ) → (a ≡ b) ⊎ (a ≡ b → ⊥)
same_or_other a b = by (eqb a b) refl
  where
    by : (t : Bool) → eqb a b ≡ t → (a ≡ b) ⊎ (a ≡ b → ⊥)
    by true e = inl (eqb-true a b e)
    by false e = inr (eqb-false a b e)

-- a number below `suc n` is below n, or n
pub below_or_last : (k n : ℕ) → k < suc n → (k < n) ⊎ (k ≡ n)
below_or_last k n h = by (ltb k n) refl
  where
    by : (t : Bool) → ltb k n ≡ t → (k < n) ⊎ (k ≡ n)
    by true e = inl (ltb-true k n e)
    by false e = let l = ltb-false k n e in inr (omega arith)

-- one test chooses on both sides of a relation
pub cond_both : {A B : Type 0} (R : A → B → Type 0) (c : Bool) {x y : A} {u v : B} → R x u → R y v → R (cond c x y) (cond c u v)
cond_both R true p q = p
cond_both R false p q = q

pub eqb_swap : (a b : ℕ) → eqb a b ≡ eqb b a
eqb_swap a b = same_test (eqb a b) (eqb b a) (λ e. eq-eqb b a (sym (eqb-true a b e))) (λ e. eq-eqb a b (sym (eqb-true b a e)))
