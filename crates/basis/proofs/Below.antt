-- Laws of the recursion on falling numbers.
-- Assumes nothing.
use Prim.Native.Nat.{ℕ, zero, suc, ◌<◌, ◌≤◌}
use mathlib.Core.Bool.{Bool, true, false}
use mathlib.Core.Path.{◌≡◌, refl, sym, ◌∙◌}
use native.Mathlib.Omega.{arith}
use lib.Dec.{eqb}
use borrow.Author.Tests.{eqb-true, eqb-false, ne_eqb}
use Rattle.basis.specs.Below.{below}

module _ {A : Type 0} (step : (ℕ → A) → ℕ → A) (none : A) where
  -- a number that is not below n has no result
  pub below_out : (n k : ℕ) → n ≤ k → below step none n k ≡ none
  unfolding below
  below_out zero k h = refl
  below_out (suc n) k h = rw (below, ne_eqb k n (λ e. omega arith)) (below_out n k (omega arith))

  -- the result of a number below n is made by `step` from those below the number
  pub below_at : (n k : ℕ) → k < n → below step none n k ≡ step (below step none k) k
  unfolding below
  below_at zero k h = absurd (omega arith)
  below_at (suc n) k h = by (eqb k n) refl (below_at n k)
    where
      by : (t : Bool) → eqb k n ≡ t → (k < n → below step none n k ≡ step (below step none k) k) → below step none (suc n) k ≡ step (below step none k) k
      by true e r = rw (below, e, eqb-true k n e)
      by false e r = let d = eqb-false k n e in rw (below, e) (r (omega arith))

  -- so it is the same below any two numbers
  pub below_same : (m n k : ℕ) → k < m → k < n → below step none m k ≡ below step none n k
  below_same m n k h j = below_at m k h ∙ sym (below_at n k j)

  -- what `step` gives a number, where the lower ones have it, all below n have
  pub below_each : (P : ℕ → A → Type 0) (n : ℕ)
      → ((k : ℕ) → k < n → ((j : ℕ) → j < k → P j (below step none k j)) → P k (step (below step none k) k))
      → (k : ℕ) → k < n → P k (below step none n k)
  below_each P zero f k h = absurd (omega arith)
  below_each P (suc n) f k h = rw (below_at (suc n) k h) (f k h (λ j l. rw (below_same k n j l (omega arith)) (below_each P n (λ i m. f i (omega arith)) j (omega arith))))

  -- the same of every number, where `none` has it too
  pub below_induct : (P : ℕ → A → Type 0) (n : ℕ)
      → ((k : ℕ) → P k none)
      → ((k : ℕ) → k < n → ((j : ℕ) → P j (below step none k j)) → P k (step (below step none k) k))
      → (k : ℕ) → P k (below step none n k)
  unfolding below
  below_induct P zero o f k = o k
  below_induct P (suc n) o f k = by (eqb k n) refl (below_induct P n o (λ i h. f i (omega arith)))
    where
      by : (t : Bool) → eqb k n ≡ t → ((j : ℕ) → P j (below step none n j)) → P k (elim t [ true ↦ step (below step none n) n | false ↦ below step none n k ])
      by true e r = rw (eqb-true k n e) (f n (omega arith) r)
      by false e r = r k

-- what two recursions make of a number is related, where their steps keep it so
module _ {A B : Type 0} (R : A → B → Type 0) where
  pub below_both : {f : (ℕ → A) → ℕ → A} {g : (ℕ → B) → ℕ → B} {a : A} {b : B} → R a b
      → ((l : ℕ → A) (m : ℕ → B) → ((k : ℕ) → R (l k) (m k)) → (k : ℕ) → R (f l k) (g m k)) → (n k : ℕ) → R (below f a n k) (below g b n k)
  unfolding below
  below_both o h zero k = o
  below_both {f} {g} {a} {b} o h (suc n) k = by (eqb k n) (below_both o h n)
    where
      by : (t : Bool) → ((j : ℕ) → R (below f a n j) (below g b n j))
          → R (elim t [ true ↦ f (below f a n) n | false ↦ below f a n k ]) (elim t [ true ↦ g (below g b n) n | false ↦ below g b n k ])
      by true r = h (below f a n) (below g b n) r n
      by false r = r k
