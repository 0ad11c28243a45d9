-- Laws of the tests of the numbers below n, and of what is done for each of them.
-- Assumes nothing.
use Prim.Native.Nat.{ℕ, zero, suc, ◌+◌, ◌<◌, ◌≤◌}
use mathlib.Core.Bool.{Bool, true, false, cond, ◌&&◌, ◌||◌}
use mathlib.Core.Path.{◌≡◌, refl, sym, ap, ◌∙◌}
use mathlib.Core.Logic.{◌⊎◌, inl, inr, ⊎_elim}
use native.Mathlib.Omega.{arith}
use native.Mathlib.Numerals.{add-one}
use Rattle.basis.specs.Numbers.{some_below, every, lowest, how_many, for_each}
use Rattle.basis.proofs.Tests.{either, is_false, not_both, or_either, or_left, or_right, and_left, and_right, and_both, cond_cases, same_or_other, below_or_last}

-- one number more, as code counts
module _ (test : ℕ → Bool) (n : ℕ) where
  pub some_more : some_below test (n + 1) ≡ (some_below test n || test n)
  unfolding some_below
  some_more = rw (add-one n)

  pub every_more : every test (n + 1) ≡ (every test n && test n)
  unfolding every
  every_more = rw (add-one n)

  pub how_many_more : how_many test (n + 1) ≡ how_many test n + cond (test n) 1 0
  unfolding how_many
  how_many_more = rw (add-one n)

module _ (test : ℕ → Bool) where
  -- some
  pub some_at : (n k : ℕ) → k < n → test k ≡ true → some_below test n ≡ true
  unfolding some_below
  some_at zero k h e = absurd (omega arith)
  some_at (suc n) k h e =
      ⊎_elim (λ (l : k < n). or_left (some_below test n) (test n) (some_at n k l e)) (λ (l : k ≡ n). or_right (some_below test n) (test n) (rw l at e)) (below_or_last k n h)

  pub some_not : (n : ℕ) → some_below test n ≡ false → (k : ℕ) → k < n → test k ≡ false
  some_not n e k h = is_false (test k) (λ f. not_both (some_at n k h f) e)

  pub some_witness : (n : ℕ) → some_below test n ≡ true → (k : ℕ) × (k < n) × (test k ≡ true)
  unfolding some_below
  some_witness zero e = absurd (not_both e refl)
  some_witness (suc n) e =
      ⊎_elim (λ (l : some_below test n ≡ true). let w = some_witness n l in (w.0, omega arith, w.2)) (λ (l : test n ≡ true). (n, omega arith, l)) (or_either (some_below test n) (test n) e)

  pub some_none : (n : ℕ) → ((k : ℕ) → k < n → test k ≡ false) → some_below test n ≡ false
  some_none n f = is_false (some_below test n) (λ e. let w = some_witness n e in not_both w.2 (f w.0 w.1))

  -- every
  pub every_at : (n : ℕ) → every test n ≡ true → (k : ℕ) → k < n → test k ≡ true
  unfolding every
  every_at zero e k h = absurd (omega arith)
  every_at (suc n) e k h =
      ⊎_elim (λ (l : k < n). every_at n (and_left (every test n) (test n) e) k l) (λ (l : k ≡ n). rw l (and_right (every test n) (test n) e)) (below_or_last k n h)

  pub every_fails : (n k : ℕ) → k < n → test k ≡ false → every test n ≡ false
  every_fails n k h e = is_false (every test n) (λ f. not_both (every_at n f k h) e)

  pub every_all : (n : ℕ) → ((k : ℕ) → k < n → test k ≡ true) → every test n ≡ true
  unfolding every
  every_all zero f = refl
  every_all (suc n) f = and_both (every test n) (test n) (every_all n (λ k h. f k (omega arith))) (f n (omega arith))

  -- lowest: what is lower does not pass, and what is found does
  pub lowest_none : (n : ℕ) → ((k : ℕ) → k < n → test k ≡ false) → lowest test n ≡ n
  unfolding lowest
  lowest_none zero f = refl
  lowest_none (suc n) f = rw (lowest, some_none n (λ k h. f k (omega arith)), f n (omega arith))

  pub lowest_at : (n k : ℕ) → k < n → test k ≡ true → ((j : ℕ) → j < k → test j ≡ false) → lowest test n ≡ k
  unfolding lowest
  lowest_at zero k h e f = absurd (omega arith)
  lowest_at (suc n) k h e f =
      ⊎_elim (λ (l : k < n). rw (lowest, some_at n k l e) (lowest_at n k l e f)) (λ (l : k ≡ n). last l) (below_or_last k n h)
    where
      last : k ≡ n → lowest test (suc n) ≡ k
      last l =
          let t : test n ≡ true = rw l at e in
          let s : some_below test n ≡ false = some_none n (λ j g. f j (omega arith)) in
          rw (lowest, s, t) (sym l)

  -- either none passes, or there is a lowest that does
  abbrev Lowest : ℕ → Type 0
  Lowest n = (k : ℕ) × (k < n) × (test k ≡ true) × ((j : ℕ) → j < k → test j ≡ false)

  found : (n : ℕ) → ((k : ℕ) → k < n → test k ≡ false) ⊎ Lowest n
  found zero = inl (λ k h. absurd (omega arith))
  found (suc n) = ⊎_elim last (λ (w : Lowest n). inr (w.0, omega arith, w.2, w.3)) (found n)
    where
      last : ((k : ℕ) → k < n → test k ≡ false) → ((k : ℕ) → k < suc n → test k ≡ false) ⊎ Lowest (suc n)
      last f =
          ⊎_elim (λ (e : test n ≡ true). inr (n, omega arith, e, f))
          (λ (e : test n ≡ false). inl (λ k h. ⊎_elim (λ (l : k < n). f k l) (λ (l : k ≡ n). rw l e) (below_or_last k n h))) (either (test n))

  pub lowest_bound : (n : ℕ) → lowest test n ≤ n
  lowest_bound n = ⊎_elim (λ f. omega (arith, lowest_none n f)) (λ (w : Lowest n). omega (arith, lowest_at n w.0 w.1 w.2 w.3)) (found n)

  pub lowest_before : (n k : ℕ) → k < lowest test n → test k ≡ false
  lowest_before n k h =
      ⊎_elim (λ f. f k (omega (arith, lowest_none n f))) (λ (w : Lowest n). w.3 k (omega (arith, lowest_at n w.0 w.1 w.2 w.3))) (found n)

  pub lowest_below : (n : ℕ) → some_below test n ≡ true → lowest test n < n
  lowest_below n e =
      let s = some_witness n e in
      ⊎_elim (λ f. absurd (not_both s.2 (f s.0 s.1))) (λ (w : Lowest n). omega (arith, lowest_at n w.0 w.1 w.2 w.3, w.1)) (found n)

  pub lowest_passes : (n : ℕ) → lowest test n < n → test (lowest test n) ≡ true
  lowest_passes n h =
      ⊎_elim (λ f. absurd (omega (arith, lowest_none n f))) (λ (w : Lowest n). rw (lowest_at n w.0 w.1 w.2 w.3) w.2) (found n)

  -- how_many
  pub how_many_bound : (n : ℕ) → how_many test n ≤ n
  unfolding how_many
  how_many_bound zero = omega arith
  how_many_bound (suc n) = cond_cases (λ (k : ℕ). how_many test n + k ≤ suc n) (test n) (λ e. omega (arith, how_many_bound n)) (λ e. omega (arith, how_many_bound n))

  pub how_many_none : (n : ℕ) → ((k : ℕ) → k < n → test k ≡ false) → how_many test n ≡ 0
  unfolding how_many
  how_many_none zero f = refl
  how_many_none (suc n) f = rw (f n (omega arith), how_many_none n (λ k h. f k (omega arith)))

-- tests that agree on the numbers below n
module _ (f g : ℕ → Bool) where
  pub how_many_ext : (n : ℕ) → ((k : ℕ) → k < n → f k ≡ g k) → how_many f n ≡ how_many g n
  unfolding how_many
  how_many_ext zero h = refl
  how_many_ext (suc n) h = rw (h n (omega arith), how_many_ext n (λ k l. h k (omega arith)))

-- what is done for each number
module _ {A : Type 0} (change : ℕ → A → A) where
  pub for_each_more : (n : ℕ) (a : A) → for_each change (n + 1) a ≡ change n (for_each change n a)
  unfolding for_each
  for_each_more n a = rw (add-one n)

  -- what every change keeps stays
  pub for_each_keeps : (P : A → Type 0) (n : ℕ) → ((i : ℕ) → i < n → (b : A) → P b → P (change i b)) → (a : A) → P a → P (for_each change n a)
  unfolding for_each
  for_each_keeps P zero h a p = p
  for_each_keeps P (suc n) h a p = h n (omega arith) (for_each change n a) (for_each_keeps P n (λ i l. h i (omega arith)) a p)

  module _ {B : Type 0} (look : A → B) where
    -- what no change alters, as a list's length, or the word at a place of it
    pub for_each_same : (n : ℕ) → ((i : ℕ) → i < n → (b : A) → look (change i b) ≡ look b) → (a : A) → look (for_each change n a) ≡ look a
    for_each_same n h a = for_each_keeps (λ (b : A). look b ≡ look a) n (λ i l b p. h i l b ∙ p) a refl

    -- what only number y's change alters is as that change leaves it
    pub for_each_at : (y n : ℕ) → y < n → ((i : ℕ) → i < n → (i ≡ y → ⊥) → (b : A) → look (change i b) ≡ look b) → (a : A) → look (for_each change n a) ≡ look (change y (for_each change y a))
    unfolding for_each
    for_each_at y zero l h a = absurd (omega arith)
    for_each_at y (suc n) l h a =
        ⊎_elim (λ (e : n ≡ y). rw e)
        (λ (d : n ≡ y → ⊥). h n (omega arith) d (for_each change n a) ∙ for_each_at y n (omega arith) (λ i m. h i (omega arith)) a) (same_or_other n y)

-- changes that make the same of what comes to them
pub for_each_ext : {A : Type 0} (change other : ℕ → A → A) (n : ℕ) (a : A)
    → ((i : ℕ) → i < n → change i (for_each change i a) ≡ other i (for_each change i a)) → for_each change n a ≡ for_each other n a
unfolding for_each
for_each_ext change other zero a h = refl
for_each_ext change other (suc n) a h = h n (omega arith) ∙ ap (other n) (for_each_ext change other n a (λ i l. h i (omega arith)))
