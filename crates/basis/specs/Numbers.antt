-- Tests of the numbers below n, and what is done for each of them.
use Rattle.std.specs.Prelude.{ℕ, zero, suc, ◌+◌, Bool, true, false, cond, ◌&&◌, ◌||◌}

-- some number below n passes
unfoldable pub some_below : (ℕ → Bool) → ℕ → Bool
some_below test zero = false
some_below test (suc n) = some_below test n || test n

-- every number below n passes
unfoldable pub every : (ℕ → Bool) → ℕ → Bool
every test zero = true
every test (suc n) = every test n && test n

-- the lowest number below n that passes, and n where none does
unfoldable pub lowest : (ℕ → Bool) → ℕ → ℕ
lowest test zero = zero
lowest test (suc n) = cond (some_below test n) (lowest test n) (cond (test n) n (suc n))

-- how many numbers below n pass
unfoldable pub how_many : (ℕ → Bool) → ℕ → ℕ
how_many test zero = 0
how_many test (suc n) = how_many test n + cond (test n) 1 0

-- `change 0`, then `change 1`, up to `change (n - 1)`
unfoldable pub for_each : {A : Type 0} → (ℕ → A → A) → ℕ → A → A
for_each change zero a = a
for_each change (suc n) a = change n (for_each change n a)
