-- A set of keys in a word: key k is in it where bit k is 1.
use Rattle.std.specs.Prelude.{ℕ, ◌+◌, ◌-◌, ◌/◌, ◌%◌, ◌^◌, Bool, cond, eqb}
use Rattle.basis.specs.Numbers.{for_each}

unfoldable pub has : ℕ → ℕ → Bool
has w k = eqb (w / 2 ^ k % 2) 1

-- the set with k, and without k
unfoldable pub plus : ℕ → ℕ → ℕ
plus w k = cond (has w k) w (w + 2 ^ k)

unfoldable pub minus : ℕ → ℕ → ℕ
minus w k = cond (has w k) (w - 2 ^ k) w

-- the set with k, if asked to
unfoldable pub plus_if : ℕ → ℕ → Bool → ℕ
plus_if w k on = cond on (plus w k) w

-- the set with each key below n that passes
unfoldable pub plus_all : (ℕ → Bool) → ℕ → ℕ → ℕ
plus_all test n w = for_each (λ k v. cond (test k) (plus v k) v) n w
