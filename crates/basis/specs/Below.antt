-- Recursion on falling numbers, for results of any type.
use Rattle.std.specs.Prelude.{ℕ, zero, suc, true, false, eqb}

-- `below step none n k` is the result of number k where k is below n, and `none` where it is not.
-- `step` makes a number's result from those of the numbers below it.
unfoldable pub below : {A : Type 0} → ((ℕ → A) → ℕ → A) → A → ℕ → ℕ → A
below step none zero k = none
below step none (suc n) k = elim (eqb k n) [ true ↦ step (below step none n) n | false ↦ below step none n k ]
