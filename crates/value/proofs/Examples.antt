-- Worked examples, as theorems that antt computes: (h), (i), and the edges of the operations.
-- Assumes nothing.
use Prim.Native.Nat.{ℕ, ◌^◌, ◌-◌}
use mathlib.Core.Bool.{true, false}
use mathlib.Core.Path.{◌≡◌, refl}
use Rattle.value.specs.Values.{Value}
use Rattle.std.specs.Prelude.{None, Some}
use Rattle.value.specs.Values.{operate}
use Rattle.value.specs.Truths.{truth, undefined, compare_values, connect}

-- a number below 0 is written 2 ^ 32 less its size

-- (h) 2,147,483,647 + 1 is absent
pub sum_over : operate 36 (Some 2147483647) (Some 1) ≡ None
sum_over = refl

-- the quotient, which is truncated, and the remainder, which is floored
abbrev divided : ℕ → ℕ → Value × Value
divided x y = (operate 39 (Some x) (Some y), operate 40 (Some x) (Some y))

-- (i) -7 remainder 3 is 2, and -7 divided by 3 is -2
pub dividend_below : divided (2 ^ 32 - 7) 3 ≡ (Some (2 ^ 32 - 2), Some 2)
dividend_below = refl

-- 7 remainder -3 is -2, and 7 divided by -3 is -2
pub divisor_below : divided 7 (2 ^ 32 - 3) ≡ (Some (2 ^ 32 - 2), Some (2 ^ 32 - 2))
divisor_below = refl

-- -7 remainder -3 is -1, and -7 divided by -3 is 2
pub both_below : divided (2 ^ 32 - 7) (2 ^ 32 - 3) ≡ (Some 2, Some (2 ^ 32 - 1))
both_below = refl

-- -1 remainder 10 is 9, and -1 divided by 10 is 0
pub minus_one_by_ten : divided (2 ^ 32 - 1) 10 ≡ (Some 0, Some 9)
minus_one_by_ten = refl

-- 6 remainder -3 is 0, and 6 divided by -3 is -2
pub exact : divided 6 (2 ^ 32 - 3) ≡ (Some (2 ^ 32 - 2), Some 0)
exact = refl

-- the least number remainder -1 is 0, and divided by -1 it is absent
pub least_by_minus_one : divided (2 ^ 31) (2 ^ 32 - 1) ≡ (None, Some 0)
least_by_minus_one = refl

-- the least number remainder 10 is 2, and divided by 10 it is -214,748,364
pub least_by_ten : divided (2 ^ 31) 10 ≡ (Some (2 ^ 32 - 214748364), Some 2)
least_by_ten = refl

-- by 0 there is neither a quotient nor a remainder
pub by_zero : (x : ℕ) → divided x 0 ≡ (None, None)
by_zero x = refl

-- a product is judged as a whole number: 65,536 × 65,536, whose 32 bits are 0, is absent, and so is 46,341 × 46,341, of fewer bits
pub product_over : operate 38 (Some 65536) (Some 65536) ≡ None
product_over = refl

pub product_over_by_little : operate 38 (Some 46341) (Some 46341) ≡ None
product_over_by_little = refl

-- 65,536 × -32,768 is the least number
pub product_least : operate 38 (Some 65536) (Some (2 ^ 32 - 32768)) ≡ Some (2 ^ 31)
product_least = refl

-- 3 - 5 is -2, and the least number less 1 is absent
pub difference_sign : operate 37 (Some 3) (Some 5) ≡ Some (2 ^ 32 - 2)
difference_sign = refl

pub difference_under : operate 37 (Some (2 ^ 31)) (Some 1) ≡ None
difference_under = refl

-- an absent operand gives absent
pub sum_absent : operate 36 (Some 1) None ≡ None
sum_absent = refl

-- -1 is less than 0, and not greater
pub less_signed : compare_values 18 (Some (2 ^ 32 - 1)) (Some 0) ≡ truth true true
less_signed = refl

pub greater_signed : compare_values 19 (Some (2 ^ 32 - 1)) (Some 0) ≡ truth true false
greater_signed = refl

-- not of an undefined guard does not hold; or holds by one part, defined or not
pub not_undefined : connect 20 undefined undefined ≡ undefined
not_undefined = refl

pub or_undefined : connect 22 undefined (truth true true) ≡ truth false true
or_undefined = refl
