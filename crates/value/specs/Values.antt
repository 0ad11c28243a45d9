-- Values: absent, or a signed 32-bit number as its two's complement word; and the five operations on them.
use Rattle.std.specs.Prelude.{ℕ, zero, suc, Bool, true, false, cond, ◌&&◌, eqb, ℤ, pos, negsuc, neg_ℤ, ◌+ℤ◌, ◌-ℤ◌, ◌*ℤ◌}
use Rattle.std.specs.Int.Signed.{le_z, quot_z, shr_z}
use Rattle.std.specs.Int.{w32}
use Rattle.std.proofs.Common.{to_z, of_z}
use Rattle.basis.specs.Kinds as kind
use Rattle.std.specs.Prelude.{Option, None, Some}

-- a value: none where it is absent
abbrev pub Value : Type 0
Value = Option ℕ

-- the number that a word holds in two's complement
abbrev pub signed_of : ℕ → ℤ
signed_of w = to_z w32 w

-- from -2,147,483,648 to 2,147,483,647 (`negsuc n` is -(n + 1))
abbrev pub in_range : ℤ → Bool
in_range z = le_z (negsuc 2147483647) z && le_z z (pos 2147483647)

-- a number as a value: absent where it does not fit
abbrev pub fit : ℤ → Value
fit z = cond (in_range z) (Some (of_z w32 z)) None

abbrev pub is_zero : ℤ → Bool
is_zero (pos zero) = true
is_zero (pos (suc n)) = false
is_zero (negsuc n) = false

-- floor(x / y), by a divisor that is not 0: `shr_z x n` is x / n rounded down, and x / -n is -x / n
abbrev pub floor_z : ℤ → ℤ → ℤ
floor_z x (pos n) = shr_z x n
floor_z x (negsuc n) = shr_z (neg_ℤ x) (suc n)

-- the floored remainder: 0, or of the divisor's sign
abbrev pub floor_rem : ℤ → ℤ → ℤ
floor_rem x y = x -ℤ y *ℤ floor_z x y

-- +, -, ×, divide, remainder on two numbers; a zero divisor gives absent. The quotient is truncated toward zero and the
-- remainder is floored, so the two do not belong together: -7 divided by 3 is -2, and -7 remainder 3 is 2
abbrev pub arithmetic : ℕ → ℤ → ℤ → Value
arithmetic k x y =
    cond (eqb k kind.plus) (fit (x +ℤ y))
    (cond (eqb k kind.minus) (fit (x -ℤ y))
    (cond (eqb k kind.times) (fit (x *ℤ y))
    (cond (eqb k kind.divide) (cond (is_zero y) None (fit (quot_z x y)))
    (cond (eqb k kind.remainder) (cond (is_zero y) None (fit (floor_rem x y)))
    None))))

-- the same on two values: an absent operand gives absent
abbrev pub operate : ℕ → Value → Value → Value
operate k None b = None
operate k (Some x) None = None
operate k (Some x) (Some y) = arithmetic k (signed_of x) (signed_of y)
