-- The numbers that words hold, and the operators ⋄ and comparisons ⋈ of Table 2 on them.
use Rattle.std.specs.Prelude.{ℕ, suc, ◌^◌, ◌<◌, ◌≡◌, cond, ◌⊎◌, ltb, ℤ, pos, nat_abs, ◌+ℤ◌, ◌-ℤ◌, ◌*ℤ◌}
use Rattle.std.specs.Int.Signed.{non_neg}

-- the signed number that a 32-bit word holds
abbrev pub number : ℕ → ℤ
number w = cond (ltb w (2 ^ 31)) (pos w) (pos w -ℤ pos (2 ^ 32))

-- x = y × q + r, where r is smaller than y, signs aside, and is 0 or has the sign of s
pub record Divided (s x y q r : ℤ) : Type 0 where
  pub sum : x ≡ y *ℤ q +ℤ r
  pub smaller : nat_abs r < nat_abs y
  pub sign : (r ≡ pos 0) ⊎ (non_neg r ≡ non_neg s)

-- x ⋄ y = z, by the node kind of ⋄. By 0 there is neither a quotient nor a remainder. The quotient is the truncated one,
-- of a division whose rest has the dividend's sign; the remainder is the floored one, whose sign is the divisor's
pub data Operates : ℕ → ℤ → ℤ → ℤ → Type 0 where
  plus : {x y z : ℤ} → z ≡ x +ℤ y → Operates 36 x y z
  minus : {x y z : ℤ} → z +ℤ y ≡ x → Operates 37 x y z
  times : {x y z : ℤ} → z ≡ x *ℤ y → Operates 38 x y z
  divide : {x y z r : ℤ} → Divided x x y z r → Operates 39 x y z
  remainder : {x y z q : ℤ} → Divided y x y q z → Operates 40 x y z

infix 15 ◌≺◌
-- x is less than y: y is x plus a number above 0
abbrev pub ◌≺◌ : ℤ → ℤ → Type 0
x ≺ y = (n : ℕ) × (y ≡ x +ℤ pos (suc n))

-- x ⋈ y, by the node kind of ⋈
pub data Compares : ℕ → ℤ → ℤ → Type 0 where
  equal : {x y : ℤ} → x ≡ y → Compares 17 x y
  less : {x y : ℤ} → x ≺ y → Compares 18 x y
  greater : {x y : ℤ} → y ≺ x → Compares 19 x y
