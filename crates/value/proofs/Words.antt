-- Numbers of 32 bits and their two's complement words: which numbers fit, and what a checked operation gives.
-- Assumes nothing.
use Prim.Native.Nat.{zero, suc, ◌^◌, ◌<◌}
use mathlib.Core.Bool.{Bool, true, false, cond, and-true}
use mathlib.Core.Logic.{◌↔◌}
use mathlib.Core.Path.{◌≡◌, refl, sym, ◌∙◌}
use native.Mathlib.Omega.{arith}
use lib.Dec.{leb}
use lib.IntN.{ℤ, pos, negsuc}
use lib.Signed.{mag, quot_z}
use mir.Syntax.{w32}
use mir.Val.{SFits, of_z}
use mir.Facts.{Fits-lt-pow, Fits-of_z}
use borrow.Author.Tests.{le-leb, leb-true}
use Rattle.std.specs.Prelude.{Option, None, Some, option_map}
use Rattle.std.specs.Option.{SomeIff}
use Rattle.std.specs.Int.{CanDivide}
use Rattle.value.specs.Values.{in_range, fit, is_zero}

-- the range is one bound: `mag z` is n both for n and for -(n + 1)
range : (z : ℤ) → in_range z ≡ leb (mag z) 2147483647
range (pos n) = refl
range (negsuc n) = and-true (leb n 2147483647)

pub in_range_lem : (z : ℤ) → (in_range z ≡ true) ↔ (mag z < 2 ^ 31)
in_range_lem z = (
  λ e. let l = leb-true (mag z) 2147483647 (sym (range z) ∙ e) in omega arith,
  λ l. range z ∙ le-leb (mag z) 2147483647 (omega arith),
)

-- such a number's word is one of 32 bits
pub word_small : (z : ℤ) → in_range z ≡ true → of_z w32 z < 2 ^ 32
word_small z e = Fits-lt-pow (Fits-of_z {w = w32} {z = z} (record { sfits = (in_range_lem z).0 e }))

-- an operation whose result is there exactly where it fits
pub checked : (r : Option ℤ) (z : ℤ) → SomeIff r (SFits w32 z) z → option_map (of_z w32) r ≡ fit z
checked None z h = by (in_range z) refl
  where
    by : (b : Bool) → in_range z ≡ b → None ≡ cond b (Some (of_z w32 z)) None
    by true e = absurd (h (record { sfits = (in_range_lem z).0 e }))
    by false e = refl
checked (Some x) z h = rw (h.1, (in_range_lem z).1 h.0.sfits)

-- a division's, where its divisor is not 0 either
pub divided : (r : Option ℤ) (x y : ℤ) → SFits w32 y → SomeIff r (CanDivide w32 x y) (quot_z x y)
    → option_map (of_z w32) r ≡ cond (is_zero y) None (fit (quot_z x y))
divided None x (pos zero) g h = refl
divided None x (pos (suc n)) g h = checked None (quot_z x (pos (suc n))) (λ f. h (omega arith, f))
divided None x (negsuc n) g h = let l = g.sfits in checked None (quot_z x (negsuc n)) (λ f. h (omega arith, f))
divided (Some v) x (pos zero) g h = absurd (omega (arith, h.0.0))
divided (Some v) x (pos (suc n)) g h = checked (Some v) (quot_z x (pos (suc n))) (h.0.1, h.1)
divided (Some v) x (negsuc n) g h = checked (Some v) (quot_z x (negsuc n)) (h.0.1, h.1)

-- a divisor's test, as it is made on the bits
pub zero_bits : (y : ℤ) → SFits w32 y → of_z w32 y ≡ 0 → is_zero y ≡ true
zero_bits (pos zero) f h = refl
zero_bits (pos (suc n)) f h = absurd (omega arith)
zero_bits (negsuc n) f h = absurd (omega (arith, f.sfits))

pub nonzero : (y : ℤ) → (of_z w32 y ≡ 0 → ⊥) → is_zero y ≡ false
nonzero (pos zero) h = absurd (h refl)
nonzero (pos (suc n)) h = refl
nonzero (negsuc n) h = refl
