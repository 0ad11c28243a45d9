-- Of equal, less and greater exactly one holds of any two present values.
-- Assumes nothing.
use Prim.Native.Nat.{ℕ, ◌^◌, ◌<◌, ◌≤◌}
use mathlib.Core.Bool.{Bool, true, false}
use mathlib.Core.Logic.{⊎_elim, ◌↔◌}
use mathlib.Core.Path.{◌≡◌, sym, ap}
use native.Mathlib.Omega.{arith}
use lib.Dec.{eqb, ltb}
use lib.IntN.{ℤ, pos, negsuc, pos-ne-negsuc}
use lib.Signed.{mag, lt_z}
use mir.Syntax.{w32}
use mir.Facts.{Fits-of_lt, to_z_inj}
use borrow.Author.Tests.{lt-ltb, le-ltb, eqb-true, eq-eqb}
use Rattle.basis.proofs.Tests.{is_false, lt_or_le, same_or_other}
use Rattle.std.specs.Prelude.{Some}
use Rattle.value.specs.Values.{signed_of}
use Rattle.value.specs.Truths.{compare_values}

-- one of three tests passes
pub data ExactlyOne : Bool → Bool → Bool → Type 0 where
  first : ExactlyOne true false false
  second : ExactlyOne false true false
  third : ExactlyOne false false true

of_naturals : (a b : ℕ) (e : Bool) → ((e ≡ true) ↔ (a ≡ b)) → ExactlyOne e (ltb a b) (ltb b a)
of_naturals a b e h =
    ⊎_elim (λ (l : a < b). rw (is_false e (λ p. let i = h.0 p in omega arith), lt-ltb a b l, le-ltb b a (omega arith)) second)
    (λ (l : b ≤ a).
    ⊎_elim (λ (i : a ≡ b). rw (h.1 i, le-ltb a b l, le-ltb b a (omega arith)) first)
    (λ (d : a ≡ b → ⊥). rw (is_false e (λ p. d (h.0 p)), le-ltb a b l, lt-ltb b a (omega arith)) third) (same_or_other a b)) (lt_or_le a b)

of_numbers : (a b : ℤ) (e : Bool) → ((e ≡ true) ↔ (a ≡ b)) → ExactlyOne e (lt_z a b) (lt_z b a)
of_numbers (pos a) (pos b) e h = of_naturals a b e (λ p. ap mag (h.0 p), λ i. h.1 (ap pos i))
of_numbers (pos a) (negsuc b) e h = rw (is_false e (λ p. pos-ne-negsuc a b (h.0 p))) third
of_numbers (negsuc a) (pos b) e h = rw (is_false e (λ p. pos-ne-negsuc b a (sym (h.0 p)))) second
of_numbers (negsuc a) (negsuc b) e h = turned (of_naturals a b e (λ p. ap mag (h.0 p), λ i. h.1 (ap negsuc i)))
  where
    turned : {p q r : Bool} → ExactlyOne p q r → ExactlyOne p r q
    turned first = first
    turned second = third
    turned third = second

pub exactly_one : (x y : ℕ) → x < 2 ^ 32 → y < 2 ^ 32
    → ExactlyOne (compare_values 17 (Some x) (Some y)).holds (compare_values 18 (Some x) (Some y)).holds (compare_values 19 (Some x) (Some y)).holds
exactly_one x y l m =
    of_numbers (signed_of x) (signed_of y) (eqb x y)
    (λ p. ap signed_of (eqb-true x y p), λ i. eq-eqb x y (to_z_inj {w = w32} (Fits-of_lt l) (Fits-of_lt m) i))
