-- `value::compute` meets its contract: by the kind, one operation on two numbers of 32 bits.
-- Assumes nothing.
use Prim.Native.Nat.{ℕ}
use lib.IntN.{ℤ}
use mathlib.Core.Path.{◌≡◌, sym}
use Rattle.std.specs.Prelude.{None}
use Rattle.std.proofs.Common.{rules}
use mir.Facts.{to_z-of_z}
use borrow.Author.Tests.{ne_eqb}
use Rattle.value.proofs.Words.{checked, divided, zero_bits, nonzero}
use Rattle.value.proofs.Floored.{floor_fits, floor_in_range}
use Rattle.basis.specs.NodeKinds.{number_of}
use Rattle.basis.proofs.NodeKinds.{named_is}
use Rattle.basis.specs.declared.node_kinds.NodeKind.{NodeKind}
use Rattle.basis.specs.declared.node_kinds.NodeKind.TheVariants.{Plus, Minus, Times, Divide, Remainder}
use Rattle.value.specs.Values.{arithmetic}
use Rattle.value.proofs.compute.Goals as goal

pub returns-in-Ok-Plus : goal.returns-in-Ok-Plus
returns-in-Ok-Plus c = rw (named_is Plus c.in-Ok-Plus.field-0-is c.in-Ok-Plus.ensures) (checked _ _ (rw (to_z-of_z c.ranges.x, to_z-of_z c.ranges.y) at c.checked_add.ensures))

pub returns-in-Ok-Minus : goal.returns-in-Ok-Minus
returns-in-Ok-Minus c = rw (named_is Minus c.in-Ok-Minus.field-0-is c.in-Ok-Minus.ensures) (checked _ _ (rw (to_z-of_z c.ranges.x, to_z-of_z c.ranges.y) at c.checked_sub.ensures))

pub returns-in-Ok-Times : goal.returns-in-Ok-Times
returns-in-Ok-Times c = rw (named_is Times c.in-Ok-Times.field-0-is c.in-Ok-Times.ensures) (checked _ _ (rw (to_z-of_z c.ranges.x, to_z-of_z c.ranges.y) at c.checked_mul.ensures))

pub returns-in-Ok-Divide : goal.returns-in-Ok-Divide
returns-in-Ok-Divide c =
    rw (named_is Divide c.in-Ok-Divide.field-0-is c.in-Ok-Divide.ensures) (divided c.checked_div.result c.args.x c.args.y c.ranges.y (rw (to_z-of_z c.ranges.x, to_z-of_z c.ranges.y) at c.checked_div.ensures))

pub returns-in-Ok-Remainder : goal.returns-in-Ok-Remainder
returns-in-Ok-Remainder c =
    let a = c.args in
    let n = nonzero a.y c.if-y-ne0.true in
    let e = rw (to_z-of_z c.ranges.x, to_z-of_z c.ranges.y) at c.floored_remainder.ensures in
    rw (named_is Remainder c.in-Ok-Remainder.field-0-is c.in-Ok-Remainder.ensures, n, e, to_z-of_z (floor_fits a.x a.y n c.ranges.y), floor_in_range a.x a.y n c.ranges.y)

-- no operation
none : (k : ℕ) (x y : ℤ) → (k ≡ 36 → ⊥) → (k ≡ 37 → ⊥) → (k ≡ 38 → ⊥) → (k ≡ 39 → ⊥) → (k ≡ 40 → ⊥) → None ≡ arithmetic k x y
none k x y a b d e f = simp (ne_eqb k 36 a, ne_eqb k 37 b, ne_eqb k 38 d, ne_eqb k 39 e, ne_eqb k 40 f)

pub returns-in_default : goal.returns-in_default
returns-in_default c = rw (named_is Remainder c.in-Ok-Remainder.field-0-is c.in-Ok-Remainder.ensures, zero_bits c.args.y c.ranges.y c.if-y-ne0.false)

pub returns-in_default-2 : goal.returns-in_default-2
returns-in_default-2 c =
    let k = c.args.kind in
    let a : k ≡ 36 → ⊥ = search rules in
    let b : k ≡ 37 → ⊥ = search rules in
    let d : k ≡ 38 → ⊥ = search rules in
    let e : k ≡ 39 → ⊥ = search rules in
    let f : k ≡ 40 → ⊥ = search rules in
    none k c.args.x c.args.y a b d e f

pub returns-in_default-3 : goal.returns-in_default-3
returns-in_default-3 c =
    let other : (j : NodeKind) → number_of j ≡ c.args.kind → ⊥ = rw c.in_default.is at c.try_from.ensures in
    none c.args.kind c.args.x c.args.y (λ e. other Plus (sym e)) (λ e. other Minus (sym e)) (λ e. other Times (sym e)) (λ e. other Divide (sym e)) (λ e. other Remainder (sym e))
