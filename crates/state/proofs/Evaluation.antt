-- Every value is a word of 32 bits.
-- Assumes nothing.
use Prim.Native.Nat.{ℕ, ◌+◌, ◌*◌, ◌^◌, ◌<◌}
use mathlib.Core.Bool.{cond}
use mathlib.Core.List.{List}
use native.Mathlib.Omega.{arith}
use lib.Dec.{eqb, ltb}
use lib.IntN.{ℤ, ◌+ℤ◌, ◌-ℤ◌, ◌*ℤ◌}
use lib.ListN.{get_or}
use lib.Signed.{quot_z}
use Rattle.basis.proofs.Below.{below_induct}
use Rattle.basis.proofs.Tests.{cond_cases}
use Rattle.value.specs.Values.{Value}
use Rattle.std.specs.Prelude.{None, Some}
use Rattle.value.specs.Values.{signed_of, in_range, fit, is_zero, floor_rem, arithmetic, operate}
use Rattle.value.proofs.Words.{word_small}
use Rattle.table.specs.Tables.{Table, kind_at, p_at, q_at, constant_at}
use Rattle.state.specs.declared.Store.{Store}
use Rattle.state.specs.declared.Store.TheVariants.{Environment, Attributes, Entries}
use Rattle.state.specs.Layout.{key_limit, mark_of, value_in}
use Rattle.state.specs.Evaluation.{party_of, value_step, value_of}
use Rattle.state.specs.Walks.{value_below}
use Rattle.state.specs.WellFormed.{Words}

abbrev pub SmallValue : Value → Type 0
SmallValue None = Unit {0}
SmallValue (Some v) = v < 2 ^ 32

fit_small : (z : ℤ) → SmallValue (fit z)
fit_small z = cond_cases SmallValue (in_range z) (word_small z) (λ e. tt)

arithmetic_small : (kind : ℕ) (x y : ℤ) → SmallValue (arithmetic kind x y)
arithmetic_small kind x y =
    cond_cases SmallValue (eqb kind 36) (λ e. fit_small (x +ℤ y))
    (λ e. cond_cases SmallValue (eqb kind 37) (λ f. fit_small (x -ℤ y))
    (λ f. cond_cases SmallValue (eqb kind 38) (λ g. fit_small (x *ℤ y))
    (λ g. cond_cases SmallValue (eqb kind 39) (λ h. divided (quot_z x y))
    (λ h. cond_cases SmallValue (eqb kind 40) (λ i. divided (floor_rem x y)) (λ i. tt)))))
  where
    divided : (z : ℤ) → SmallValue (cond (is_zero y) None (fit z))
    divided z = cond_cases SmallValue (is_zero y) (λ e. tt) (λ e. fit_small z)

operate_small : (kind : ℕ) (a b : Value) → SmallValue (operate kind a b)
operate_small kind None b = tt
operate_small kind (Some x) None = tt
operate_small kind (Some x) (Some y) = arithmetic_small kind (signed_of x) (signed_of y)

pub value_in_small : (s : List ℕ) → Words s → (store : Store) (k : ℕ) → SmallValue (value_in s store k)
unfolding value_in
value_in_small s small store k =
    cond_cases SmallValue (ltb k key_limit) (λ e. cond_cases SmallValue (eqb (mark_of s store k) 0) (λ f. tt) (λ f. small _)) (λ e. tt)

module _ (t : Table) (bytes : (i : ℕ) → get_or t.operands i 0 < 256) (s : List ℕ) (small : Words s) (x y : ℕ) where
  constant_small : (n : ℕ) → constant_at t n < 2 ^ 32
  constant_small n = let i = 4 * n in omega (arith, bytes i, bytes (i + 1), bytes (i + 2), bytes (i + 2 + 1))

  step_small : (lower : ℕ → Value) (n : ℕ) → SmallValue (value_step t s x y lower n)
  unfolding value_step
  step_small lower n =
      cond_cases SmallValue (eqb (kind_at t n) 32) (λ e. constant_small n)
      (λ e. cond_cases SmallValue (eqb (kind_at t n) 33) (λ f. value_in_small s small (Attributes (party_of x y (q_at t n))) (p_at t n))
      (λ f. cond_cases SmallValue (eqb (kind_at t n) 34) (λ g. value_in_small s small (Entries (party_of x y (q_at t n))) (p_at t n))
      (λ g. cond_cases SmallValue (eqb (kind_at t n) 35) (λ h. value_in_small s small Environment (p_at t n))
      (λ h. operate_small (kind_at t n) (lower (p_at t n)) (lower (q_at t n))))))

  pub value_of_small : (n : ℕ) → SmallValue (value_of t s x y n)
  value_of_small n = below_induct (value_step t s x y) None (λ k v. SmallValue v) t.sizes.nodes (λ k. tt) (λ k l r. step_small (value_below t s x y k) k) n
