-- The search for the lowest marked guard from a node on.
-- Assumes nothing.
use Prim.Native.Nat.{ℕ, zero, suc, ◌+◌, ◌-◌, ◌/◌, ◌%◌, ◌^◌, ◌<◌, ◌≤◌}
use mathlib.Core.Bool.{Bool, true, false, ◌&&◌, ◌||◌, and-false}
use mathlib.Core.Logic.{⊎_elim}
use mathlib.Core.Path.{◌≡◌, sym, ◌∙◌}
use mathlib.Core.List.{List}
use native.Mathlib.Nat.{div-div-eq-div-mul}
use native.Mathlib.Omega.{arith}
use lib.ListN.{get_or}
use lib.Pow.{pow-add}
use Rattle.basis.specs.KeySets.{has}
use Rattle.basis.specs.Numbers.{some_below}
use Rattle.basis.proofs.KeySets.{has_suc, below_lowest}
use Rattle.basis.proofs.Numbers.{some_at, some_witness, some_more}
use Rattle.basis.proofs.Tests.{not_both, and_left, same_test, lt_or_le}
use Rattle.table.specs.Nodes.{is_guard}
use Rattle.choice.specs.Marking.{has_mark, zeros_after, marked_guard}

-- the keys of a set from j on
has_shift : (w j i : ℕ) → has (w / 2 ^ j) i ≡ has w (j + i)
unfolding has
has_shift w j i = rw (pow-add 2 j i, div-div-eq-div-mul w (2 ^ j) (2 ^ i))

-- the nodes after n in its word, up to the next mark
pub after_none : (ms : List ℕ) (n i : ℕ) → i < zeros_after ms n → i < 31 - n % 32 → has_mark ms (n + 1 + i) ≡ false
after_none ms n i h l =
    let d : (n + 1 + i) / 32 ≡ n / 32 = omega arith in
    let m : (n + 1 + i) % 32 ≡ n % 32 + suc i = omega arith in
    rw (d, m) (sym (has_shift (get_or ms (n / 32) 0) (n % 32) (suc i)) ∙ has_suc (get_or ms (n / 32) 0 / 2 ^ (n % 32)) i ∙ below_lowest 32 (get_or ms (n / 32) 0 / 2 ^ (n % 32) / 2) i h)

-- nothing from a number on has passed, up to another
pub record Passed (test : ℕ → Bool) (from r : ℕ) : Type 0 where
  pub ahead : from ≤ r
  pub none : (k : ℕ) → from ≤ k → k < r → test k ≡ false

-- no marked guard has been passed: some more nodes
pub next_on : (kinds ms : List ℕ) {from n r : ℕ} → Passed (marked_guard kinds ms) from n → marked_guard kinds ms n ≡ false → ((i : ℕ) → i < r → has_mark ms (n + 1 + i) ≡ false)
    → Passed (marked_guard kinds ms) from (n + (1 + r))
next_on kinds ms {from} {n} {r} so e f =
    record {
      ahead = omega (arith, so.ahead);
      none = λ k h l.
          ⊎_elim (λ (g : k < n). so.none k h g) (λ (g : n ≤ k). let z : n + (k - n) ≡ k = omega arith in rw z at (by (k - n) (omega arith))) (lt_or_le k n);
    }
  where
    by : (i : ℕ) → i < 1 + r → marked_guard kinds ms (n + i) ≡ false
    by zero h = let z : n + 0 ≡ n = omega arith in rw z e
    by (suc i) h = let z : n + suc i ≡ n + 1 + i = omega arith in rw (z, f i (omega arith)) (and-false (is_guard (get_or kinds (n + 1 + i) 0)))

-- what passes a second test too, up to a number with none before it, and with it
module _ {test : ℕ → Bool} {from r : ℕ} (passed : Passed test from r) (second : ℕ → Bool) where
  abbrev both : ℕ → Bool
  both k = test k && second k

  pub some_skip : some_below (λ (k : ℕ). test k && second k) r ≡ some_below (λ (k : ℕ). test k && second k) from
  some_skip = same_test (some_below both r) (some_below both from) there (λ e. let w = some_witness both from e in some_at both r w.0 (omega (arith, passed.ahead)) w.2)
    where
      there : some_below both r ≡ true → some_below both from ≡ true
      there e =
          let w = some_witness both r e in
          ⊎_elim (λ (h : w.0 < from). some_at both from w.0 h w.2)
          (λ (h : from ≤ w.0). absurd (not_both (and_left (test w.0) (second w.0) w.2) (passed.none w.0 h w.1))) (lt_or_le w.0 from)

  pub some_next : test r ≡ true → some_below (λ (k : ℕ). test k && second k) (r + 1) ≡ (some_below (λ (k : ℕ). test k && second k) from || second r)
  some_next h = some_more both r ∙ rw (some_skip, h)
