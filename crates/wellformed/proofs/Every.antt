-- What `all` finds over the numbers below n.
-- Assumes nothing.
use Prim.Native.Nat.{ℕ, ◌<◌}
use mathlib.Core.Bool.{Bool, true, false}
use mathlib.Core.Path.{◌≡◌, sym, ◌∙◌}
use native.Mathlib.Omega.{arith}
use lib.ListN.{length, get_or}
use denote.Param.Members.{Mut, Called}
use Rattle.std.proofs.Common.{zero-add}
use Rattle.std.specs.declared.ops.Range.{Range}
use Rattle.std.specs.Bool.{MatchBool}
use Rattle.std.specs.Iterator.{ChecksAll}
use Rattle.std.specs.List.{range_with_len, AllWithin, HoldsAt}
use Rattle.std.proofs.iter.Yields.{nat_range_steps}
use Rattle.std.proofs.lemmas.Iterator.{cases_from_all, YieldsList-from_range}
use Rattle.std.proofs.lemmas.List.FromFn.{length-range_with_len, get_or-range_with_len}
use Rattle.basis.specs.Numbers.{every}
use Rattle.basis.proofs.Numbers.{every_all, every_fails}

module _ (test : ℕ → Bool) (n : ℕ) where
  at : (k : ℕ) → k < n → get_or (range_with_len 0 n) k 0 ≡ k
  at k l = get_or-range_with_len 0 n k 0 l ∙ zero-add k

  -- by cases of the answer
  by : (r : Bool) → MatchBool r (AllWithin (λ x. test x ≡ true) (range_with_len 0 n) 0 (length (range_with_len 0 n)))
      ((k : ℕ) × (k < length (range_with_len 0 n)) × HoldsAt (λ x. test x ≡ false) (range_with_len 0 n) k) → r ≡ every test n
  by true h = sym (every_all test n (λ k l. rw (at k l) at (h k 0 (omega arith) (rw (length-range_with_len 0 n) l))))
  by false h =
      let l : h.0 < n = rw (length-range_with_len 0 n) at h.1 in
      sym (every_fails test n h.0 l (rw (at h.0 l) at (h.2 0)))

  -- the closure answers by the test, and stays as it is
  pub every_by : {F : Type 0} {g : Mut F (ℕ × Unit {0}) Bool} {s : Range ℕ} (f : F) (r : Bool) (u : Range ℕ) → s ≡ record { start = 0; end = n }
      → ((x : ℕ) (b : Bool) (q : F) → Called g f (x, tt) b q → (q ≡ f) × (b ≡ test x)) → ChecksAll nat_range_steps g s f r u → r ≡ every test n
  every_by f r u is acts ran =
      by r
      (cases_from_all u f r (λ x. test x ≡ true) (λ x. test x ≡ false) ran (YieldsList-from_range 0 n n is (omega arith))
      (λ x q k. let a = acts x true q k in (a.0, sym a.1)) (λ x q k. sym (acts x false q k).1))
