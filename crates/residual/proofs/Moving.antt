-- The parts of a list after n elements of another have been put into it.
-- Assumes nothing.
use mathlib.Core.Path.{◌≡◌, sym, ◌∙◌}
use mathlib.Core.List.{List, ◌++◌, append_assoc}
use Prim.Native.Nat.{ℕ, ◌+◌, ◌-◌, ◌≤◌}
use native.Mathlib.Omega.{arith}
use lib.ListN.{length, take, drop}
use Rattle.std.proofs.lemmas.List.{take-append-le}
use lib.Seq.{paste, drop-paste, drop_at, drop-drop, length-take-le, take-take}

module _ (d : List ℕ) (at : ℕ) (s : List ℕ) (n : ℕ) (a : at ≤ length d) (b : n ≤ length s) where
  pub paste_before : (k : ℕ) → k ≤ at → take k (paste d at s n) ≡ take k d
  paste_before k h =
      let l = length-take-le at d a in
      rw append_assoc (take-append-le k (take at d) (take n s ++ drop (at + n) d) (omega arith) ∙ take-take k at d h)

  pub paste_from : drop at (paste d at s n) ≡ take n s ++ drop (at + n) d
  paste_from = rw append_assoc (drop_at (take at d) (take n s ++ drop (at + n) d) at (length-take-le at d a))

  pub paste_after : (k : ℕ) → at + n ≤ k → drop k (paste d at s n) ≡ drop k d
  paste_after k h =
      let e : at + n + (k - (at + n)) ≡ k = omega arith in
      rw (← e) (sym (drop-drop (k - (at + n)) (at + n) (paste d at s n)) ∙ rw (drop-paste d at s n a b) (drop-drop (k - (at + n)) (at + n) d))
