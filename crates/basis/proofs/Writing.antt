-- A list written over from a place to its end, one element after the other.
-- Assumes nothing.
use Prim.Native.Nat.{ℕ, suc, ◌+◌, ◌-◌, ◌<◌, ◌≤◌}
use mathlib.Core.Path.{◌≡◌, sym, ap, ◌∙◌}
use mathlib.Core.List.{List, ◌++◌, append-nil}
use native.Mathlib.Nat.{sub-zero}
use native.Mathlib.Omega.{arith}
use lib.ListN.{length, get_or, set, take, replicate}
use lib.Seq.{paste, paste-zero, paste-suc, length-paste, take-length, drop-length}

-- the new elements stand in the places from `at` up to i
pub record Written {A : Type 0} (l : List A) (at : ℕ) (new : List A) (i : ℕ) (out : List A) : Type 0 where
  pub fits : at + length new ≡ length l
  pub from : at ≤ i
  pub within : i ≤ length l
  pub is : out ≡ paste l at new (i - at)

module _ {A : Type 0} {l : List A} {at : ℕ} {new : List A} where
  pub written_none : at + length new ≡ length l → Written l at new at l
  written_none h =
      let e : 0 ≡ at - at = omega arith in
      record { fits = h; from = omega arith; within = omega arith; is = paste-zero l at new ∙ ap (paste l at new) e }

  module _ {i : ℕ} {out : List A} (w : Written l at new i out) where
    pub written_more : (v z : A) → v ≡ get_or new (i - at) z → i < length l → Written l at new (i + 1) (set out i v)
    written_more v z e h =
        let f = w.fits in
        let g = w.from in
        let j : at + (i - at) ≡ i = omega arith in
        let k : suc (i - at) ≡ i + 1 - at = omega arith in
        record {
          fits = f;
          from = omega arith;
          within = omega arith;
          is =
              rw (w.is, e)
              (ap (λ (j : ℕ). set (paste l at new (i - at)) j (get_or new (i - at) z)) (sym j) ∙ paste-suc l at new (i - at) z (omega arith) (omega arith)
              ∙ ap (paste l at new) k);
        }

    pub written_length : length out ≡ length l
    written_length = rw w.is (length-paste l at new (i - at) (omega (arith, w.from, w.within)) (omega (arith, w.fits, w.within)))

    pub written_all : length out ≤ i → out ≡ take at l ++ new
    written_all h =
        let e : i - at ≡ length new = omega (arith, w.fits, w.within, written_length) in
        w.is ∙ rw (e, take-length new, w.fits, drop-length l, append-nil (take at l ++ new))

-- words cleared from the first on
pub cleared_whole : (ws : List ℕ) {out : List ℕ} {n : ℕ} → length ws ≡ n → out ≡ take 0 ws ++ replicate (length ws - 0) 0 → out ≡ replicate n 0
cleared_whole ws e f = f ∙ ap (λ (k : ℕ). replicate k 0) (sub-zero (length ws) ∙ e)
