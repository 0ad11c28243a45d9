-- Laws of checks in order.
-- Assumes nothing.
use Prim.Native.Nat.{ℕ, ◌<◌}
use mathlib.Core.Bool.{Bool, true, false, cond}
use mathlib.Core.Path.{◌≡◌, refl, sym, ap, ◌∙◌}
use mathlib.Core.List.{List, [], ◌∷◌, ◌++◌}
use native.Mathlib.Omega.{arith}
use lib.Dec.{ltb}
use borrow.Author.Tests.{lt-ltb, le-ltb, ltb-false}
use Rattle.basis.specs.Numbers.{lowest}
use Rattle.basis.proofs.Numbers.{lowest_before, lowest_none}
use Rattle.table.specs.Checks.{Check, passes, refuses, Refusal, refuse_at, first_of, passed}

pub refused : {number place : ℕ} → refuses number place ≡ passes → ⊥
refused e = let z : ◌≡◌ {A = ℕ} 0 1 = cc in omega arith

pub passed_passes : (c : Check) → passed c ≡ true → c ≡ passes
passed_passes passes e = refl
passed_passes (refuses number place) e = absurd (let z : ◌≡◌ {A = ℕ} 0 1 = cc in omega arith)

-- the first of a list passes where each does, and is the first that refuses
module _ (r : Refusal) (rs : List Refusal) where
  pub first_passes : first_of (r ∷ rs) ≡ passes → (r.when ≡ false) × (first_of rs ≡ passes)
  unfolding first_of
  first_passes e = by r.when refl e
    where
      by : (b : Bool) → r.when ≡ b → cond b (refuses r.number r.place) (first_of rs) ≡ passes → (r.when ≡ false) × (first_of rs ≡ passes)
      by true d f = absurd (refused f)
      by false d f = (d, f)

  pub first_later : r.when ≡ false → first_of (r ∷ rs) ≡ first_of rs
  unfolding first_of
  first_later d = rw d

  pub first_both : r.when ≡ false → first_of rs ≡ passes → first_of (r ∷ rs) ≡ passes
  first_both d e = first_later d ∙ e

  pub first_refuses : r.when ≡ true → first_of (r ∷ rs) ≡ refuses r.number r.place
  unfolding first_of
  first_refuses d = rw d

pub none_passes : first_of [] ≡ passes
unfolding first_of
none_passes = refl

-- two lists in a row: the first decides, or passes
pub append_later : (rs qs : List Refusal) → first_of rs ≡ passes → first_of (rs ++ qs) ≡ first_of qs
append_later [] qs e = refl
append_later (r ∷ rs) qs e = let w = first_passes r rs e in first_later r (rs ++ qs) w.0 ∙ append_later rs qs w.1

pub append_refuses : (rs qs : List Refusal) {number place : ℕ} → first_of rs ≡ refuses number place → first_of (rs ++ qs) ≡ refuses number place
append_refuses [] qs e = absurd (refused (sym e ∙ none_passes))
append_refuses (r ∷ rs) qs {number} {place} e = by r.when refl (append_refuses rs qs)
  where
    by : (b : Bool) → r.when ≡ b → (first_of rs ≡ refuses number place → first_of (rs ++ qs) ≡ refuses number place) → first_of ((r ∷ rs) ++ qs) ≡ refuses number place
    by true d later = first_refuses r (rs ++ qs) d ∙ sym (first_refuses r rs d) ∙ e
    by false d later = first_later r (rs ++ qs) d ∙ later (sym (first_later r rs d) ∙ e)

module _ (rs qs : List Refusal) where
  pub append_both : first_of rs ≡ passes → first_of qs ≡ passes → first_of (rs ++ qs) ≡ passes
  append_both d e = append_later rs qs d ∙ e

  pub append_passes : first_of (rs ++ qs) ≡ passes → (first_of rs ≡ passes) × (first_of qs ≡ passes)
  append_passes e = by (first_of rs) refl
    where
      by : (c : Check) → first_of rs ≡ c → (first_of rs ≡ passes) × (first_of qs ≡ passes)
      by passes d = (d, sym (append_later rs qs d) ∙ e)
      by (refuses number place) d = absurd (refused (sym (append_refuses rs qs d) ∙ e))

-- a check of every number below a limit
module _ (limit : ℕ) (test : ℕ → Bool) where
  pub lowest_passes : ltb (lowest test limit) limit ≡ false → (k : ℕ) → k < limit → test k ≡ false
  lowest_passes e k h = let l = ltb-false (lowest test limit) limit e in lowest_before test limit k (omega arith)

  pub passes_lowest : ((k : ℕ) → k < limit → test k ≡ false) → ltb (lowest test limit) limit ≡ false
  passes_lowest f = le-ltb (lowest test limit) limit (omega (arith, lowest_none test limit f))

  -- a line that refuses at the lowest: where there is none, and where it has been found
  pub line_passes : (number : ℕ) → ((k : ℕ) → k < limit → test k ≡ false) → passes ≡ first_of (refuse_at number limit (lowest test limit) ∷ [])
  line_passes number f = sym (first_both (refuse_at number limit (lowest test limit)) [] (passes_lowest f) none_passes)

  pub line_refuses : (number x : ℕ) → x < limit → x ≡ lowest test limit → refuses number x ≡ first_of (refuse_at number limit (lowest test limit) ∷ [])
  line_refuses number x h e =
      ap (refuses number) e ∙ sym (first_refuses (refuse_at number limit (lowest test limit)) [] (lt-ltb (lowest test limit) limit (omega arith)))

  -- what a line that passes leaves
  pub line_none : (number : ℕ) → first_of (refuse_at number limit (lowest test limit) ∷ []) ≡ passes → (k : ℕ) → k < limit → test k ≡ false
  line_none number e = lowest_passes (first_passes (refuse_at number limit (lowest test limit)) [] e).0
