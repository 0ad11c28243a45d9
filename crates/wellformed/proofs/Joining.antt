-- Words that are joined by or come to 0 exactly where each is 0.
-- Assumes nothing.
use Prim.Native.Nat.{ℕ}
use mathlib.Core.Bool.{◌&&◌, and-true, and_assoc}
use mathlib.Core.Path.{◌≡◌, refl, sym, ap, ◌∙◌}
use mathlib.Core.List.{List, [], ◌∷◌, ◌++◌}
use native.Mathlib.Omega.{arith}
use lib.Bits.{bit_or, or_add_and, and_le_l, and_le_r}
use lib.Dec.{eqb}
use borrow.Author.Tests.{eqb-true, eq-eqb}
use denote.Param.Members.{Mut, Called}
use denote.Ref.{Bor}
use Rattle.std.specs.declared.slice.Iter.{Iter}
use Rattle.std.specs.Slice.Iter.{iter_rest}
use Rattle.std.specs.Iterator.{FoldsItems}
use Rattle.std.proofs.iter.Yields.{fronts}
use Rattle.std.proofs.lemmas.Fn.{fold_over}
use Rattle.std.proofs.lemmas.Iterator.{YieldsList-from_slice}
use Rattle.basis.proofs.Tests.{same_test, and_both, and_left, and_right}
use Rattle.state.specs.WellFormed.{all_zero}

or_none : (a b : ℕ) → eqb (bit_or a b) 0 ≡ (eqb a 0 && eqb b 0)
or_none a b =
    same_test (eqb (bit_or a b) 0) (eqb a 0 && eqb b 0)
    (λ e. let z = eqb-true (bit_or a b) 0 e in and_both _ _ (eq-eqb a 0 (omega (arith, z, or_add_and a b, and_le_r a b))) (eq-eqb b 0 (omega (arith, z, or_add_and a b, and_le_l a b))))
    (λ e. eq-eqb (bit_or a b) 0 (omega (arith, or_add_and a b, eqb-true a 0 (and_left _ _ e), eqb-true b 0 (and_right _ _ e))))

-- one word more
zero_more : (ws : List ℕ) (w : ℕ) → all_zero (ws ++ w ∷ []) ≡ (all_zero ws && eqb w 0)
unfolding all_zero
zero_more [] w = and-true (eqb w 0)
zero_more (x ∷ ws) w = rw (zero_more ws w) (sym (and_assoc (eqb x 0) (all_zero ws) (eqb w 0)))

module _ {F : Type 0} {g : Mut F (ℕ × (Bor ℕ × Unit {0})) ℕ} (f : F) (acts : (a : ℕ) (x : Bor ℕ) (b : ℕ) (q : F) → Called g f (a, (x, tt)) b q → (b ≡ bit_or a x.now) × (q ≡ f)) where
  pub joined_zero : {s : Iter ℕ} (ws : List ℕ) (r : ℕ) → iter_rest s ≡ ws → FoldsItems fronts g s f 0 r → eqb r 0 ≡ all_zero ws
  unfolding all_zero
  joined_zero {s} ws r is folds =
      fold_over fronts (λ y. y.now) g (λ ys a. eqb a 0 ≡ all_zero ys) f
      (λ ys a x b q e k. let did = acts a x b q k in (rw did.0 (or_none a x.now ∙ ap (λ z. z && eqb x.now 0) e ∙ sym (zero_more ys x.now)), did.1))
      s ws 0 r (YieldsList-from_slice ws is).runs refl folds
