-- The totals of a run, written one after another.
-- Assumes nothing.
use Prim.Native.Nat.{ℕ, zero, suc}
use mathlib.Core.Path.{◌≡◌, refl, sym, ap, ◌∙◌}
use mathlib.Core.List.{List, [], ◌∷◌, ◌++◌}
use lib.ListN.{length, take, set}
use Rattle.machine.specs.declared.Totals.{Totals}
use Rattle.rehearsal.specs.Results.{written, total_numbers}

take_none : (n : ℕ) → ◌≡◌ {A = List ℕ} (take n []) []
take_none zero = refl
take_none (suc n) = refl

written_four : (a b c d : ℕ) (words : List ℕ) → set (set (set (set words 0 a) 1 b) 2 c) 3 d ≡ written (a ∷ b ∷ c ∷ d ∷ []) words
written_four a b c d [] = refl
written_four a b c d (w ∷ []) = refl
written_four a b c d (w ∷ x ∷ []) = refl
written_four a b c d (w ∷ x ∷ y ∷ []) = refl
written_four a b c d (w ∷ x ∷ y ∷ z ∷ words) = ap (λ (none : List ℕ). a ∷ b ∷ c ∷ d ∷ (none ++ words)) (sym (take_none (length words)))

pub totals_written : (c : Totals) (words : List ℕ) {d e f g : List ℕ} → d ≡ set words 0 c.done → e ≡ set d 1 c.refused →
    f ≡ set e 2 c.tally.added → g ≡ set f 3 c.tally.replaced → g ≡ written (total_numbers c) words
totals_written c words h i j k =
    k ∙ ap (λ (u : List ℕ). set u 3 c.tally.replaced) (j ∙ ap (λ (u : List ℕ). set u 2 c.tally.added) (i ∙ ap (λ (u : List ℕ). set u 1 c.refused) h))
    ∙ written_four c.done c.refused c.tally.added c.tally.replaced words
