-- The check of whole terms, word by word.
-- Assumes nothing.
use Prim.Native.Nat.{ℕ, zero, suc, ◌+◌, ◌-◌, ◌<◌, ◌≤◌}
use mathlib.Core.Bool.{Bool, true, false, cond}
use mathlib.Core.Path.{◌≡◌, refl, sym, ap, ◌∙◌}
use mathlib.Core.List.{List, [], ◌∷◌}
use native.Mathlib.Numerals.{add-one}
use native.Mathlib.Omega.{arith}
use lib.Dec.{eqb, ltb}
use lib.ListN.{length, get_or, drop, length-drop}
use lib.Seq.{drop-cons}
use Rattle.std.specs.Prelude.{Option, Some, None}
use Rattle.std.proofs.lemmas.Option.{cond_some, none-some}
use borrow.Author.Tests.{ltb-true, ltb-false, ne_eqb}
use Rattle.table.specs.Tables.{Table, first_root}
use Rattle.term.specs.Terms.{are_terms}
use Rattle.residual.specs.declared.Cursor.{Cursor}
use Rattle.term.specs.Terms.{is_operator}
use Rattle.residual.specs.Reading.{read_at, leaf_word}
use Rattle.residual.proofs.Places.{empty}

-- what a reading tells
module _ (ws : List ℕ) (at : ℕ) where
  pub read_word : (w : ℕ) (next : Cursor) → read_at ws at ≡ Some (w, next) → (at < length ws) × (w ≡ get_or ws at 0) × (next.at ≡ at + 1)
  read_word w next e =
      let m = cond_some _ _ _ e in
      (ltb-true at (length ws) m.0, ap (λ (p : ℕ × Cursor). p.0) (sym m.1), ap (λ (p : ℕ × Cursor). p.1.at) (sym m.1))

  pub read_end : read_at ws at ≡ None → length ws ≤ at
  read_end e = by (ltb at (length ws)) refl e
    where
      by : (b : Bool) → ltb at (length ws) ≡ b → cond {A = Option (ℕ × Cursor)} b (Some (get_or ws at 0, record { at = at + 1 })) None ≡ None → length ws ≤ at
      by true h f = absurd (none-some _ (sym f))
      by false h f = ltb-false at (length ws) h

module _ (t : Table) (ws : List ℕ) (at : ℕ) where
  are_nil : (n : ℕ) → are_terms t n [] ≡ eqb n 0
  unfolding are_terms
  are_nil zero = refl
  are_nil (suc n) = sym (ne_eqb (suc n) 0 (λ e. omega arith))

  -- no word is left: no term must be left either
  pub are_end : (n : ℕ) → length ws ≤ at → are_terms t n (drop at ws) ≡ eqb n 0
  are_end n h = rw (empty (drop at ws) (length-drop at ws ∙ omega arith)) (are_nil n)

  -- a word has been read
  module _ (w : ℕ) (next : Cursor) (read : read_at ws at ≡ Some (w, next)) where
    opened : (n : ℕ) → are_terms t n (drop at ws) ≡ are_terms t n (w ∷ drop next.at ws)
    opened n =
        let r = read_word ws at w next read in
        ap (are_terms t n) (drop-cons ws at 0 r.0) ∙ rw (r.1, r.2, add-one)

    pub are_none : (n : ℕ) → n ≡ 0 → are_terms t n (drop at ws) ≡ false
    unfolding are_terms
    are_none n e = ap (λ (k : ℕ). are_terms t k (drop at ws)) e ∙ opened 0

    pub are_operator : (n : ℕ) → 0 < n → is_operator w ≡ true → are_terms t n (drop at ws) ≡ are_terms t (n + 1) (drop next.at ws)
    unfolding are_terms
    are_operator zero l e = absurd (omega arith)
    are_operator (suc n) l e = let d : suc n + 1 ≡ suc (suc n) = omega arith in opened (suc n) ∙ rw (are_terms, e, d)

    module _ (roots : ℕ) (kinds : List ℕ) (r : first_root t ≡ roots) (k : t.kinds ≡ kinds) (plain : is_operator w ≡ false) where
      pub are_leaf : (n : ℕ) → 0 < n → leaf_word roots kinds w ≡ true → are_terms t n (drop at ws) ≡ are_terms t (n - 1) (drop next.at ws)
      unfolding are_terms
      are_leaf zero l g = absurd (omega arith)
      are_leaf (suc n) l g = let d : suc n - 1 ≡ n = omega arith in opened (suc n) ∙ rw (are_terms, plain, r, k, g, d)

      pub are_bad : (n : ℕ) → leaf_word roots kinds w ≡ false → are_terms t n (drop at ws) ≡ false
      unfolding are_terms
      are_bad zero g = are_none 0 refl
      are_bad (suc n) g = opened (suc n) ∙ rw (are_terms, plain, r, k, g)
