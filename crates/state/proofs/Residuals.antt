-- A residual's words as a list: which words they begin with, and that 0 comes after.
-- Assumes nothing.
use Prim.Native.Nat.{ℕ, zero, suc, ◌+◌, ◌-◌, ◌<◌, ◌≤◌}
use mathlib.Core.Bool.{true}
use mathlib.Core.Logic.{⊎_elim}
use mathlib.Core.Path.{◌≡◌, refl, sym, ap, ◌∙◌}
use mathlib.Core.List.{List, [], ◌∷◌}
use native.Mathlib.Omega.{arith}
use lib.Dec.{eqb}
use lib.ListN.{length, get_or, take, drop, length-drop, get_or-eq_default}
use lib.Seq.{ext_get_or, get_or-take, get_or-drop, length-take-le}
use borrow.Author.Tests.{eqb-true, eq-eqb}
use Rattle.basis.proofs.Lists.{get_d_part}
use Rattle.basis.proofs.Tests.{and_left, and_right, and_both, lt_or_le}
use Rattle.term.specs.Terms.{Term, words, term_of}
use Rattle.term.proofs.Words.{Low, term_of_words}
use Rattle.state.specs.Layout.{residual_words, residual_at, length_of, residual_of, term_in}
use Rattle.state.specs.WellFormed.{all_zero}
use Rattle.state.proofs.Places.{Residual, place_fits}
use Rattle.state.specs.Standing.{HasBlocks}
use Rattle.state.proofs.Frames.{word_at}

-- words that are all 0
pub zero_at : (ws : List ℕ) → all_zero ws ≡ true → (i : ℕ) → get_or ws i 0 ≡ 0
unfolding all_zero
zero_at [] e i = refl
zero_at (w ∷ ws) e zero = eqb-true w 0 (and_left (eqb w 0) (all_zero ws) e)
zero_at (w ∷ ws) e (suc i) = zero_at ws (and_right (eqb w 0) (all_zero ws) e) i

pub at_zero : (ws : List ℕ) → ((i : ℕ) → i < length ws → get_or ws i 0 ≡ 0) → all_zero ws ≡ true
unfolding all_zero
at_zero [] h = refl
at_zero (w ∷ ws) h = and_both (eqb w 0) (all_zero ws) (eq-eqb w 0 (h 0 (omega arith))) (at_zero ws (λ i l. h (suc i) (omega arith)))

module _ (s : List ℕ) (a : ℕ) where
  pub residual_at_lem : (i : ℕ) → i < residual_words → get_or (residual_of s a) i 0 ≡ word_at s (Residual a i)
  residual_at_lem i l = get_d_part s (residual_at a) residual_words i 0 l

  -- words that the residual begins with, if 0 comes after them
  module _ (ws : List ℕ) (front : take (length ws) (residual_of s a) ≡ ws) (rest : all_zero (drop (length ws) (residual_of s a)) ≡ true) where
    pub residual_reads : (i : ℕ) → i < residual_words → word_at s (Residual a i) ≡ get_or ws i 0
    residual_reads i l =
        sym (residual_at_lem i l)
        ∙ ⊎_elim (λ (b : i < length ws). sym (get_or-take (length ws) (residual_of s a) i 0 b) ∙ ap (λ (vs : List ℕ). get_or vs i 0) front)
        (λ (b : length ws ≤ i).
        let e : i ≡ length ws + (i - length ws) = omega arith in
        ap (λ (j : ℕ). get_or (residual_of s a) j 0) e ∙ sym (get_or-drop (length ws) (residual_of s a) (i - length ws) 0)
        ∙ zero_at (drop (length ws) (residual_of s a)) rest (i - length ws) ∙ sym (get_or-eq_default ws 0 b)) (lt_or_le i (length ws))

  module _ (room : HasBlocks s) (there : a < 32) where
    pub residual_length : length (residual_of s a) ≡ residual_words
    residual_length =
        let l = place_fits (Residual a (residual_words - 1)) (omega arith) there in
        length-take-le residual_words (drop (residual_at a) s) (rw (length-drop (residual_at a) s) (omega arith))

    -- the residual's words are ws, and 0 after them
    module _ (ws : List ℕ) (short : length ws ≤ residual_words) (reads : (i : ℕ) → i < residual_words → word_at s (Residual a i) ≡ get_or ws i 0) where
      pub residual_front : take (length ws) (residual_of s a) ≡ ws
      residual_front =
          let e = residual_length in
          let l : length (take (length ws) (residual_of s a)) ≡ length ws = length-take-le (length ws) (residual_of s a) (omega arith) in
          ext_get_or 0 (take (length ws) (residual_of s a)) ws l (λ i h. let b : i < length ws = omega arith in
          get_or-take (length ws) (residual_of s a) i 0 b ∙ residual_at_lem i (omega arith) ∙ reads i (omega arith))

      pub residual_rest : all_zero (drop (length ws) (residual_of s a)) ≡ true
      residual_rest =
          let e = residual_length in
          at_zero (drop (length ws) (residual_of s a)) (λ i h. let b : length ws + i < residual_words = omega (arith, length-drop (length ws) (residual_of s a)) in
          get_or-drop (length ws) (residual_of s a) i 0 ∙ residual_at_lem (length ws + i) b ∙ reads (length ws + i) b
          ∙ get_or-eq_default ws 0 (omega arith))

    -- the term that is read
    pub term_read : (T : Term) → Low T → length (words T) ≤ residual_words → length_of s a ≡ length (words T)
        → ((i : ℕ) → i < residual_words → word_at s (Residual a i) ≡ get_or (words T) i 0) → term_in s a ≡ T
    term_read T low short e reads =
        ap (λ (n : ℕ). term_of (take n (residual_of s a))) e ∙ ap (λ (ws : List ℕ). term_of ws) (residual_front (words T) short reads) ∙ term_of_words T low
