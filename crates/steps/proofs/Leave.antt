-- What is left after an act: the residual's length and words are those of the new term, 0 comes after, and nothing else changes.
-- Assumes nothing.
use Prim.Native.Nat.{ℕ, ◌+◌, ◌-◌, ◌^◌, ◌<◌, ◌≤◌}
use mathlib.Core.Bool.{false}
use mathlib.Core.Path.{◌≡◌, refl, sym, ap, ◌∙◌}
use mathlib.Core.List.{List, ◌++◌, append_assoc}
use native.Mathlib.Omega.{arith}
use lib.ListN.{length, get_or, set, take, drop, replicate, length-set}
use lib.Seq.{take_all, drop-drop}
use borrow.Author.Tests.{ne_eqb}
use Rattle.basis.specs.Numbers.{for_each}
use Rattle.basis.proofs.Numbers.{for_each_same, for_each_at, for_each_keeps, for_each_ext}
use Rattle.basis.proofs.Lists.{padded_length, padded_at, for_each_paste}
use Rattle.term.specs.Terms.{Term, words}
use Rattle.term.proofs.Words.{Low}
use Rattle.state.specs.Layout.{residual_words, residual_at, length_at, length_of, term_in}
use Rattle.state.specs.WellFormed.{Words}
use Rattle.state.specs.Standing.{HasBlocks}
use Rattle.state.proofs.Places.{Place, Length, Residual, Inside, same, place_fits}
use Rattle.state.proofs.Frames.{word_at, SameAt, set_small, set_other, set_here}
use Rattle.state.proofs.Residuals.{term_read}
use Rattle.steps.specs.Acts.{leave}

module _ (x : ℕ) (ws s : List ℕ) where
  abbrev copy : ℕ → List ℕ → List ℕ
  copy i u = set u (residual_at x + i) (get_or ws i 0)

  abbrev copied : ℕ → List ℕ
  copied n = for_each copy n s

  copied_length : (n : ℕ) → length (copied n) ≡ length s
  copied_length n = for_each_same copy (λ (u : List ℕ). length u) n (λ i l u. length-set u (residual_at x + i) (get_or ws i 0)) s

  pub leave_length : length (leave x ws s) ≡ length s
  unfolding leave
  leave_length = length-set (copied residual_words) (length_at x) (length ws) ∙ copied_length residual_words

  pub leave_small : Words s → Words ws → length ws < 2 ^ 32 → Words (leave x ws s)
  unfolding leave
  leave_small small h l =
      set_small (copied residual_words) (length_at x) (length ws)
      (for_each_keeps copy Words residual_words (λ i m u g. set_small u (residual_at x + i) (get_or ws i 0) g (h i)) s small) l

  copied_other : (n : ℕ) → n ≤ residual_words → (q : Place) → Inside q → ((i : ℕ) → i < n → same q (Residual x i) ≡ false) → SameAt (copied n) s q
  copied_other n b q h e = for_each_same copy (λ (u : List ℕ). word_at u q) n (λ i l u. set_other u (Residual x i) (get_or ws i 0) (omega arith) q h (e i l)) s

  pub leave_other : (q : Place) → Inside q → same q (Length x) ≡ false → ((i : ℕ) → i < residual_words → same q (Residual x i) ≡ false) → SameAt (leave x ws s) s q
  unfolding leave
  leave_other q h e f = set_other (copied residual_words) (Length x) (length ws) tt q h e ∙ copied_other residual_words (omega arith) q h f

  module _ (room : HasBlocks s) (there : x < 32) where
    pub leave_size : length_of (leave x ws s) x ≡ length ws
    unfolding leave
    leave_size = set_here (copied residual_words) (Length x) (length ws) tt (omega (arith, copied_length residual_words, room)) there

    pub leave_word : (i : ℕ) → i < residual_words → word_at (leave x ws s) (Residual x i) ≡ get_or ws i 0
    unfolding leave
    leave_word i l =
        set_other (copied residual_words) (Length x) (length ws) tt (Residual x i) l refl
        ∙ for_each_at copy (λ (u : List ℕ). word_at u (Residual x i)) i residual_words l
        (λ j m d u. set_other u (Residual x j) (get_or ws j 0) m (Residual x i) l (rw (ne_eqb i j (λ e. d (sym e))))) s
        ∙ set_here (copied i) (Residual x i) (get_or ws i 0) l (omega (arith, copied_length i, room)) there

-- the term that is left
pub leave_term : (x : ℕ) (T : Term) (s : List ℕ) → HasBlocks s → x < 32 → Low T → length (words T) ≤ residual_words → term_in (leave x (words T) s) x ≡ T
leave_term x T s room there low short =
    term_read (leave x (words T) s) x (omega (arith, leave_length x (words T) s, room)) there T low short (leave_size x (words T) s room there) (leave_word x (words T) s room there)

-- THE SAME AS A PART of the state that becomes the words, with 0 after them
pub leave_part : (x : ℕ) (ws s : List ℕ) → HasBlocks s → x < 32 → length ws ≤ residual_words
    → set (take (residual_at x) s ++ ((ws ++ replicate (residual_words - length ws) 0) ++ drop residual_words (drop (residual_at x) s))) (length_at x) (length ws) ≡ leave x ws s
unfolding leave
leave_part x ws s room there short =
    let n = residual_words in
    let at = residual_at x in
    let zs = ws ++ replicate (n - length ws) 0 in
    let long = padded_length ws n short in
    let fits = place_fits (Residual x (residual_words - 1)) (omega arith) there in
    ap (λ (u : List ℕ). set u (length_at x) (length ws))
    (ap (λ (u : List ℕ). take at s ++ (zs ++ u)) (drop-drop n at s)
    ∙ sym (append_assoc (take at s) zs (drop (at + n) s))
    ∙ ap (λ (u : List ℕ). (take at s ++ u) ++ drop (at + n) s) (sym (take_all n zs (omega arith)))
    ∙ sym (for_each_paste at zs s n (omega arith) (omega arith))
    ∙ for_each_ext (copy x zs s) (copy x ws s) n s (λ i l. ap (λ (v : ℕ). set (copied x zs s i) (at + i) v) (padded_at ws n short i l)))
