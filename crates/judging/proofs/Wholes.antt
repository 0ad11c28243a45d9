-- The words that hold an agent's residual are one whole term.
-- Assumes nothing.
use Prim.Native.Nat.{ℕ, ◌<◌, ◌≤◌}
use mathlib.Core.Bool.{true}
use mathlib.Core.Path.{◌≡◌, ap, ◌∙◌}
use mathlib.Core.List.{List}
use native.Mathlib.Omega.{arith}
use lib.Dec.{leb}
use lib.ListN.{length, take, length-take}
use borrow.Author.Tests.{leb-true}
use Rattle.basis.proofs.Tests.{and_left, and_right}
use Rattle.table.specs.Tables.{Table}
use Rattle.term.specs.Terms.{are_terms}
use Rattle.residual.specs.Wholes.{Whole}
use Rattle.state.specs.Layout.{residual_words, length_of, residual_of}
use Rattle.state.specs.Standing.{HasBlocks}
use Rattle.state.specs.WellFormed.{residual_formed}
use Rattle.state.proofs.Residuals.{residual_length}

pub formed_short : (t : Table) (s : List ℕ) (x : ℕ) → residual_formed t s x ≡ true → length_of s x ≤ residual_words
unfolding residual_formed
formed_short t s x formed = leb-true (length_of s x) residual_words (and_left (leb (length_of s x) residual_words) _ formed)

pub formed_whole : (t : Table) (s : List ℕ) (x : ℕ) → HasBlocks s → x < 32 → residual_formed t s x ≡ true
    → (ws : List ℕ) → ws ≡ take (length_of s x) (residual_of s x) → Whole t ws
unfolding residual_formed
formed_whole t s x blocks there formed ws e =
    record {
      room = omega (arith, ap length e ∙ length-take (length_of s x) (residual_of s x), residual_length s x blocks there);
      term = ap (are_terms t 1) e ∙ and_left (are_terms t 1 (take (length_of s x) (residual_of s x))) _ (and_right (leb (length_of s x) residual_words) _ formed);
    }
