-- A walk that marks the guards of a choice, and tells what it does and how many words it leaves.
-- Assumes nothing.
use Prim.Native.Nat.{ℕ, ◌+◌, ◌*◌, ◌≤◌}
use mathlib.Core.Path.{◌≡◌, refl, sym, ap, ◌∙◌}
use mathlib.Core.List.{List, [], ◌++◌, append_assoc, append-nil}
use native.Mathlib.Omega.{arith}
use lib.ListN.{length}
use Rattle.table.specs.Tables.{Table}
use Rattle.term.specs.declared.Label.{Label}
use Rattle.term.specs.Terms.{words}
use Rattle.choice.specs.declared.Goal.{Goal}
use Rattle.choice.specs.declared.Side.{Side}
use Rattle.choice.specs.declared.Kept.{Kept}
use Rattle.choice.specs.declared.Kept.TheVariants.{Nothing, Right, Left}
use Rattle.choice.specs.Turns.{chosen_at, ahead, Reached, kept_size, side_guards, Ended, Onward}
use Rattle.choice.specs.Marking.{WalkMarks, Marked}
use Rattle.choice.specs.Outcomes.{Walked}
use Rattle.choice.proofs.Turning.{around_size}
use Rattle.choice.proofs.Collecting.{marked_none, marked_join, marked_same}

-- at most two words stay
kept_most : (k : Kept) → kept_size k ≤ 2
kept_most Nothing = omega arith
kept_most (Right w n) = omega arith
kept_most (Left n) = omega arith

-- a walk from goal f has come to goal g, and its marks from ms to vs: what is done is the same, so many words are
-- left, with the last one, and the guards passed are marked
pub record Toward (t : Table) (f : Goal ℕ) (ms : List ℕ) (g : Goal ℕ) (size : ℕ) (vs : List ℕ) : Type 0 where
  pub reached : Reached t g
  pub label : (chosen_at t f).label ≡ (chosen_at t g).label
  pub words : size + length (words (chosen_at t g).leaving) ≡ 1 + length (words (chosen_at t f).leaving)
  pub bound : size + 2 * ahead t g ≤ 1 + 2 * ahead t f
  pub passed : List ℕ
  pub guards : (chosen_at t f).guards ≡ passed ++ (chosen_at t g).guards
  pub marked : Marked t passed ms vs

module _ (t : Table) (f : Goal ℕ) (ms : List ℕ) (marks : WalkMarks t ms) where
  pub toward_start : Reached t f → Toward t f ms f 1 ms
  toward_start r = record { reached = r; label = refl; words = refl; bound = omega arith; passed = []; guards = refl; marked = marked_none t ms marks }

  module _ (g : Goal ℕ) (size : ℕ) (vs : List ℕ) (w : Toward t f ms g size vs) where
    pub toward_on : (h : Goal ℕ) (side : Side) (kept : Kept) (k : ℕ) → k ≡ kept_size kept → Onward t g h side kept
        → (out : List ℕ) → Marked t (side_guards t side) vs out → Toward t f ms h (size + k) out
    toward_on h side kept k e s out m =
        let x = around_size s.around in
        record {
          reached = s.nearer.reached;
          label = w.label ∙ s.around.label;
          words = omega (arith, w.words);
          bound = omega (arith, kept_most kept, w.bound, s.nearer.falls);
          passed = w.passed ++ side_guards t side;
          guards = w.guards ∙ ap (λ (gs : List ℕ). w.passed ++ gs) s.around.guards ∙ sym (append_assoc w.passed (side_guards t side) (chosen_at t h).guards);
          marked = marked_join t ms marks w.passed (side_guards t side) vs out w.marked m;
        }

    pub toward_end : (l : Label) (word limit : ℕ) → Ended (chosen_at t g) l word → 1 + 2 * ahead t f ≤ limit → Walked t (chosen_at t f) limit ms (record { label = l; size = size }) vs
    toward_end l word limit e h =
        let x = ap length e.words in
        record {
          marked = marked_same (w.guards ∙ ap (λ (gs : List ℕ). w.passed ++ gs) e.guards ∙ append-nil w.passed) w.marked;
          tells = record { label = sym (w.label ∙ e.label); size = omega (arith, w.words); bound = omega (arith, w.bound) };
        }
