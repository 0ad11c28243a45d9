-- The descending pass: nodes hand on to those that they name what reaches them.
-- Assumes nothing.
use Prim.Native.Nat.{ℕ, ◌+◌, ◌<◌, ◌≤◌}
use mathlib.Core.Bool.{Bool, true, false, ◌&&◌, ◌||◌}
use mathlib.Core.Path.{◌≡◌, sym, ◌∙◌}
use mathlib.Core.Logic.{⊎_elim}
use mathlib.Core.List.{List}
use native.Mathlib.Omega.{arith}
use lib.ListN.{length}
use Rattle.std.specs.Prelude.{Option, Some, None}
use Rattle.std.specs.Bool.{then_some}
use Rattle.basis.specs.KeySets.{has}
use Rattle.basis.proofs.KeySets.{has_plus, has_plus_if}
use Rattle.basis.proofs.Numbers.{lowest_at}
use Rattle.basis.proofs.Tests.{same_test, and_left, and_right, and_both, or_either, or_left, or_right, same_or_other}
use Rattle.table.specs.Tables.{Table, kind_at, p_at, q_at}
use Rattle.table.specs.Nodes.{fitting, left_node, right_node, names}
use Rattle.table.specs.Reach.{process_node, link_root, reached_from, wrong_here, wrong_key}
use Rattle.table.specs.Marks.{left_bit, right_bit, process_bit, link_bit, is_marked, marking, TwoMarks, Shows, Shown, Handed, Above, LowestOf}
use Rattle.table.proofs.Operands.{names_lower}
use Rattle.table.proofs.Reaches.{reached_start, reached_named, reached_how}
use Rattle.table.proofs.Marking.{twice_is}

module _ (t : Table) (good : (k : ℕ) → k < t.sizes.nodes → fitting t k ≡ true) where
  abbrev N : ℕ
  N = t.sizes.nodes

  module _ (bit : ℕ) (start : ℕ → Bool) where
    abbrev from : ℕ → Bool
    from m = reached_from t start m

    -- at first only the starts have the bit
    handed_first : {words : List ℕ} → Shows words bit N start → Handed t words bit start N
    handed_first h =
        record {
          sound = λ m l e. reached_start t good start m l (sym (h m l) ∙ e);
          starts = λ m l e. h m l ∙ e;
          named = λ k m g l e f. absurd (omega arith);
        }

    module _ {words : List ℕ} {i : ℕ} (small : i < N) (h : Handed t words bit start (i + 1)) where
      -- the next node has it where it is reached, since only higher ones name it
      handed_told : is_marked words bit i ≡ from i
      handed_told =
          same_test (is_marked words bit i) (from i) (h.sound i small)
          (λ e.
          ⊎_elim (λ (a : start i ≡ true). h.starts i small a)
          (λ (w : (k : ℕ) × (k < N) × (from k ≡ true) × (names t k i ≡ true)).
          let d = names_lower t w.0 (good w.0 w.1) i w.3 in h.named w.0 i (omega arith) w.1 w.2 w.3)
          (reached_how t good start i e))

      -- and hands it on
      handed_more : {after : List ℕ} → ((m : ℕ) → is_marked after bit m ≡ ((from i && names t i m) || is_marked words bit m)) → Handed t after bit start i
      handed_more {after} g =
          record {
            sound = λ m l e.
                ⊎_elim (λ (a : (from i && names t i m) ≡ true). reached_named t good start i m (and_left (from i) (names t i m) a) (and_right (from i) (names t i m) a))
                (λ (a : is_marked words bit m ≡ true). h.sound m l a) (or_either (from i && names t i m) (is_marked words bit m) (sym (g m) ∙ e));
            starts = λ m l e. kept m (h.starts m l e);
            named = λ k m j l e f.
                ⊎_elim (λ (a : k ≡ i). g m ∙ or_left (from i && names t i m) (is_marked words bit m) (rw a at (and_both (from k) (names t k m) e f)))
                (λ (a : k ≡ i → ⊥). kept m (h.named k m (omega (arith, a)) l e f)) (same_or_other k i);
          }
        where
          kept : (m : ℕ) → is_marked words bit m ≡ true → is_marked after bit m ≡ true
          kept m e = g m ∙ or_right (from i && names t i m) (is_marked words bit m) e

  abbrev by_process : ℕ → Bool
  by_process m = reached_from t (process_node t) m

  abbrev by_link : ℕ → Bool
  by_link m = reached_from t (link_root t) m

  pub above_first : {words : List ℕ} → Shown t words N → Above t words N
  above_first s =
      record {
        left = s.left;
        right = s.right;
        process = handed_first process_bit (process_node t) s.process;
        link = handed_first link_bit (link_root t) s.link;
      }

  module _ {words : List ℕ} {i : ℕ} (small : i < N) (h : Above t words (i + 1)) where
    pub process_told : is_marked words process_bit i ≡ by_process i
    process_told = handed_told process_bit (process_node t) small h.process

    pub link_told : is_marked words link_bit i ≡ by_link i
    link_told = handed_told link_bit (link_root t) small h.link

    pub wrong_told : {party : ℕ} {process link : Bool} → party ≡ q_at t i → process ≡ is_marked words process_bit i → link ≡ is_marked words link_bit i
        → wrong_here (kind_at t i) party process link ≡ wrong_key t i
    unfolding wrong_key
    wrong_told d e f = rw (d, e ∙ process_told, f ∙ link_told, wrong_key)

    pub above_more : {after : List ℕ} {r : Bool} → N ≤ length words
        → TwoMarks (by_process i) (by_link i) words after (then_some (left_node t i) (p_at t i)) (then_some (right_node t i) (q_at t i)) r → Above t after i
    above_more {after} long m =
        record {
          left = λ k g. given left_bit false (λ w. rw (has_plus_if, has_plus_if, has_plus)) k ∙ h.left k g;
          right = λ k g. given right_bit false (λ w. rw (has_plus_if, has_plus_if, has_plus)) k ∙ h.right k g;
          process = handed_more process_bit (process_node t) small h.process (given process_bit (by_process i) (λ w. rw (has_plus_if, has_plus_if, has_plus)));
          link = handed_more link_bit (link_root t) small h.link (given link_bit (by_link i) (λ w. rw (has_plus_if, has_plus_if, has_plus)));
        }
      where
        given : (j : ℕ) (d : Bool) → ((w : ℕ) → has (marking (by_process i) (by_link i) w) j ≡ (d || has w j))
            → (k : ℕ) → is_marked after j k ≡ ((d && names t i k) || is_marked words j k)
        given = twice_is t (marking (by_process i) (by_link i)) words i true (omega arith) (good i small) m.leaves

-- the lowest number from i up to n that passes, if one does
abbrev pub LowestFrom : (ℕ → Bool) → ℕ → ℕ → Option ℕ → Type 0
LowestFrom test n i None = (k : ℕ) → i ≤ k → k < n → test k ≡ false
LowestFrom test n i (Some x) = (x < n) × (test x ≡ true) × ((k : ℕ) → i ≤ k → k < x → test k ≡ false)

module _ (test : ℕ → Bool) (n : ℕ) where
  pub from_first : LowestFrom test n n None
  from_first k h g = absurd (omega arith)

  pub from_all : (o : Option ℕ) → LowestFrom test n 0 o → LowestOf test n o
  from_all None f = λ k h. f k (omega arith) h
  from_all (Some x) f = (f.0, sym (lowest_at test n x f.0 f.1 (λ k h. f.2 k (omega arith) h)))
