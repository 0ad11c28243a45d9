-- Each step from a residual towards its choice is right, and goes on at a part of it.
-- Assumes nothing.
use Prim.Native.Nat.{ℕ, ◌+◌, ◌≤◌, ◌<◌}
use mathlib.Core.Bool.{Bool, true, false, ◌&&◌}
use mathlib.Core.Path.{◌≡◌, refl, sym, ap, ap₂, ◌∙◌}
use mathlib.Core.List.{List, [], ◌∷◌, ◌++◌, append-nil}
use native.Mathlib.Omega.{arith}
use lib.ListN.{length}
use Rattle.std.specs.Prelude.{Some, None}
use borrow.Author.Tests.{leb-true}
use Rattle.basis.proofs.Tests.{not_both, and_left, and_right}
use Rattle.table.specs.Tables.{Table, first_root}
use Rattle.term.specs.declared.Mode.{Mode}
use Rattle.term.specs.declared.Mode.TheVariants.{Actions, Ticks}
use Rattle.term.specs.Terms.{Term, Seq, Par, Tick, Idle, Node, words, seq_word, par_word, tick_word, is_operator}
use Rattle.term.specs.Accepted.{Over}
use Rattle.term.specs.Processes.{Derivation, process, few, all_few, derivations, join}
use Rattle.term.specs.Choices.{action_count, tick_count, actions_of, count_in}
use Rattle.term.proofs.Counting.{few_count}
use Rattle.accept.specs.declared.Counts.{Counts}
use Rattle.accept.specs.Counts.{true_counts}
use Rattle.accept.specs.Scratch.{Counted}
use Rattle.choice.specs.declared.Pick.{Pick}
use Rattle.choice.specs.declared.Pick.TheVariants.{LeftActs, RightActs, LeftTicks, RightTicks}
use Rattle.choice.specs.Picks.{acting_of, pick_of}
use Rattle.choice.specs.Chosen.{chosen_in}
use Rattle.choice.specs.Turns.{goal_of, Around}
use Rattle.choice.proofs.Chosen.{no_idle, chosen_tick}
use Rattle.choice.proofs.Turning.{ended_tick, around_under, around_before, around_right, around_left}
use Rattle.choice.proofs.Picking.{acting_true, SeqPicked, ParPicked, seq_picked, par_picked}
use Rattle.choice.specs.declared.Goal.{Goal}
use Rattle.residual.specs.declared.Cursor.{Cursor}
use Rattle.residual.specs.declared.Measured.{Measured}
use Rattle.residual.specs.declared.Step.TheVariants.{Ticked, Leaf}
use Rattle.residual.specs.Reading.{read_at}
use Rattle.residual.specs.Measures.{Found, Told}
use Rattle.residual.specs.Steps.{beside_of, pick_step, Choosable, going, Part, Stepped, Stands}
use Rattle.residual.proofs.Places.{first, others, word_is, node_plain}
use Rattle.residual.proofs.Whole.{read_word}
use Rattle.residual.proofs.Measures.{held_true, told_left, told_right}

module _ (t : Table) where
  -- few derivations of every subterm, and so of the term
  few_term : (T : Term) → all_few t T ≡ true → few (process t T) ≡ true
  unfolding all_few process derivations
  few_term (Seq p q) e = and_left (few (process t (Seq p q))) (all_few t p && all_few t q) e
  few_term (Par p q) e = and_left (few (process t (Par p q))) (all_few t p && all_few t q) e
  few_term Tick e = refl
  few_term Idle e = refl
  few_term (Node n) e = e

  pub told_true : (T : Term) (at : ℕ) (m : Measured) → Told t T at m → m.counts ≡ true_counts (process t T)
  told_true T at m w =
      w.counts ∙ held_true (process t T) (leb-true (action_count (process t T) + tick_count (process t T)) 65535 (sym (few_count (process t T)) ∙ few_term T w.few))

  halves_few : (p q : Term) (b : Bool) → (b && (all_few t p && all_few t q)) ≡ true → (all_few t p ≡ true) × (all_few t q ≡ true)
  halves_few p q b e =
      let f = and_right b (all_few t p && all_few t q) e in
      (and_left (all_few t p) (all_few t q) f, and_right (all_few t p) (all_few t q) f)

-- at an operator's term T, whose word is w
module _ (t : Table) (T p q : Term) (g : Goal Cursor) (w : ℕ) (left right end : Cursor) (term : words T ≡ w ∷ (words p ++ words q)) (over : Over t p × Over t q)
    (all : (few (process t T) && (all_few t p && all_few t q)) ≡ true) (l : left.at ≡ g.from.at + 1) (r : right.at ≡ g.from.at + 1 + length (words p))
    (e : end.at ≡ right.at + length (words q)) where
  both : (all_few t p ≡ true) × (all_few t q ≡ true)
  both = halves_few t p q (few (process t T)) all

  abbrev left_part : (m : Mode) (i : ℕ) → i < count_in m (process t p) → Part t T g p (goal_of left m i)
  left_part m i h =
      record {
        before = w ∷ [];
        after = words q;
        term = term;
        some = omega arith;
        place = l;
        choosable = record { over = over.0; few = both.0; choice = h };
      }

  abbrev right_part : (m : Mode) (i : ℕ) → i < count_in m (process t q) → Part t T g q (goal_of right m i)
  right_part m i h =
      record {
        before = w ∷ words p;
        after = [];
        term = term ∙ ap (λ (x : List ℕ). w ∷ (words p ++ x)) (sym (append-nil (words q)));
        some = omega arith;
        place = omega arith;
        choosable = record { over = over.1; few = both.1; choice = h };
      }

  abbrev At : Pick → Type 0
  At x = Stepped t T g (pick_step g.mode left right end x)

  abbrev d : Derivation
  d = going t T g

  acts_left : (i : ℕ) → i < action_count (process t p) → Around d (chosen_in Actions (process t p) i) [] (w ∷ []) (words q) → At (LeftActs i)
  acts_left i h a = record { term = p; part = left_part Actions i h; size = omega arith; around = a }

  joins_left : (j i : ℕ) → (j < tick_count (process t p)) × (i < count_in g.mode (process t q)) × (d ≡ join (chosen_in Ticks (process t p) j) (chosen_in g.mode (process t q) i)) → At (LeftTicks j i)
  joins_left j i (h, k, f) =
      record { term = q; part = right_part g.mode i k; size = omega arith; rest = refl; ticking = p; tick = left_part Ticks j h; around = around_under d _ _ f }

  by_seq : w ≡ seq_word → (x : Pick) → SeqPicked g.mode (process t p) (process t q) q d x → At x
  by_seq f (LeftActs i) (h, k) = acts_left i h (rw f (around_before d _ q k))
  by_seq f (RightActs i) h = absurd h
  by_seq f (LeftTicks j i) h = joins_left j i h
  by_seq f (RightTicks j i) h = absurd h

  by_par : w ≡ par_word → (x : Pick) → ParPicked g.mode (process t p) p (process t q) q d x → At x
  by_par f (LeftActs i) (h, k) = acts_left i h (rw f (around_right d _ q k))
  by_par f (RightActs i) (h, k) = record { term = q; part = right_part Actions i h; size = refl; around = rw f (around_left d _ p k) }
  by_par f (LeftTicks j i) h = joins_left j i h
  by_par f (RightTicks j i) (h, k, u) =
      record { term = p; part = left_part g.mode i k; size = omega arith; rest = omega arith; ticking = q; tick = right_part Ticks j h; around = around_under d _ _ u }

-- where nothing is found stands no term with a choice
pub none_stands : (t : Table) {roots : ℕ} {s ws : List ℕ} {g : Goal Cursor} → first_root t ≡ roots → Counted t s → Found roots s ws g.from.at None → (T : Term) → Stands t T g ws → ⊥
none_stands t same counted f T st = not_both st.choosable.few (f.right t same counted T _ st.choosable.over st.begins)

-- the steps as the code finds them
module _ (t : Table) (roots : ℕ) (small : roots ≤ 4096) (s ws : List ℕ) (g : Goal Cursor) (same : first_root t ≡ roots) (counted : Counted t s)
    (w : ℕ) (next : Cursor) (read : read_at ws g.from.at ≡ Some (w, next)) (T : Term) (stands : Stands t T g ws) where
  abbrev at : ℕ
  at = g.from.at

  abbrev m : Mode
  m = g.mode

  abbrev c : ℕ
  c = g.choice

  word : w ≡ first T
  word = (read_word ws at w next read).1 ∙ word_is ws at T _ stands.begins

  pub on_operator : is_operator w ≡ true → (a b : Measured) → Found roots s ws next.at (Some a) → Found roots s ws a.next.at (Some b)
      → (x : Pick) → x ≡ pick_of g.mode g.choice (beside_of w g.mode b.counts) a.counts b.counts → Stepped t T g (pick_step g.mode next a.next b.next x)
  unfolding beside_of process words all_few
  on_operator e a b left right x f = by T stands word
    where
      place : next.at ≡ at + 1
      place = (read_word ws at w next read).2

      -- what is told of the parts
      told : (T p q : Term) → others T ≡ words p ++ words q → Over t p × Over t q → Stands t T g ws → Told t p (at + 1) a × Told t q a.next.at b
      told T p q o over st =
          let l : Told t p (at + 1) a = told_left t same counted ws at T p q _ o over st.begins (Some a) (rw place at left) in
          (l, told_right t same counted ws at T p q _ o over st.begins a (Some b) l right)

      by : (T : Term) → Stands t T g ws → w ≡ first T → Stepped t T g (pick_step m next a.next b.next x)
      by (Seq p q) st v =
          let k = st.choosable in
          let h = told (Seq p q) p q refl k.over st in
          let y : x ≡ pick_of m c 0 (true_counts (process t p)) (true_counts (process t q)) =
          f ∙ ap (λ (u : ℕ). pick_of m c (beside_of u m b.counts) a.counts b.counts) v ∙
          ap₂ (pick_of m c 0) (told_true t p (at + 1) a h.0) (told_true t q a.next.at b h.1) in
          by_seq t (Seq p q) p q g w next a.next b.next (ap (λ (u : ℕ). u ∷ (words p ++ words q)) (sym v)) k.over k.few place h.0.next h.1.next v x
          (rw y (seq_picked m (process t p) (process t q) q c k.choice))
      by (Par p q) st v =
          let k = st.choosable in
          let h = told (Par p q) p q refl k.over st in
          let y : x ≡ pick_of m c (actions_of m (process t q)) (true_counts (process t p)) (true_counts (process t q)) =
          f ∙ ap (λ (u : ℕ). pick_of m c (beside_of u m b.counts) a.counts b.counts) v ∙
          ap₂ (λ (P Q : Counts). pick_of m c (acting_of m Q) P Q) (told_true t p (at + 1) a h.0) (told_true t q a.next.at b h.1) ∙
          ap (λ (u : ℕ). pick_of m c u (true_counts (process t p)) (true_counts (process t q))) (acting_true m (process t q)) in
          by_par t (Par p q) p q g w next a.next b.next (ap (λ (u : ℕ). u ∷ (words p ++ words q)) (sym v)) k.over k.few place h.0.next h.1.next v x
          (rw y (par_picked m (process t p) p (process t q) q c k.choice))
      by Tick st v = absurd (not_both e (ap is_operator v))
      by Idle st v = absurd (not_both e (ap is_operator v))
      by (Node n) st v = absurd (not_both e (ap is_operator v ∙ node_plain t (omega arith) n st.choosable.over.0))

  pub on_tick : w ≡ tick_word → Stepped t T g Ticked
  unfolding process words
  on_tick e = by T stands.choosable (sym word ∙ e)
    where
      by : (T : Term) → Choosable t T g → first T ≡ tick_word → Stepped t T g Ticked
      by (Seq p q) k v = absurd (omega arith)
      by (Par p q) k v = absurd (omega arith)
      by Tick k v = (refl, ended_tick (going t Tick g) (chosen_tick m c k.choice))
      by Idle k v = absurd (omega arith)
      by (Node n) k v = absurd (omega (arith, k.over.0))

  pub on_leaf : is_operator w ≡ false → (w ≡ tick_word → ⊥) → Stepped t T g (Leaf (goal_of w g.mode g.choice))
  unfolding process words
  on_leaf e f = by T stands.choosable word
    where
      by : (T : Term) → Choosable t T g → w ≡ first T → Stepped t T g (Leaf (goal_of w m c))
      by (Seq p q) k v = absurd (not_both (ap is_operator v) e)
      by (Par p q) k v = absurd (not_both (ap is_operator v) e)
      by Tick k v = absurd (f v)
      by Idle k v = absurd (no_idle m c k.choice)
      by (Node n) k v = rw v (refl, record { low = k.over.0; choice = k.choice }, refl)
