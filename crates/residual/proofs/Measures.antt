-- The counts of a term at a place, from those of its parts.
-- Assumes nothing.
use Prim.Native.Nat.{ℕ, ◌+◌, ◌≤◌, ◌<◌, min}
use mathlib.Core.Bool.{Bool, true, false, ◌&&◌, and-true, and-false}
use mathlib.Core.Logic.{⊎_elim}
use mathlib.Core.Path.{◌≡◌, refl, sym, ap, subst, ◌∙◌}
use mathlib.Core.List.{List, [], ◌∷◌, ◌++◌}
use native.Mathlib.Omega.{arith}
use lib.Dec.{leb, ltb, eqb}
use lib.ListN.{length, drop}
use Rattle.std.specs.Prelude.{Option, Some, None, IfSome}
use Rattle.std.specs.Bool.{then_some}
use borrow.Author.Tests.{ltb-true, lt-ltb, le-ltb, ne_eqb, le-leb, lt-leb}
use Rattle.basis.proofs.Tests.{lt_or_le, not_both, cond_cases}
use Rattle.table.specs.Tables.{Table, first_root}
use Rattle.term.specs.Terms.{Term, Seq, Par, Tick, Idle, Node, words, tick_word, idle_word}
use Rattle.term.specs.Accepted.{Over}
use Rattle.term.specs.Processes.{Process, process, few, all_few, node_process, derivations}
use Rattle.term.specs.Choices.{action_count, tick_count}
use Rattle.term.proofs.Counting.{few_count}
use Rattle.term.proofs.Words.{words_some}
use Rattle.accept.specs.declared.Counts.{Counts}
use Rattle.accept.specs.Counts.{Capped, true_counts, counts_of, seq_counts, par_counts}
use Rattle.accept.specs.Scratch.{pair_at, Counted}
use Rattle.accept.proofs.Caps.{counts_idle, counts_tick, counts_seq, counts_par}
use Rattle.residual.specs.declared.Cursor.{Cursor}
use Rattle.residual.specs.declared.Measured.{Measured}
use Rattle.term.specs.Terms.{is_operator}
use Rattle.residual.specs.Reading.{read_at}
use Rattle.residual.specs.Measures.{leaf_counts, operator_counts, Pairs, Told, ToldIf, Within, Found}
use Rattle.residual.proofs.Places.{first, others, words_first, term_within, word_is, Halves, halves, node_plain}
use Rattle.residual.proofs.Whole.{read_word, read_end}

-- few derivations, by counts that are held at 65,536
abbrev pub few_counts : Counts → Bool
few_counts c = leb (c.actions + c.ticks) 65535

few_held : (P : Process) → few_counts (counts_of P) ≡ few P
unfolding counts_of
few_held P = sym (few_count P ∙ by (action_count P) (tick_count P))
  where
    by : (a b : ℕ) → leb (a + b) 65535 ≡ leb (min 65536 a + min 65536 b) 65535
    by a b =
        ⊎_elim (λ (h : a + b < 65536). le-leb (a + b) 65535 (omega arith) ∙ sym (le-leb (min 65536 a + min 65536 b) 65535 (omega arith)))
        (λ (h : 65536 ≤ a + b). lt-leb (a + b) 65535 (omega arith) ∙ sym (lt-leb (min 65536 a + min 65536 b) 65535 (omega arith))) (lt_or_le (a + b) 65536)

-- few counts are the true ones
pub held_true : (P : Process) → action_count P + tick_count P ≤ 65535 → counts_of P ≡ true_counts P
unfolding counts_of
held_true P h = λ i. record { actions = a i; ticks = t i }
  where
    a : min 65536 (action_count P) ≡ action_count P
    a = omega arith

    t : min 65536 (tick_count P) ≡ tick_count P
    t = omega arith

-- the words of a node
module _ (t : Table) (s : List ℕ) (c : Counted t s) (n : ℕ) (h : n < first_root t) where
  pub node_few : action_count (node_process t n) + tick_count (node_process t n) ≤ 65535
  node_few = subst (λ (k : Counts). k.actions + k.ticks ≤ 65535) (c.nodes n h) (c.few n h)

  pub node_held : pair_at s n ≡ counts_of (node_process t n)
  node_held = c.nodes n h ∙ sym (held_true (node_process t n) node_few)

-- what is told of a leaf, and of an operator's term whose parts have few derivations
module _ (t : Table) (T : Term) (at : ℕ) (m : Measured) where
  told_leaf : others T ≡ [] → m.next.at ≡ at + 1 → m.counts ≡ counts_of (process t T) → all_few t T ≡ true → Told t T at m
  told_leaf o e d f =
      record { next = e ∙ ap (λ (n : ℕ). at + n) (sym (ap length (words_first T ∙ ap (λ (l : List ℕ). first T ∷ l) o))); counts = d; few = f }

  told_operator : (p q : Term) (a b : Measured) → Told t p (at + 1) a → Told t q a.next.at b → length (words T) ≡ 1 + length (words p) + length (words q)
      → all_few t T ≡ (few (process t T) && (all_few t p && all_few t q)) → m.next ≡ b.next → m.counts ≡ counts_of (process t T) → ToldIf t T at (then_some (few_counts m.counts) m)
  told_operator p q a b left right size all e d =
      by (few_counts m.counts) (ap few_counts d ∙ few_held (process t T) ∙ sym (all ∙ rw (left.few, right.few) (and-true (few (process t T)))))
    where
      by : (b : Bool) → b ≡ all_few t T → ToldIf t T at (then_some b m)
      by true h = record { next = ap (λ (x : Cursor). x.at) e ∙ omega (arith, left.next, right.next, size); counts = d; few = sym h }
      by false h = sym h

-- what is told of the two parts of an operator's term
module _ (t : Table) {roots : ℕ} (same : first_root t ≡ roots) {s : List ℕ} (counted : Counted t s) (ws : List ℕ) (at : ℕ)
    (T p q : Term) (rest : List ℕ) (o : others T ≡ words p ++ words q) (over : Over t p × Over t q) (begins : drop at ws ≡ words T ++ rest) where
  parts : Halves ws at T p q rest
  parts = halves ws at T p q rest o begins

  pub told_left : (r : Option Measured) → Found roots s ws (at + 1) r → ToldIf t p (at + 1) r
  told_left r left = left.right t same counted p (words q ++ rest) over.0 parts.left

  pub told_right : (a : Measured) (r : Option Measured) → Told t p (at + 1) a → Found roots s ws a.next.at r → ToldIf t q a.next.at r
  told_right a r l right = right.right t same counted q rest over.1 (rw l.next parts.right)

  pub told_size : length (words T) ≡ 1 + length (words p) + length (words q)
  told_size = parts.size

seq_small : (p q : Counts) → Capped (seq_counts p q)
unfolding seq_counts
seq_small p q = record { actions = omega arith; ticks = omega arith }

par_small : (p q : Counts) → Capped (par_counts p q)
unfolding par_counts
par_small p q = record { actions = omega arith; ticks = omega arith }

pub operator_small : (w : ℕ) (p q : Counts) → Capped (operator_counts w p q)
unfolding operator_counts
operator_small w p q = cond_cases Capped (eqb w 65535) (λ e. seq_small p q) (λ e. par_small p q)

pub leaf_small : (roots : ℕ) (s : List ℕ) → Pairs roots s → (w : ℕ) → Capped (leaf_counts roots s w)
unfolding leaf_counts
leaf_small roots s k w =
    cond_cases Capped (eqb w tick_word) (λ e. record { actions = omega arith; ticks = omega arith })
    (λ e. cond_cases Capped (ltb w roots) (λ l. k.small w (ltb-true w roots l)) (λ l. record { actions = omega arith; ticks = omega arith }))

not_left : (b x y : Bool) → x ≡ false → (b && (x && y)) ≡ false
not_left b x y e = rw (e, and-false)

not_right : (b x y : Bool) → y ≡ false → (b && (x && y)) ≡ false
not_right b x y e = rw (e, and-false, and-false)

within_if : (ws : List ℕ) (at : ℕ) (m : Measured) (b : Bool) → Within ws at m → IfSome (then_some b m) (Within ws at)
within_if ws at m true w = w
within_if ws at m false w = tt

module _ (roots : ℕ) (s ws : List ℕ) (at : ℕ) where
  pub found_past : read_at ws at ≡ None → Found roots s ws at None
  found_past e =
      let g = read_end ws at e in
      record { within = tt; right = λ t x k T rest o y. absurd (let w = term_within ws at T rest y in let n = words_some T in omega arith) }

  module _ (pairs : Pairs roots s) (w : ℕ) (next : Cursor) (read : read_at ws at ≡ Some (w, next)) where
    pub found_leaf : (m : Measured) → is_operator w ≡ false → m.next ≡ next → m.counts ≡ leaf_counts roots s w → Found roots s ws at (Some m)
    unfolding leaf_counts words process all_few derivations
    found_leaf m e n d =
        let g = read_word ws at w next read in
        let z : m.next.at ≡ at + 1 = ap (λ (x : Cursor). x.at) n ∙ g.2 in
        record {
          within = record { small = rw d (leaf_small roots s pairs w); on = omega arith; end = omega arith };
          right = λ t x k T rest o y. right t x k T o z (g.1 ∙ word_is ws at T rest y);
        }
      where
        right : (t : Table) → first_root t ≡ roots → Counted t s → (T : Term) → Over t T → m.next.at ≡ at + 1 → w ≡ first T → Told t T at m
        right t x k (Seq p q) o z v = absurd (not_both (ap is_operator v) e)
        right t x k (Par p q) o z v = absurd (not_both (ap is_operator v) e)
        right t x k Tick o z v = told_leaf t Tick at m refl z (d ∙ ap (leaf_counts roots s) v ∙ sym counts_tick) refl
        right t x k Idle o z v =
            let l = pairs.nodes in
            told_leaf t Idle at m refl z (d ∙ ap (leaf_counts roots s) v ∙ rw (leaf_counts, le-ltb idle_word roots (omega arith)) (sym counts_idle)) refl
        right t x k (Node n) o z v =
            let l = pairs.nodes in
            told_leaf t (Node n) at m refl z
            (d ∙ ap (leaf_counts roots s) v ∙ (rw (leaf_counts, ne_eqb n tick_word (λ y. omega arith), lt-ltb n roots (omega arith)) (node_held t s k n o.0)))
            (few_count (node_process t n) ∙ le-leb _ _ (node_few t s k n o.0))

    module _ (e : is_operator w ≡ true) where
      place : next.at ≡ at + 1
      place = (read_word ws at w next read).2

      word : (T : Term) (rest : List ℕ) → drop at ws ≡ words T ++ rest → w ≡ first T
      word T rest y = (read_word ws at w next read).1 ∙ word_is ws at T rest y

      -- what is said of each operator's term is said of every term whose first word this is
      operator : (P : Term → Type 0) (t : Table) → first_root t ≡ roots → ((p q : Term) → Over t p × Over t q → P (Seq p q)) → ((p q : Term) → Over t p × Over t q → P (Par p q))
          → (T : Term) → Over t T → w ≡ first T → P T
      operator P t x f g (Seq p q) o v = f p q o
      operator P t x f g (Par p q) o v = g p q o
      operator P t x f g Tick o v = absurd (not_both e (ap is_operator v))
      operator P t x f g Idle o v = absurd (not_both e (ap is_operator v))
      operator P t x f g (Node n) o v = absurd (not_both e (ap is_operator v ∙ node_plain t (omega (arith, pairs.nodes)) n o.0))

      -- a part has a subterm with too many derivations
      pub found_left : Found roots s ws next.at None → Found roots s ws at None
      unfolding all_few
      found_left left =
          record {
            within = tt;
            right = λ t x k T rest o y.
                operator (λ (T : Term). drop at ws ≡ words T ++ rest → all_few t T ≡ false) t x
                (λ p q o y. not_left _ _ _ (told_left t x k ws at (Seq p q) p q rest refl o y None (rw place at left)))
                (λ p q o y. not_left _ _ _ (told_left t x k ws at (Par p q) p q rest refl o y None (rw place at left))) T o (word T rest y) y;
          }

      module _ (a : Measured) (left : Found roots s ws next.at (Some a)) where
        first_told : (t : Table) → first_root t ≡ roots → Counted t s → (T p q : Term) (rest : List ℕ) → others T ≡ words p ++ words q → Over t p × Over t q → drop at ws ≡ words T ++ rest → Told t p (at + 1) a
        first_told t x k T p q rest h o y = told_left t x k ws at T p q rest h o y (Some a) (rw place at left)

        pub found_right : Found roots s ws a.next.at None → Found roots s ws at None
        unfolding all_few
        found_right right =
            record {
              within = tt;
              right = λ t x k T rest o y.
                  operator (λ (T : Term). drop at ws ≡ words T ++ rest → all_few t T ≡ false) t x
                  (λ p q o y. not_right _ _ _ (told_right t x k ws at (Seq p q) p q rest refl o y a None (first_told t x k (Seq p q) p q rest refl o y) right))
                  (λ p q o y. not_right _ _ _ (told_right t x k ws at (Par p q) p q rest refl o y a None (first_told t x k (Par p q) p q rest refl o y) right)) T o (word T rest y) y;
            }

        pub found_operator : (b m : Measured) → Found roots s ws a.next.at (Some b) → m.next ≡ b.next → m.counts ≡ operator_counts w a.counts b.counts → Found roots s ws at (then_some (few_counts m.counts) m)
        unfolding operator_counts process all_few
        found_operator b m right n d =
            let i = place in
            let l = left.within in
            let r = right.within in
            let z = ap (λ (x : Cursor). x.at) n in
            record {
              within = within_if ws at m (few_counts m.counts) (record { small = rw d (operator_small w a.counts b.counts); on = omega arith; end = omega arith });
              right = λ t x k T rest o y.
                  operator (λ (T : Term). w ≡ first T → drop at ws ≡ words T ++ rest → ToldIf t T at (then_some (few_counts m.counts) m)) t x
                  (λ p q o v y.
                  let g = first_told t x k (Seq p q) p q rest refl o y in
                  let h : Told t q a.next.at b = told_right t x k ws at (Seq p q) p q rest refl o y a (Some b) g right in
                  told_operator t (Seq p q) at m p q a b g h (told_size t x k ws at (Seq p q) p q rest refl o y) refl n (d ∙ rw (v, g.counts, h.counts) (counts_seq (process t p) (process t q) q)))
                  (λ p q o v y.
                  let g = first_told t x k (Par p q) p q rest refl o y in
                  let h : Told t q a.next.at b = told_right t x k ws at (Par p q) p q rest refl o y a (Some b) g right in
                  told_operator t (Par p q) at m p q a b g h (told_size t x k ws at (Par p q) p q rest refl o y) refl n (d ∙ rw (v, g.counts, h.counts) (counts_par (process t p) p (process t q) q)))
                  T o (word T rest y) (word T rest y) y;
            }
