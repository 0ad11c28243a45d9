-- The ascending pass: nodes are told what the nodes reach that they name, so that no second pass is needed where no key is wrong.
-- Assumes nothing.
use Prim.Native.Nat.{ℕ, zero, suc, ◌+◌, ◌<◌}
use mathlib.Core.Bool.{Bool, true, false, not, ◌&&◌, ◌||◌, or-false}
use mathlib.Core.Path.{◌≡◌, refl, sym, ap, subst, ◌∙◌}
use mathlib.Core.Logic.{◌⊎◌, ⊎_elim}
use mathlib.Core.List.{List}
use native.Mathlib.Omega.{arith}
use lib.Bits.{bit_or}
use lib.Dec.{eqb}
use lib.ListN.{length, set}
use lib.Seq.{get_or-set_same, get_or-set_other}
use borrow.Author.Count.{below_more}
use borrow.Author.Tests.{eqb-true}
use Rattle.std.specs.Bool.{then_some}
use Rattle.basis.proofs.KeySets.{has_plus_if, has_nothing, has_both, has_either}
use Rattle.basis.proofs.Tests.{and_left, and_right, and_both, or_either, or_left, or_right, or_neither, is_false, not_both}
use Rattle.table.specs.Tables.{Table, kind_at, p_at, q_at}
use Rattle.table.specs.Nodes.{is_key_kind, fitting, left_node, right_node, names}
use Rattle.table.specs.Reach.{process_node, link_root, reaches, reached_from, wrong_here, wrong_key}
use Rattle.basis.specs.KeySets.{has, plus_if}
use Rattle.table.specs.Marks.{named_bit, not_process_bit, not_link_bit, own_bits, is_marked, word_of, risen, doubted, Looked}
use Rattle.table.specs.declared.Look.{Look}
use Rattle.table.proofs.Operands.{left_lower, right_lower, names_lower, names_left, names_right}
use Rattle.table.proofs.Reaches.{ByLeft, ByRight, reaches_how, reached_which}

module _ (t : Table) where
  -- by a bit of the words, the nodes below i are told whether they reach one that passes a test; without doubt no start does
  pub record Told (words : List ℕ) (bit : ℕ) (start test : ℕ → Bool) (i : ℕ) (doubt : Bool) : Type 0 where
    pub here : (m : ℕ) → m < i → test m ≡ true → is_marked words bit m ≡ true
    pub up : (m k : ℕ) → m < i → names t m k ≡ true → is_marked words bit k ≡ true → is_marked words bit m ≡ true
    pub clean : doubt ≡ false → (m : ℕ) → m < i → start m ≡ true → is_marked words bit m ≡ false

  module _ (bit : ℕ) (start test : ℕ → Bool) where
    -- node i is told, and the others keep the bit
    module _ (words after : List ℕ) {i : ℕ} {doubt more : Bool} (before : Told words bit start test i doubt)
        (good : (k : ℕ) → k < i + 1 → fitting t k ≡ true) (same : (k : ℕ) → k < i → is_marked after bit k ≡ is_marked words bit k)
        (new : is_marked after bit i ≡ (test i || ((left_node t i && is_marked words bit (p_at t i)) || (right_node t i && is_marked words bit (q_at t i)))))
        (sure : more ≡ false → (doubt ≡ false) × (start i ≡ true → is_marked after bit i ≡ false)) where
      abbrev L : Bool
      L = left_node t i && is_marked words bit (p_at t i)

      abbrev R : Bool
      R = right_node t i && is_marked words bit (q_at t i)

      raised : (k : ℕ) → names t i k ≡ true → is_marked words bit k ≡ true → (L || R) ≡ true
      raised k n e =
          ⊎_elim
          (λ (a : (left_node t i && eqb (p_at t i) k) ≡ true).
          or_left L R (and_both (left_node t i) _ (and_left (left_node t i) (eqb (p_at t i) k) a) (ap (is_marked words bit) (eqb-true (p_at t i) k (and_right (left_node t i) (eqb (p_at t i) k) a)) ∙ e)))
          (λ (a : (right_node t i && eqb (q_at t i) k) ≡ true).
          or_right L R (and_both (right_node t i) _ (and_left (right_node t i) (eqb (q_at t i) k) a) (ap (is_marked words bit) (eqb-true (q_at t i) k (and_right (right_node t i) (eqb (q_at t i) k) a)) ∙ e)))
          (or_either (left_node t i && eqb (p_at t i) k) (right_node t i && eqb (q_at t i) k) n)

      up_more : (m : ℕ) → m < i + 1 → (k : ℕ) → names t m k ≡ true → is_marked after bit k ≡ true → is_marked after bit m ≡ true
      up_more =
          below_more (λ (m : ℕ). (k : ℕ) → names t m k ≡ true → is_marked after bit k ≡ true → is_marked after bit m ≡ true) i
          (λ m h k n e.
          let l = names_lower t m (good m (omega arith)) k n in
          same m h ∙ before.up m k h n (sym (same k (omega arith)) ∙ e))
          (λ k n e.
          let l = names_lower t i (good i (omega arith)) k n in
          new ∙ or_right (test i) (L || R) (raised k n (sym (same k l) ∙ e)))

      pub told_more : Told after bit start test (i + 1) more
      told_more =
          record {
            here = below_more (λ (m : ℕ). test m ≡ true → is_marked after bit m ≡ true) i (λ m h e. same m h ∙ before.here m h e) (λ e. new ∙ or_left (test i) (L || R) e);
            up = λ m k h. up_more m h k;
            clean = λ d.
                below_more (λ (m : ℕ). start m ≡ true → is_marked after bit m ≡ false) i
                (λ m h e. same m h ∙ before.clean (sure d).0 m h e)
                (sure d).1;
          }

  module _ (good : (k : ℕ) → k < t.sizes.nodes → fitting t k ≡ true) {words : List ℕ} {bit : ℕ} {start test : ℕ → Bool}
      (told : Told words bit start test t.sizes.nodes false) where
    -- a node has the bit where one has it that it reaches (b bounds the number that falls)
    rises : (b n m : ℕ) → n < b → n < t.sizes.nodes → reaches t n m ≡ true → is_marked words bit m ≡ true → is_marked words bit n ≡ true
    rises zero n m l h e f = absurd (omega arith)
    rises (suc b) n m l h e f =
        ⊎_elim
        (λ (a : n ≡ m). ap (is_marked words bit) a ∙ f)
        (λ (a : ByLeft t good n m ⊎ ByRight t good n m).
        ⊎_elim
        (λ (w : ByLeft t good n m).
        let d = left_lower t n (good n h) w.0 in
        told.up n (p_at t n) h (names_left t n (p_at t n) w.0 refl) (rises b (p_at t n) m (omega arith) (omega arith) w.1 f))
        (λ (w : ByRight t good n m).
        let d = right_lower t n (good n h) w.0 in
        told.up n (q_at t n) h (names_right t n (q_at t n) w.0 refl) (rises b (q_at t n) m (omega arith) (omega arith) w.1 f))
        a)
        (reaches_how t good n m h e)

    -- nothing that passes is reached from a start
    pub none_reached : (m : ℕ) → m < t.sizes.nodes → reached_from t start m ≡ true → test m ≡ false
    none_reached m h e =
        is_false (test m)
        (λ f.
        let w = reached_which t good start m e in
        not_both (rises (suc w.0) w.0 m (omega arith) w.1 w.3 (told.here m h f)) (told.clean refl w.0 w.1 w.2))

-- what a process and what a link must not reach
wrong_test : (key a b process link : Bool) → (process ≡ true → (key && (a || false)) ≡ false) → (link ≡ true → (key && b) ≡ false)
    → (key && ((process && a) || (link && b))) ≡ false
wrong_test key a b true true f g = by key a b (f refl) (g refl)
  where
    by : (key a b : Bool) → (key && (a || false)) ≡ false → (key && b) ≡ false → (key && (a || b)) ≡ false
    by true true b e d = e
    by true false b e d = d
    by false a b e d = refl
wrong_test key a b true false f g = f refl
wrong_test key a b false true f g = g refl
wrong_test true a b false false f g = refl
wrong_test false a b false false f g = refl

pub none_wrong : (t : Table) (k : ℕ) → (reached_from t (process_node t) k ≡ true → wrong_here (kind_at t k) (q_at t k) true false ≡ false)
    → (reached_from t (link_root t) k ≡ true → wrong_here (kind_at t k) (q_at t k) false true ≡ false) → wrong_key t k ≡ false
unfolding wrong_key
none_wrong t k f g =
    wrong_test (is_key_kind (kind_at t k)) (not (eqb (q_at t k) 0)) (eqb (kind_at t k) 35 || eqb (q_at t k) 0)
    (reached_from t (process_node t) k) (reached_from t (link_root t) k) f g

-- BOTH BITS, of a process and of a link. 96 has these two
name_stays : has 96 named_bit ≡ false
unfolding has
name_stays = refl

process_rises : has 96 not_process_bit ≡ true
unfolding has
process_rises = refl

link_rises : has 96 not_link_bit ≡ true
unfolding has
link_rises = refl

-- the bits that a node has by itself
module _ (process link : Bool) where
  abbrev own : ℕ
  own = plus_if (plus_if 0 not_process_bit process) not_link_bit link

  own_named : has own named_bit ≡ false
  own_named = simp (has_plus_if, has_nothing)

  own_process : has own not_process_bit ≡ process
  own_process = simp (has_plus_if, has_nothing) (or-false process)

  own_link : has own not_link_bit ≡ link
  own_link = simp (has_plus_if, has_nothing) (or-false link)

has_word_of : (words : List ℕ) (on : Bool) (x j : ℕ) → has (word_of words (then_some on x)) j ≡ (on && is_marked words j x)
has_word_of words true x j = refl
has_word_of words false x j = has_nothing j

module _ (t : Table) where
  abbrev pub not_process : ℕ → Bool
  not_process k = wrong_here (kind_at t k) (q_at t k) true false

  abbrev pub not_link : ℕ → Bool
  not_link k = wrong_here (kind_at t k) (q_at t k) false true

  pub record Informed (words : List ℕ) (i : ℕ) (doubt : Bool) : Type 0 where
    pub process : Told t words not_process_bit (process_node t) not_process i doubt
    pub link : Told t words not_link_bit (link_root t) not_link i doubt

  -- what node i has from those that it names
  abbrev pub raised_at : List ℕ → ℕ → ℕ → Bool → Bool
  raised_at words bit i here = here || ((left_node t i && is_marked words bit (p_at t i)) || (right_node t i && is_marked words bit (q_at t i)))

  -- the word of node i: its own bits, and what rises
  abbrev pub own_at : ℕ → ℕ
  own_at i = own_bits (kind_at t i) (q_at t i)

  module _ (words : List ℕ) (i : ℕ) {w : ℕ} {l : Look} (k : Looked t i l) (d : w ≡ bit_or (own_at i) (risen words l)) where
    word_bits : (j : ℕ) → has w j ≡ (has (own_at i) j || (has 96 j && ((left_node t i && is_marked words j (p_at t i)) || (right_node t i && is_marked words j (q_at t i)))))
    word_bits j =
        ap (λ (v : ℕ). has v j) d
        ∙ has_either (own_at i) (risen words l) j
        ∙ ap (λ (b : Bool). has (own_at i) j || b)
        (has_both 96 _ j
        ∙ ap (λ (b : Bool). has 96 j && b)
        (has_either (word_of words l.left) (word_of words l.right) j
        ∙ rw (k.left, k.right, has_word_of words (left_node t i) (p_at t i) j, has_word_of words (right_node t i) (q_at t i) j)))

    pub word_unnamed : has w named_bit ≡ false
    word_unnamed = word_bits named_bit ∙ rw (name_stays, own_named (not_process i) (not_link i))

    word_high : (j : ℕ) → has 96 j ≡ true → has w j ≡ raised_at words j i (has (own_at i) j)
    word_high j e = word_bits j ∙ rw e

  module _ (words after : List ℕ) {i w : ℕ} {doubt : Bool} {l : Look} (before : Informed words i doubt) (small : i < length words)
      (good : (k : ℕ) → k < i + 1 → fitting t k ≡ true) (look : Looked t i l)
      (kept : (j k : ℕ) → eqb named_bit j ≡ false → is_marked after j k ≡ is_marked (set words i w) j k)
      (d : w ≡ bit_or (own_at i) (risen words l)) where
    same : (j k : ℕ) → eqb named_bit j ≡ false → k < i → is_marked after j k ≡ is_marked words j k
    same j k e h = kept j k e ∙ rw (get_or-set_other words i k w 0 (omega arith))

    new : (j : ℕ) → eqb named_bit j ≡ false → is_marked after j i ≡ has w j
    new j e = kept j i e ∙ rw (get_or-set_same words i w 0 small)

    -- without doubt, the word of a start lacks the bit
    lacks : (a b : Bool) → (a && b) ≡ false → a ≡ true → b ≡ false
    lacks true b e f = e
    lacks false b e f = absurd (not_both f refl)

    pub informed_more : Informed after (i + 1) (doubt || doubted (process_node t i) (link_root t i) w)
    informed_more =
        let P = process_node t i in
        let K = link_root t i in
        record {
          process = told_more t not_process_bit (process_node t) not_process words after before.process good (λ k h. same not_process_bit k refl h)
              (new not_process_bit refl ∙ word_high words i look d not_process_bit process_rises ∙ ap (raised_at words not_process_bit i) (own_process (not_process i) (not_link i)))
              (λ e.
              let a = or_neither doubt (doubted P K w) e in
              (a.0, λ f. new not_process_bit refl ∙ lacks P (has w not_process_bit) (or_neither (P && has w not_process_bit) (K && has w not_link_bit) a.1).0 f));
          link = told_more t not_link_bit (link_root t) not_link words after before.link good (λ k h. same not_link_bit k refl h)
              (new not_link_bit refl ∙ word_high words i look d not_link_bit link_rises ∙ ap (raised_at words not_link_bit i) (own_link (not_process i) (not_link i)))
              (λ e.
              let a = or_neither doubt (doubted P K w) e in
              (a.0, λ f. new not_link_bit refl ∙ lacks K (has w not_link_bit) (or_neither (P && has w not_process_bit) (K && has w not_link_bit) a.1).1 f));
        }

  pub informed_sure : (good : (k : ℕ) → k < t.sizes.nodes → fitting t k ≡ true) {words : List ℕ} {doubt : Bool} → Informed words t.sizes.nodes doubt → doubt ≡ false
      → (k : ℕ) → k < t.sizes.nodes → wrong_key t k ≡ false
  informed_sure good {words} {doubt} f e k h =
      let g = subst (Informed words t.sizes.nodes) e f in
      none_wrong t k (none_reached t good g.process k h) (none_reached t good g.link k h)
