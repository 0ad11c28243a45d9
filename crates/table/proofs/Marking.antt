-- Laws of marks, and of what is found of a node.
-- Assumes nothing.
use Prim.Native.Nat.{ℕ, ◌+◌, ◌<◌, ◌≤◌}
use mathlib.Core.Bool.{Bool, true, false, ◌&&◌, ◌||◌, and-true, and-false, or-false, or-true}
use mathlib.Core.Path.{◌≡◌, refl, sym, ap, ◌∙◌}
use mathlib.Core.List.{List}
use native.Mathlib.Omega.{arith}
use lib.Dec.{eqb}
use lib.ListN.{length, get_or, set, length-set}
use lib.Seq.{get_or-set_same, get_or-set_other}
use borrow.Author.Count.{below_more}
use borrow.Author.Tests.{eqb-true, eqb-false}
use Rattle.std.specs.Prelude.{Option, Some, None, IfSome}
use Rattle.std.specs.Bool.{then_some}
use Rattle.basis.specs.KeySets.{has}
use Rattle.basis.proofs.KeySets.{has_plus_if, has_nothing}
use Rattle.basis.proofs.Tests.{and_right}
use Rattle.table.specs.declared.Fields.{Fields}
use Rattle.table.specs.declared.Look.{Look}
use Rattle.table.specs.Tables.{Table, p_at, q_at}
use Rattle.table.specs.Nodes.{fields_at, is_node, fits, fitting, left_node, right_node, names}
use Rattle.table.specs.Reach.{process_node, link_root}
use Rattle.table.specs.Marks.{left_bit, right_bit, process_bit, link_bit, first_word, is_marked, has_marked, changed, Shows, Shown, TwoMarks, Looked}
use Rattle.table.proofs.Operands.{left_lower, right_lower}

pub length_changed : (change : ℕ → ℕ) (words : List ℕ) (node : Option ℕ) → length (changed change words node) ≡ length words
length_changed change words None = refl
length_changed change words (Some x) = simp length-set

pub marked_if : (words : List ℕ) (bit : ℕ) (on : Bool) (x : ℕ) → has_marked words bit (then_some on x) ≡ (on && is_marked words bit x)
marked_if words bit true x = refl
marked_if words bit false x = refl

pub below_if : {n : ℕ} (on : Bool) (x : ℕ) → (on ≡ true → x < n) → IfSome (then_some on x) (λ y. y < n)
below_if true x h = h refl
below_if false x h = tt {0}

-- a bit of every word after a change which gives it where d holds
module _ (change : ℕ → ℕ) (j : ℕ) (d : Bool) (gives : (w : ℕ) → has (change w) j ≡ (d || has w j)) where
  pub changed_is : (words : List ℕ) (on : Bool) (x : ℕ) → (on ≡ true → x < length words) → (m : ℕ)
      → is_marked (changed change words (then_some on x)) j m ≡ ((d && (on && eqb x m)) || is_marked words j m)
  changed_is words false x l m = rw (and-false d)
  changed_is words true x l m = by (eqb x m) refl
    where
      new : ℕ
      new = change (get_or words x 0)

      by : (b : Bool) → eqb x m ≡ b → is_marked (set words x new) j m ≡ ((d && b) || is_marked words j m)
      by true e = rw (← eqb-true x m e, and-true d, get_or-set_same words x new 0 (l refl)) (gives (get_or words x 0))
      by false e = rw (and-false d, get_or-set_other words x m new 0 (λ (g : m ≡ x). eqb-false x m e (sym g)))

-- one word more shows one node more
pub shows_next : (words : List ℕ) (bit i w : ℕ) (test : ℕ → Bool) → i < length words → Shows words bit i test → has w bit ≡ test i
    → Shows (set words i w) bit (i + 1) test
shows_next words bit i w test l h e =
    below_more (λ (k : ℕ). is_marked (set words i w) bit k ≡ test k) i (λ k g. rw (get_or-set_other words i k w 0 (omega arith)) (h k g))
    (rw (get_or-set_same words i w 0 l) e)

-- two marks that a node makes for the nodes that it names, where it may
marking_test : (b i l r e f v : Bool) → ((b && ((i && r) && f)) || ((b && ((i && l) && e)) || v)) ≡ ((b && (i && ((l && e) || (r && f)))) || v)
marking_test false i l r e f v = refl
marking_test true false l r e f v = refl
marking_test true true l r e f v = by (l && e) (r && f)
  where
    by : (x y : Bool) → (y || (x || v)) ≡ ((x || y) || v)
    by true y = or-true y
    by false y = refl

-- the bits of a word before anything is handed on
module _ (left right process link : Bool) where
  abbrev first : ℕ
  first = first_word left right process link

  pub first_left : has first left_bit ≡ left
  first_left = simp (has_plus_if, has_nothing) (or-false left)

  pub first_right : has first right_bit ≡ right
  first_right = simp (has_plus_if, has_nothing) (or-false right)

  pub first_process : has first process_bit ≡ process
  first_process = simp (has_plus_if, has_nothing) (or-false process)

  pub first_link : has first link_bit ≡ link
  first_link = simp (has_plus_if, has_nothing) (or-false link)

module _ (t : Table) where
  pub shown_next : (words : List ℕ) (i : ℕ) {w : ℕ} → i < length words → Shown t words i
      → w ≡ first_word (left_node t i) (right_node t i) (process_node t i) (link_root t i) → Shown t (set words i w) (i + 1)
  shown_next words i l s d =
      record {
        left = shows_next words _ i _ _ l s.left (rw d (first_left L R P K));
        right = shows_next words _ i _ _ l s.right (rw d (first_right L R P K));
        process = shows_next words _ i _ _ l s.process (rw d (first_process L R P K));
        link = shows_next words _ i _ _ l s.link (rw d (first_link L R P K));
      }
    where
      L : Bool
      L = left_node t i

      R : Bool
      R = right_node t i

      P : Bool
      P = process_node t i

      K : Bool
      K = link_root t i

  pub looked : {n : ℕ} {f : Fields} {p q : ℕ}
      → f ≡ fields_at t n → p ≡ p_at t n → q ≡ q_at t n → fits t n f.p p ≡ true → fits t n f.q q ≡ true
      → Looked t n (record { left = then_some (is_node f.p) p; right = then_some (is_node f.q) q })
  unfolding fitting
  looked ef ep eq ea eb =
      record {
        fit = rw (fitting, ← ep, ← eq, ← ef, ea, eb);
        left = rw (ef, ep);
        right = rw (ef, eq);
      }

  -- what is found of a node that fits says which marks it makes, and they are of lower nodes
  module _ {i : ℕ} {l : Look} (k : Looked t i l) where
    pub marks_found : {words after : List ℕ} {s : Bool} (process link : Bool) {e f : Bool} → e ≡ process → f ≡ link
        → TwoMarks e f words after l.left l.right s
        → TwoMarks process link words after (then_some (left_node t i) (p_at t i)) (then_some (right_node t i) (q_at t i)) s
    marks_found process link e f m = rw (e, f, k.left, k.right) at m

    -- where it may make them, and where it may not
    pub marks_when : {words after : List ℕ} {s : Bool} (process link on : Bool) → on ≡ true → TwoMarks process link words after l.left l.right s
        → TwoMarks process link words after (then_some (on && left_node t i) (p_at t i)) (then_some (on && right_node t i) (q_at t i)) s
    marks_when process link on e m = rw e (marks_found process link refl refl m)

    pub marks_not : (words : List ℕ) (process link on : Bool) → on ≡ false
        → TwoMarks process link words words (then_some (on && left_node t i) (p_at t i)) (then_some (on && right_node t i) (q_at t i)) false
    marks_not words process link on e = rw e (record { is = refl; leaves = refl })

    pub marks_left : {n : ℕ} → i ≤ n → IfSome l.left (λ x. x < n)
    marks_left h = rw k.left (below_if (left_node t i) (p_at t i) (λ e. omega (arith, left_lower t i k.fit e)))

    pub marks_right : {n : ℕ} → i ≤ n → IfSome l.right (λ x. x < n)
    marks_right h = rw k.right (below_if (right_node t i) (q_at t i) (λ e. omega (arith, right_lower t i k.fit e)))

  -- the words after node i has changed those of the nodes that it names
  module _ (change : ℕ → ℕ) (words : List ℕ) {after : List ℕ} (i : ℕ) (on : Bool) (small : i < length words) (good : fitting t i ≡ true)
      (e : after ≡ changed change (changed change words (then_some (on && left_node t i) (p_at t i))) (then_some (on && right_node t i) (q_at t i)))
      (j : ℕ) (d : Bool) (gives : (w : ℕ) → has (change w) j ≡ (d || has w j)) where
    abbrev once : List ℕ
    once = changed change words (then_some (on && left_node t i) (p_at t i))

    pub once_is : (k : ℕ) → is_marked once j k ≡ ((d && ((on && left_node t i) && eqb (p_at t i) k)) || is_marked words j k)
    once_is = changed_is change j d gives words (on && left_node t i) (p_at t i) (λ e. omega (arith, left_lower t i good (and_right on (left_node t i) e)))

    pub twice_is : (k : ℕ) → is_marked after j k ≡ ((d && (on && names t i k)) || is_marked words j k)
    twice_is k =
        ap (λ (ws : List ℕ). is_marked ws j k) e
        ∙ changed_is change j d gives once (on && right_node t i) (q_at t i)
        (λ e. omega (arith, length_changed change words (then_some (on && left_node t i) (p_at t i)), right_lower t i good (and_right on (right_node t i) e))) k
        ∙ ap (λ (b : Bool). (d && ((on && right_node t i) && eqb (q_at t i) k)) || b) (once_is k)
        ∙ marking_test d on (left_node t i) (right_node t i) (eqb (p_at t i) k) (eqb (q_at t i) k) (is_marked words j k)
