-- The ascending pass: marks show what lower nodes name.
-- Assumes nothing.
use Prim.Native.Nat.{ℕ, ◌+◌, ◌<◌}
use mathlib.Core.Bool.{Bool, true, false, not, ◌&&◌, ◌||◌, or_comm}
use mathlib.Core.Path.{◌≡◌, refl, sym, ap, ap₂, ◌∙◌}
use mathlib.Core.List.{List}
use native.Mathlib.Omega.{arith}
use lib.Dec.{eqb}
use lib.ListN.{length, set, length-set}
use Rattle.std.specs.Bool.{then_some}
use Rattle.basis.specs.KeySets.{has, plus_if}
use Rattle.basis.proofs.KeySets.{has_plus}
use Rattle.basis.proofs.Numbers.{some_more, some_none}
use Rattle.basis.proofs.Tests.{and_right, and_when, or_right, is_false}
use Rattle.table.specs.Tables.{Table, p_at, q_at}
use Rattle.table.specs.Nodes.{fitting, left_node, right_node, names, inner, named, names_again, bad_node}
use Rattle.table.specs.Marks.{named_bit, marking, is_marked, changed, Shows, TwoMarks}
use Rattle.table.proofs.Operands.{left_lower, right_lower, names_lower}
use Rattle.table.proofs.Promises.{not_bad}
use Rattle.table.proofs.Marking.{marked_if, shows_next, once_is, twice_is}

-- two tests that are the same by their tables
again_test : (i l r a b e : Bool) → (((i && l) && a) || ((i && r) && (((i && l) && e) || b))) ≡ (i && ((l && a) || ((r && b) || (l && (r && e)))))
again_test false l r a b e = refl
again_test true false false a b e = refl
again_test true false true a b e = or_comm false b
again_test true true false a b e = refl
again_test true true true a b e = ap (λ (c : Bool). a || c) (or_comm e b)

gives : (j w : ℕ) → has (marking false false w) j ≡ (eqb named_bit j || has w j)
unfolding plus_if
gives j w = has_plus w named_bit j

module _ (t : Table) where
  named_more : (n m : ℕ) → named t (n + 1) m ≡ ((inner t n && names t n m) || named t n m)
  unfolding named
  named_more n m = some_more (λ (k : ℕ). inner t k && names t k m) n ∙ or_comm (named t n m) (inner t n && names t n m)

  -- lower nodes do not name a node
  pub named_self : (n : ℕ) → ((k : ℕ) → k < n → bad_node t k ≡ false) → named t n n ≡ false
  unfolding named
  named_self n f =
      some_none (λ (k : ℕ). inner t k && names t k n) n
      (λ k h. is_false (inner t k && names t k n) (λ e. omega (arith, names_lower t k (not_bad t k (f k h)).0 n (and_right (inner t k) (names t k n) e))))

  pub bad_unfit : (n : ℕ) → fitting t n ≡ false → bad_node t n ≡ true
  unfolding bad_node
  bad_unfit n e = rw (bad_node, e)

  pub bad_fit : (n : ℕ) → fitting t n ≡ true → bad_node t n ≡ names_again t n
  unfolding bad_node
  bad_fit n e = rw (bad_node, e)

  pub bad_again : (n : ℕ) → names_again t n ≡ true → bad_node t n ≡ true
  unfolding bad_node
  bad_again n e = or_right (not (fitting t n)) (names_again t n) e

  -- the words when the nodes below i have had their turns
  pub record Turned (words : List ℕ) (i : ℕ) : Type 0 where
    pub names : Shows words named_bit i (named t i)

  -- a turn: node i's word is written, and what it names is marked
  module _ {words after : List ℕ} {i : ℕ} {r : Bool} (w : ℕ) (before : Turned words i) (fine : (k : ℕ) → k < i → bad_node t k ≡ false) (inside : i < length words)
      (good : fitting t i ≡ true) (d : has w named_bit ≡ false)
      (m : TwoMarks false false (set words i w) after (then_some (inner t i && left_node t i) (p_at t i)) (then_some (inner t i && right_node t i) (q_at t i)) r) where
    abbrev written : List ℕ
    written = set words i w

    small : i < length written
    small = simp length-set inside

    h : Shows written named_bit (i + 1) (named t i)
    h =
        shows_next words named_bit i w (named t i) inside before.names
        (d ∙ sym (named_self i fine))

    abbrev I : Bool
    I = inner t i

    abbrev L : Bool
    L = left_node t i

    abbrev R : Bool
    R = right_node t i

    abbrev p : ℕ
    p = p_at t i

    abbrev q : ℕ
    q = q_at t i

    abbrev once : List ℕ
    once = changed (marking false false) written (then_some (I && L) p)

    -- the marks tell whether a second naming is made
    again_is : r ≡ names_again t i
    unfolding names_again
    again_is =
        m.is
        ∙ ap₂ (λ (a b : Bool). a || b) (marked_if written named_bit (I && L) p) (marked_if once named_bit (I && R) q)
        ∙ ap (λ (b : Bool). b || ((I && R) && is_marked once named_bit q))
        (and_when (I && L) (is_marked written named_bit p) (named t i p) (λ e. h p (omega (arith, left_lower t i good (and_right I L e)))))
        ∙ ap (λ (b : Bool). ((I && L) && named t i p) || b)
        (and_when (I && R) (is_marked once named_bit q) (((I && L) && eqb p q) || named t i q)
        (λ e.
        once_is t (marking false false) written i I small good m.leaves named_bit true (gives named_bit) q
        ∙ ap (λ (b : Bool). ((I && L) && eqb p q) || b) (h q (omega (arith, right_lower t i good (and_right I R e))))))
        ∙ again_test I L R (named t i p) (named t i q) (eqb p q)

    pub bad_is : r ≡ bad_node t i
    bad_is = again_is ∙ sym (bad_fit i good)

    -- what the marks give
    pub twice : (j k : ℕ) → is_marked after j k ≡ ((eqb named_bit j && (I && names t i k)) || is_marked written j k)
    twice j = twice_is t (marking false false) written i I small good m.leaves j (eqb named_bit j) (gives j)

    -- and the words show one node more
    pub turned_more : Turned after (i + 1)
    turned_more = record { names = λ k g. twice named_bit k ∙ ap (λ (b : Bool). (I && names t i k) || b) (h k g) ∙ sym (named_more i k) }
