-- K⟦·⟧: the stigmergy keys that a node reads are those of the expression or the guard that it stands for, over a sound table.
-- Assumes nothing.
use Prim.Native.Nat.{ℕ, zero, suc, ◌+◌, ◌<◌, ◌≤◌}
use mathlib.Core.Bool.{Bool, true, false, ◌&&◌, ◌||◌, or-false}
use mathlib.Core.Path.{◌≡◌, refl, sym, ap, ap₂, subst, ◌∙◌}
use mathlib.Core.Logic.{⊎_elim}
use native.Mathlib.Omega.{arith}
use lib.Dec.{eqb, leb}
use borrow.Author.Tests.{lt-ltb, ne_eqb, leb-true}
use Rattle.basis.specs.Below.{below}
use Rattle.basis.proofs.Below.{below_at, below_same}
use Rattle.basis.proofs.Tests.{and_left, and_right, and_when, same_or_other}
use Rattle.table.specs.declared.Fields.{Fields}
use Rattle.table.specs.Tables.{Table, kind_at, p_at, q_at, constant_at, first_root}
use Rattle.table.specs.Nodes.{guard_rows, expression_rows, row_of, fields_of, fields_at, is_node, is_guard, is_expression, left_node, right_node}
use Rattle.table.specs.Sound.{Sound}
use Rattle.table.proofs.Operands.{left_lower, right_lower}
use Rattle.table.proofs.Promises.{inner_fields, all_fit, guard_inner, expression_inner, not_operands, and_operands, or_operands, comparison_operands, arithmetic_operands}
use Rattle.state.specs.Evaluation.{reads_step, reads}
use Rattle.labs.specs.Expressions.{Expr, value, attribute, stigmergy, environment, operation, Guard, truly, comparison, negation, conjunction, disjunction}
use Rattle.labs.specs.Expressions.{K⟦◌⟧, K⟦◌⟧ᵇ, no_expr, expr_step, expr_of, guard_step, guard_of}

-- of the n numbers from a on
abbrev Range : (ℕ → Type 0) → ℕ → ℕ → Type 0
Range P a zero = Unit {0}
Range P a (suc n) = P a × Range P (suc a) n

range_at : (P : ℕ → Type 0) (a n : ℕ) → Range P a n → (k : ℕ) → a ≤ k → k < a + n → P k
range_at P a zero e k h l = absurd (omega arith)
range_at P a (suc n) e k h l =
    ⊎_elim (λ (i : a ≡ k). subst P i e.0) (λ (d : a ≡ k → ⊥). range_at P (suc a) n e.1 k (omega arith) (omega arith)) (same_or_other a k)

module _ (t : Table) (sound : Sound t) where
  abbrev N : ℕ
  N = t.sizes.nodes

  abbrev nothing : ℕ → Bool
  nothing k = false

  fields_of_lem : (n k : ℕ) → n < first_root t → kind_at t n ≡ k → fields_at t n ≡ fields_of k
  fields_of_lem n k h e = inner_fields t n h ∙ ap fields_of e

  -- what node n of kind k reads
  reads_kind : (n k x : ℕ) → n < first_root t → kind_at t n ≡ k
      → reads t n x ≡ ((eqb k 34 && eqb (p_at t n) x) || ((is_node (fields_of k).p && reads t (p_at t n) x) || (is_node (fields_of k).q && reads t (q_at t n) x)))
  unfolding reads_step
  reads_kind n k x h e =
      ap (λ (f : ℕ → Bool). f x) (below_at (reads_step t) nothing N n i)
      ∙ ap₂ (λ (a b : Bool). (eqb (kind_at t n) 34 && eqb (p_at t n) x) || (a || b))
      (and_when (left_node t n) (lower (p_at t n) x) (reads t (p_at t n) x) (λ l. same (p_at t n) (left_lower t n (all_fit t sound n i) l)))
      (and_when (right_node t n) (lower (q_at t n) x) (reads t (q_at t n) x) (λ l. same (q_at t n) (right_lower t n (all_fit t sound n i) l)))
      ∙ ap₂ (λ (j : ℕ) (f : Fields). (eqb j 34 && eqb (p_at t n) x) || ((is_node f.p && reads t (p_at t n) x) || (is_node f.q && reads t (q_at t n) x))) e (fields_of_lem n k h e)
    where
      i : n < N
      i = omega arith

      lower : ℕ → ℕ → Bool
      lower = below (reads_step t) nothing n

      same : (m : ℕ) → m < n → lower m x ≡ reads t m x
      same m l = ap (λ (f : ℕ → Bool). f x) (below_same (reads_step t) nothing n N m l (omega arith))

  -- a node of another kind than a stigmergy key that names two
  reads_two : (n k x : ℕ) → n < first_root t → kind_at t n ≡ k → eqb k 34 ≡ false → is_node (fields_of k).p ≡ true → is_node (fields_of k).q ≡ true
      → reads t n x ≡ (reads t (p_at t n) x || reads t (q_at t n) x)
  reads_two n k x h e a b c = reads_kind n k x h e ∙ rw (a, b, c)

  kind_bounds : (n a b : ℕ) → (leb a (kind_at t n) && leb (kind_at t n) b) ≡ true → (a ≤ kind_at t n) × (kind_at t n ≤ b)
  kind_bounds n a b e =
      let k = kind_at t n in
      (leb-true a k (and_left (leb a k) (leb k b) e), leb-true k b (and_right (leb a k) (leb k b) e))

  abbrev Keys : ℕ → ℕ → Type 0
  Keys x n = is_expression (kind_at t n) ≡ true → reads t n x ≡ K⟦ expr_of t n ⟧ x

  abbrev OfKind : ℕ → ℕ → ℕ → Type 0
  OfKind n x k = kind_at t n ≡ k → reads t n x ≡ K⟦ expr_of t n ⟧ x

  -- an expression, where the lower ones have it
  module _ (n x : ℕ) (lower : (m : ℕ) → m < n → Keys x m) (h : n < first_root t) where
    expr_step_lem : expr_of t n ≡ expr_step t (below (expr_step t) no_expr n) n
    expr_step_lem = below_at (expr_step t) no_expr N n (omega arith)

    stands : (f : Expr) → expr_step t (below (expr_step t) no_expr n) n ≡ f → reads t n x ≡ K⟦ f ⟧ x → reads t n x ≡ K⟦ expr_of t n ⟧ x
    stands f p q = q ∙ ap (λ (g : Expr). K⟦ g ⟧ x) (sym (expr_step_lem ∙ p))

    operates : (k : ℕ) → 36 ≤ k → k ≤ 40 → is_node (fields_of k).p ≡ true → is_node (fields_of k).q ≡ true → OfKind n x k
    unfolding expr_step
    operates k l m a b e =
        let w = arithmetic_operands t sound n (omega arith) (omega arith) in
        let p = p_at t n in
        let q = q_at t n in
        stands (operation k (expr_of t p) (expr_of t q))
        (rw (e, ne_eqb k 32 (omega arith), ne_eqb k 33 (omega arith), ne_eqb k 34 (omega arith), ne_eqb k 35 (omega arith))
        (ap₂ (operation k) (below_same (expr_step t) no_expr n N p w.0.0 (omega arith)) (below_same (expr_step t) no_expr n N q w.1.0 (omega arith))))
        (reads_two n k x h e (ne_eqb k 34 (omega arith)) a b ∙ ap₂ (λ c d. c || d) (lower p w.0.0 w.0.1) (lower q w.1.0 w.1.1))

    expression_cases : Range (OfKind n x) 32 9
    unfolding expr_step row_of expression_rows
    expression_cases = (
      λ e. stands (value (constant_at t n)) (rw (expr_step, e)) (reads_kind n 32 x h e),
      (
        λ e. stands (attribute (p_at t n) (q_at t n)) (rw (expr_step, e)) (reads_kind n 33 x h e),
        (
          λ e. stands (stigmergy (p_at t n) (q_at t n)) (rw (expr_step, e)) (reads_kind n 34 x h e ∙ or-false (eqb (p_at t n) x)),
          (
            λ e. stands (environment (p_at t n)) (rw (expr_step, e)) (reads_kind n 35 x h e),
            (
              operates 36 (omega arith) (omega arith) refl refl,
              (
                operates 37 (omega arith) (omega arith) refl refl,
                (operates 38 (omega arith) (omega arith) refl refl, (operates 39 (omega arith) (omega arith) refl refl, (operates 40 (omega arith) (omega arith) refl refl, tt))),
              ),
            ),
          ),
        ),
      ),
    )

  -- b bounds the number that falls
  keys_below : (x b n : ℕ) → n < b → Keys x n
  keys_below x zero n l e = absurd (omega arith)
  keys_below x (suc b) n l e =
      let w = kind_bounds n 32 40 e in
      range_at (OfKind n x) 32 9
      (expression_cases n x (λ m i. keys_below x b m (omega arith)) (expression_inner t sound n e)) (kind_at t n) w.0 (omega arith) refl

  pub expression_keys : (n x : ℕ) → is_expression (kind_at t n) ≡ true → reads t n x ≡ K⟦ expr_of t n ⟧ x
  expression_keys n x = keys_below x (suc n) n (omega arith)

  abbrev GuardKeys : ℕ → ℕ → Type 0
  GuardKeys x n = is_guard (kind_at t n) ≡ true → reads t n x ≡ K⟦ guard_of t n ⟧ᵇ x

  abbrev GuardOfKind : ℕ → ℕ → ℕ → Type 0
  GuardOfKind n x k = kind_at t n ≡ k → reads t n x ≡ K⟦ guard_of t n ⟧ᵇ x

  -- a guard, where the lower ones have it
  module _ (n x : ℕ) (lower : (m : ℕ) → m < n → GuardKeys x m) (h : n < first_root t) where
    abbrev no_guard : Guard
    no_guard = comparison 0 no_expr no_expr

    abbrev p : ℕ
    p = p_at t n

    abbrev q : ℕ
    q = q_at t n

    guard_stands : (f : Guard) → guard_step t (below (guard_step t) no_guard n) n ≡ f → reads t n x ≡ K⟦ f ⟧ᵇ x → reads t n x ≡ K⟦ guard_of t n ⟧ᵇ x
    guard_stands f a b = b ∙ ap (λ (g : Guard). K⟦ g ⟧ᵇ x) (sym (below_at (guard_step t) no_guard N n (omega arith) ∙ a))

    guard_same : (m : ℕ) → m < n → below (guard_step t) no_guard n m ≡ guard_of t m
    guard_same m l = below_same (guard_step t) no_guard n N m l (omega arith)

    compares : (k : ℕ) → 17 ≤ k → k ≤ 19 → is_node (fields_of k).p ≡ true → is_node (fields_of k).q ≡ true → GuardOfKind n x k
    unfolding guard_step
    compares k l m a b e =
        let w = comparison_operands t sound n (omega arith) (omega arith) in
        guard_stands (comparison k (expr_of t p) (expr_of t q))
        (rw (guard_step, e, ne_eqb k 16 (omega arith), lt-ltb k 20 (omega arith)))
        (reads_two n k x h e (ne_eqb k 34 (omega arith)) a b ∙ ap₂ (λ c d. c || d) (expression_keys p x w.0.1) (expression_keys q x w.1.1))

    guard_cases : Range (GuardOfKind n x) 16 7
    unfolding guard_step row_of guard_rows
    guard_cases = (
      λ e. guard_stands truly (rw (guard_step, e)) (reads_kind n 16 x h e),
      (
        compares 17 (omega arith) (omega arith) refl refl,
        (
          compares 18 (omega arith) (omega arith) refl refl,
          (
            compares 19 (omega arith) (omega arith) refl refl,
            (
              λ e. let w = not_operands t sound n e in
                  guard_stands (negation (guard_of t p)) (rw (guard_step, e, guard_same p w.0.0)) (reads_kind n 20 x h e ∙ or-false (reads t p x) ∙ lower p w.0.0 w.0.1),
              (
                λ e. let w = and_operands t sound n e in
                    guard_stands (conjunction (guard_of t p) (guard_of t q)) (rw (guard_step, e, guard_same p w.0.0, guard_same q w.1.0))
                    (reads_two n 21 x h e refl refl refl ∙ ap₂ (λ c d. c || d) (lower p w.0.0 w.0.1) (lower q w.1.0 w.1.1)),
                (
                  λ e. let w = or_operands t sound n e in
                      guard_stands (disjunction (guard_of t p) (guard_of t q)) (rw (guard_step, e, guard_same p w.0.0, guard_same q w.1.0))
                      (reads_two n 22 x h e refl refl refl ∙ ap₂ (λ c d. c || d) (lower p w.0.0 w.0.1) (lower q w.1.0 w.1.1)),
                  tt,
                ),
              ),
            ),
          ),
        ),
      ),
    )

  guards_below : (x b n : ℕ) → n < b → GuardKeys x n
  guards_below x zero n l e = absurd (omega arith)
  guards_below x (suc b) n l e =
      let w = kind_bounds n 16 22 e in
      range_at (GuardOfKind n x) 16 7
      (guard_cases n x (λ m i. guards_below x b m (omega arith)) (guard_inner t sound n e)) (kind_at t n) w.0 (omega arith) refl

  pub guard_keys_lem : (n x : ℕ) → is_guard (kind_at t n) ≡ true → reads t n x ≡ K⟦ guard_of t n ⟧ᵇ x
  guard_keys_lem n x = guards_below x (suc n) n (omega arith)
