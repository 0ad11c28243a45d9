-- What the node below a limit comes to, by its kind.
-- Assumes nothing.
use Prim.Native.Nat.{ℕ, ◌<◌, ◌≤◌}
use mathlib.Core.Path.{◌≡◌, refl, ◌∙◌}
use mathlib.Core.Bool.{true}
use mathlib.Core.List.{List}
use native.Mathlib.Omega.{arith}
use borrow.Author.Tests.{ne_eqb, lt-ltb, le-ltb}
use Rattle.basis.proofs.Below.{below_out, below_at}
use Rattle.value.specs.Values.{Value}
use Rattle.std.specs.Prelude.{None}
use Rattle.value.specs.declared.Truth.{Truth}
use Rattle.value.specs.Truths.{truth, undefined, compare_values, connect}
use Rattle.table.specs.Tables.{Table, kind_at, p_at, q_at}
use Rattle.state.specs.Evaluation.{value_step, truth_step}
use Rattle.state.specs.Walks.{value_below, truth_below}
use Rattle.evaluation.specs.Sets.{comparison}

module _ (t : Table) (s : List ℕ) (x y limit n : ℕ) where
  -- VALUES
  pub value_out : limit ≤ n → value_below t s x y limit n ≡ None
  value_out h = below_out (value_step t s x y) None limit n h

  pub value_at_lem : n < limit → value_below t s x y limit n ≡ value_step t s x y (value_below t s x y n) n
  value_at_lem h = below_at (value_step t s x y) None limit n h

  -- GUARDS
  pub truth_out : limit ≤ n → truth_below t s x y limit n ≡ undefined
  truth_out h = below_out (truth_step t s x y) undefined limit n h

  module _ (h : n < limit) where
    truth_at : truth_below t s x y limit n ≡ truth_step t s x y (truth_below t s x y n) n
    truth_at = below_at (truth_step t s x y) undefined limit n h

    pub truth_true : kind_at t n ≡ 16 → truth_below t s x y limit n ≡ truth true true
    unfolding truth_step
    truth_true e = truth_at ∙ rw e

    pub truth_comparison : (kind_at t n ≡ 16 → ⊥) → kind_at t n < 20 → truth_below t s x y limit n ≡ comparison t s x y n
    unfolding truth_step
    truth_comparison d l = truth_at ∙ rw (ne_eqb (kind_at t n) 16 d, lt-ltb (kind_at t n) 20 l)

    -- a connective, of the parts that code finds
    pub truth_node : {p q : ℕ} → 20 ≤ kind_at t n → p ≡ p_at t n → q ≡ q_at t n → truth_below t s x y limit n ≡ connect (kind_at t n) (truth_below t s x y n p) (truth_below t s x y n q)
    unfolding truth_step
    truth_node l d e = truth_at ∙ rw (ne_eqb (kind_at t n) 16 (λ f. omega arith), le-ltb (kind_at t n) 20 l, ← d, ← e)

    -- a negation has one part
    pub truth_not : {p : ℕ} → kind_at t n ≡ 20 → p ≡ p_at t n → truth_below t s x y limit n ≡ connect (kind_at t n) (truth_below t s x y n p) (truth_below t s x y n p)
    truth_not e d = truth_node (omega arith) d refl ∙ rw e

-- a comparison of what code finds of its parts
pub comparison_found : (t : Table) (s : List ℕ) (x y n : ℕ) {l p q : ℕ} {a b : Value} {r : Truth} → t.sizes.nodes ≡ l → p ≡ p_at t n → q ≡ q_at t n
    → a ≡ value_below t s x y l p → b ≡ value_below t s x y l q → r ≡ compare_values (kind_at t n) a b → r ≡ comparison t s x y n
comparison_found t s x y n e d f first second is = is ∙ rw (first, second, d, f, ← e)
