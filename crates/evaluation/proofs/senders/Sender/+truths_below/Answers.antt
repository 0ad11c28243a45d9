-- `Sender::truths_below` meets its contract. The measure is the limit: a call's limit is the node, which is below it.
-- Assumes nothing.
use mathlib.Core.Path.{sym, ◌∙◌}
use Rattle.evaluation.proofs.Steps.{truth_out, truth_true, truth_comparison, truth_node, truth_not}
use Rattle.evaluation.proofs.Sets.{found_same, found_none, found_all}
use Rattle.evaluation.proofs.senders.Sender.+truths_below.Goals as goal

-- what it is given at the measure t, and what it may use of its callees: of itself, below t
pub returns-then-limit-node : goal.returns-then-limit-node
returns-then-limit-node t c = found_none (λ y. truth_out _ _ _ _ _ _ c.if-limit-node.true)

pub returns-then-kind-eq-TRUE : goal.returns-then-kind-eq-TRUE
returns-then-kind-eq-TRUE t c = found_all (λ y. truth_true _ _ _ _ _ _ c.if-limit-node.false (sym c.kind_at-kind.ensures ∙ c.if-kind-eq-TRUE.true))

pub returns-then-kind-lt-NOT : goal.returns-then-kind-lt-NOT
returns-then-kind-lt-NOT t c =
    found_same (λ y. truth_comparison _ _ _ _ _ _ c.if-limit-node.false
    (rw c.kind_at-kind.ensures at c.if-kind-eq-TRUE.false) (rw c.kind_at-kind.ensures at c.if-kind-lt-NOT.true)) c.compare_all.ensures

pub returns-then-kind-eq-NOT : goal.returns-then-kind-eq-NOT
returns-then-kind-eq-NOT t c =
    let a = c.truths_below-a.ensures in
    found_same (λ y. truth_not _ _ _ _ _ _ c.if-limit-node.false (sym c.kind_at-kind.ensures ∙ c.if-kind-eq-NOT.true) c.p_at.ensures.is)
    (rw c.kind_at-kind.ensures at (c.connect_all.ensures _ _ _ a a))

pub returns : goal.returns
returns t c =
    found_same (λ y. truth_node _ _ _ _ _ _ c.if-limit-node.false (rw c.kind_at-kind.ensures at c.if-kind-lt-NOT.false) c.p_at.ensures.is c.q_at.ensures.is)
    (rw c.kind_at-kind.ensures at (c.connect_all-2.ensures _ _ _ c.truths_below-a.ensures c.truths_below-b.ensures))
