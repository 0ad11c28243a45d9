-- `Sender::compare_all` meets its contract. Assumes nothing.
use Rattle.std.proofs.Common.{rules}
use mathlib.Core.Path.{refl}
use Rattle.evaluation.proofs.Steps.{comparison_found}
use Rattle.evaluation.proofs.Sets.{left_all, left_more, left_none}
use Rattle.evaluation.proofs.senders.Sender.compare_all.Goals as goal

pub loop-agent-init : goal.loop-agent-init
loop-agent-init c = left_all (search rules)

pub loop-agent-preserved : goal.loop-agent-preserved
loop-agent-preserved c =
    let taken = c.in-Some.ensures.steps in
    let is = comparison_found _ _ _ _ _ refl c.p_at-p.ensures.is c.q_at-q.ensures.is c.value_below-a.ensures
    c.value_below-b.ensures (rw c.kind_at-kind.ensures at c.compare_values-truth.ensures) in
    left_more _ taken.1 taken.2 is c.plus_if.ensures c.plus_if-in-loop-agent.ensures c.loop-agent.invariant

pub returns : goal.returns
returns c = left_none c.in-None.ensures.steps c.loop-agent.invariant
