-- `mark_node` meets its contract. Assumes nothing.
use Rattle.accept.specs.Accepted.{accepted_table}
use Rattle.choice.specs.Turns.{ahead}
use Rattle.choice.proofs.Telling.{Toward}
use Rattle.choice.proofs.marking.mark_node.Given as goal

abbrev pub invariant-loop-label : goal.invariant-loop-label
invariant-loop-label l = Toward (accepted_table l.accepted) l.initial.at l.initial.marks l.at l.size l.marks

abbrev pub decreases-loop-label : goal.decreases-loop-label
decreases-loop-label l = ahead (accepted_table l.accepted) l.at
