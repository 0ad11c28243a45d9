-- `write_node` meets its contract. Assumes nothing.
use Rattle.accept.specs.Accepted.{accepted_table}
use Rattle.choice.specs.Turns.{ahead}
use Rattle.choice.proofs.Gaps.{Onto}
use Rattle.choice.proofs.writing.write_node.Given as goal

abbrev pub invariant-loop-word : goal.invariant-loop-word
invariant-loop-word l = Onto (accepted_table l.accepted) l.initial.at l.initial.rest l.initial.words l.at l.rest l.words

abbrev pub decreases-loop-word : goal.decreases-loop-word
decreases-loop-word l = ahead (accepted_table l.accepted) l.at
