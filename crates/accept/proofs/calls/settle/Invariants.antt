-- `accept::calls::settle` meets its contract: a walk down to a node that can be counted, and back up; `left` falls.
use Rattle.table.specs.Fleets.{table_in}
use Rattle.accept.proofs.Walking.{Walk, left}
use Rattle.accept.proofs.calls.settle.Given as goal

abbrev pub invariant-loop-c : goal.invariant-loop-c
invariant-loop-c l = Walk (table_in l.fleet) l.level l.top l.initial.scratch l.scratch l.n

abbrev pub decreases-loop-c : goal.decreases-loop-c
decreases-loop-c l = left (table_in l.fleet) l.scratch l.n
