-- `machine::running::run_steps` meets its contract: the steps below the loop's are done. The loop has the bytes of the
-- steps, and those after them stay.
use Rattle.std.proofs.Common.{◌++◌, ◌≡◌, length, drop}
use Rattle.accept.specs.Accepted.{accepted_table}
use Rattle.machine.proofs.Going.{Halfway}
use Rattle.machine.proofs.running.run_steps.Given as goal

abbrev pub invariant-loop-i : goal.invariant-loop-i
invariant-loop-i l =
    Halfway (accepted_table l.accepted) l.schedule.bytes.now l.initial.state l.fn.answers l.i l.state
    (l.answer-items ++ drop l.schedule.steps l.fn.answers) l.totals
