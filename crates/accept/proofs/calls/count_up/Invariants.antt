-- `accept::calls::count_up` meets its contract: the words stay such as `settle` takes and leaves.
use Rattle.table.specs.Fleets.{table_in}
use Rattle.accept.specs.Scratch.{Held}
use Rattle.accept.proofs.calls.count_up.Given as goal

abbrev pub invariant-loop-n : goal.invariant-loop-n
invariant-loop-n l = Held (table_in l.fleet) l.level l.scratch
