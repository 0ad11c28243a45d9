-- `accept::calls::lowest_bad_call` meets its contract: the definitions below the loop's expose only lower calls, and their bodies are counted.
use Rattle.table.specs.Fleets.{table_in}
use Rattle.accept.specs.Scratch.{Held}
use Rattle.accept.proofs.calls.lowest_bad_call.Given as goal

abbrev pub invariant-loop-d : goal.invariant-loop-d
invariant-loop-d l = Held (table_in l.fleet) l.d l.scratch
