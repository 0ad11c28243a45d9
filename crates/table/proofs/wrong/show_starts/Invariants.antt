-- `table::wrong::show_starts` meets its contract: the words of the nodes below the loop's show which fields are nodes, and what starts there.
use Rattle.table.specs.Fleets.{table_in}
use Rattle.table.specs.Marks.{Shown}
use Rattle.table.proofs.wrong.show_starts.Given as goal

abbrev pub invariant-loop-node : goal.invariant-loop-node
invariant-loop-node l = Shown (table_in l.fleet) l.scratch l.node
