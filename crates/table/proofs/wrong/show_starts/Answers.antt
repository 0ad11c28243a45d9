-- `table::wrong::show_starts` meets its contract: the words of the nodes below the loop's show which fields are nodes, and what starts there.
-- Assumes nothing.
use native.Mathlib.Omega.{arith}
use Rattle.table.specs.Fleets.{table_in}
use Rattle.table.proofs.Marking.{shown_next}
use Rattle.table.proofs.wrong.show_starts.Goals as goal

pub loop-node-preserved : goal.loop-node-preserved
loop-node-preserved c =
    let l = c.loop-node in
    shown_next (table_in c.args.fleet.now) l.scratch l.node (omega arith) l.invariant c.first_word.ensures
