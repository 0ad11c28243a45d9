-- `table::wrong::descend` meets its contract: from the last node down, each hands on what reaches it; `lowest` is the lowest wrong key so far.
use Rattle.table.specs.Fleets.{table_in}
use Rattle.table.specs.Reach.{wrong_key}
use Rattle.table.specs.Marks.{Above}
use Rattle.table.proofs.Spreading.{LowestFrom}
use Rattle.table.proofs.wrong.descend.Given as goal

abbrev pub invariant-loop-node : goal.invariant-loop-node
invariant-loop-node l =
    let t = table_in l.fleet in record {
      above : Above t l.scratch l.node;
      lowest : LowestFrom (wrong_key t) t.sizes.nodes l.node l.lowest;
    }
