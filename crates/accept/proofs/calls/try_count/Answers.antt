-- `accept::calls::try_count` meets its contract.
-- Assumes nothing.
use Rattle.table.specs.Fleets.{table_in}
use Rattle.accept.proofs.Cells.{node_room}
use Rattle.accept.proofs.Fullness.{count_small}
use Rattle.accept.proofs.calls.try_count.Goals as goal

pub store-requires : goal.store-requires
store-requires c =
    let a = c.args in
    (node_room c.requires.held a.n c.requires.n_bound, count_small (table_in a.fleet.now) a.level a.n a.scratch.now c.in-Done.ensures)
