-- `accept::calls::count_at` meets its contract.
-- Assumes nothing.
use Rattle.table.specs.Fleets.{table_in}
use Rattle.accept.proofs.Cells.{node_room}
use Rattle.accept.proofs.Fullness.{is_done, count_small, count_more}
use Rattle.accept.proofs.calls.count_at.Goals as goal

pub unreachable-requires : goal.unreachable-requires
unreachable-requires c = is_done c.requires.held c.args.n c.requires.by_index c.visit.result c.visit.ensures c.in_default-visit.not-Done

pub store-requires : goal.store-requires
store-requires c =
    let t = table_in c.args.fleet.now in
    (node_room c.requires.held c.args.n c.requires.n_bound, count_small t t.sizes.definitions c.args.n c.args.scratch.now c.in-Done.ensures)

pub returns : goal.returns
returns c = rw c.store.ensures (count_more c.requires.held c.requires.n_bound c.in-Done.ensures)
