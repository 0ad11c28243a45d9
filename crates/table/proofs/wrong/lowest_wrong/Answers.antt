-- `table::wrong::lowest_wrong` meets its contract.
-- Assumes nothing.
use Rattle.table.specs.Fleets.{table_in}
use Rattle.table.specs.Reach.{wrong_key}
use Rattle.table.proofs.Checks.{line_passes, line_refuses}
use Rattle.table.proofs.wrong.lowest_wrong.Goals as goal

pub returns-then-not-doubtful : goal.returns-then-not-doubtful
returns-then-not-doubtful c = line_passes _ (wrong_key (table_in c.args.fleet.now)) 5 (c.requires.sure c.if-not-doubtful.true)

pub returns-in-Some : goal.returns-in-Some
returns-in-Some c =
    let e = c.in-Some.ensures in
    line_refuses _ (wrong_key (table_in c.args.fleet.now)) 5 c.in-Some.node e.0 e.1

pub returns-in-None : goal.returns-in-None
returns-in-None c = line_passes _ (wrong_key (table_in c.args.fleet.now)) 5 c.in-None.ensures
