-- `machine::load` meets its contract.
-- Assumes nothing.
use Rattle.std.proofs.lemmas.Result.{err_from_is_err_and}
use Rattle.machine.proofs.Loading.{load_given, load_done, load_refused}
use Rattle.machine.proofs.load.Goals as goal

pub returns-in_err-fleet : goal.returns-in_err-fleet
returns-in_err-fleet c =
    let p = err_from_is_err_and c.from_residual.result c.from_residual.ensures.1 in
    rw (p.1, p.2) (load_refused c.args.state.now c.in_err-fleet.ensures)

pub write_loaded-requires : goal.write_loaded-requires
write_loaded-requires c = load_given c.args.state.now c.in_ok-fleet.ensures

pub returns : goal.returns
returns c = load_done c.args.state.now c.in_ok-fleet.ensures (c.write_loaded.ensures c.in_ok-fleet.fleet.kinds.now)
