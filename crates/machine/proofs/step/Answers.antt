-- `machine::step` meets its contract.
-- Assumes nothing.
use Rattle.std.proofs.lemmas.Result.{err_from_is_err_and}
use Rattle.machine.proofs.Opened.{step_refused, step_opened}
use Rattle.machine.proofs.step.Goals as goal

pub returns-in_err-fleet : goal.returns-in_err-fleet
returns-in_err-fleet c =
    let p = err_from_is_err_and c.from_residual.result c.from_residual.ensures.1 in
    rw (p.1, p.2) (step_refused c.args.kind c.args.agent c.args.number c.in_err-fleet.ensures)

pub returns : goal.returns
returns c = step_opened c.args.kind c.args.agent c.args.number c.in_ok-fleet.ensures (rw c.new.ensures at c.step_in.ensures)
