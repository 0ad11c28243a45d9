-- `machine::stepping::preview_in` meets its contract.
-- Assumes nothing.
use Rattle.std.proofs.lemmas.Result.{err_from_is_err_and}
use Rattle.accept.specs.Accepted.{accepted_table}
use Rattle.machine.proofs.Outcomes.{steps_finished, into_finished, steps_stopped, into_stopped}
use Rattle.machine.proofs.stepping.preview_in.Goals as goal

pub returns-in_err-planned : goal.returns-in_err-planned
returns-in_err-planned c =
    let p = err_from_is_err_and c.from_residual.result c.from_residual.ensures.1 in
    let e = c.in_err-planned.field-0.0 in
    rw (p.1, p.2) (steps_stopped e c.args.second.now (into_stopped e c.args.first.now c.args.second.now c.in_err-planned.ensures))

pub returns : goal.returns
returns c =
    let t = accepted_table c.args.accepted.now in
    let p = c.in_ok-planned.planned in
    steps_finished t c.args.first.now c.args.request p (into_finished t c.args.first.now c.args.second.now c.args.request p c.in_ok-planned.ensures.0)
    (rw c.copy.ensures at c.finish.ensures)
