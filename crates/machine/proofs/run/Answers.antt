-- `machine::run` meets its contract.
-- Assumes nothing.
use Rattle.std.proofs.Common.{ap, ◌∙◌}
use Rattle.std.proofs.lemmas.Result.{err_from_is_err_and}
use Rattle.steps.specs.Runs.{steps_of}
use Rattle.machine.proofs.Opened.{run_refused, run_unscheduled, run_opened, opened_narrow}
use Rattle.machine.proofs.run.Goals as goal

pub returns-in_err-fleet : goal.returns-in_err-fleet
returns-in_err-fleet c =
    let p = err_from_is_err_and c.from_residual.result c.from_residual.ensures.1 in
    rw (p.1, p.2) (run_refused _ _ _ _ c.args.schedule.now c.args.answers.now c.in_err-fleet.ensures)

pub returns-in_err-schedule : goal.returns-in_err-schedule
returns-in_err-schedule c =
    let p = err_from_is_err_and c.from_residual-in_err-schedule.result c.from_residual-in_err-schedule.ensures.1 in
    rw (p.1, p.2) (run_unscheduled _ _ _ _ c.args.schedule.now c.args.answers.now c.in_ok-fleet.ensures c.in_err-schedule.ensures)

pub run_steps-requires-clause-bytes : goal.run_steps-requires-clause-bytes
run_steps-requires-clause-bytes c = opened_narrow _ _ _ _ c.args.schedule.now c.args.answers.now c.in_ok-fleet.ensures (λ i. (c.type_inv.table i).fits)

pub returns : goal.returns
returns c =
    let f = c.in_ok-schedule.ensures in
    run_opened _ _ _ _ c.args.schedule.now c.args.answers.now c.in_ok-fleet.ensures f.0 (c.in_ok-schedule.schedule.whole.is ∙ ap steps_of f.1)
    (rw f.1 at c.run_steps.ensures)
