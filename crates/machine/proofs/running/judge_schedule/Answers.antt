-- `machine::running::judge_schedule` meets its contract.
-- Assumes nothing.
use Rattle.std.proofs.Common.{ℕ, subst, List, arith}
use Rattle.std.proofs.lemmas.Result.{err_from_is_err_and}
use Rattle.machine.specs.Whole.{Whole}
use Rattle.machine.proofs.Schedules.{whole_is, schedule_wrong, answers_short, schedule_passes}
use Rattle.machine.proofs.running.judge_schedule.Goals as goal
use Rattle.machine.proofs.running.judge_schedule.Goals.{In_ok-schedule}

whole : (c : In_ok-schedule) → Whole c.args.bytes.now c.in_ok-schedule.schedule.steps
whole c = subst (λ (bytes : List ℕ). Whole bytes c.in_ok-schedule.schedule.steps) c.in_ok-schedule.ensures c.in_ok-schedule.schedule.whole

pub returns-in_err-schedule : goal.returns-in_err-schedule
returns-in_err-schedule c =
    let p = err_from_is_err_and c.from_residual.result c.from_residual.ensures.1 in
    rw (p.1, p.2, c.in_err-schedule.ensures.0) (schedule_wrong c.args.bytes.now c.args.answers.now c.in_err-schedule.ensures.1)

pub returns-then-answers-schedule : goal.returns-then-answers-schedule
returns-then-answers-schedule c =
    let w = whole (goal.at.returns-then-answers-schedule c).In_ok-schedule in
    let v = whole_is c.args.bytes.now _ w in
    answers_short c.args.bytes.now c.args.answers.now v.size v.steps (omega (arith, w.is))

pub returns : goal.returns
returns c =
    let w = whole (goal.at.returns c).In_ok-schedule in
    let v = whole_is c.args.bytes.now _ w in
    (schedule_passes c.args.bytes.now c.args.answers.now v.size v.steps (omega (arith, w.is)), c.in_ok-schedule.ensures, c.if-answers-schedule.false)
