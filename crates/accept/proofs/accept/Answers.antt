-- `accept::accept` meets its contract.
-- Assumes nothing.
use mathlib.Core.Path.{refl}
use Rattle.std.proofs.lemmas.Result.{err_from_is_err_and}
use Rattle.accept.proofs.Answering.{accepts_refused, accepts_later, accepts_all}
use Rattle.accept.proofs.accept.Goals as goal

pub returns-in_err-fleet : goal.returns-in_err-fleet
returns-in_err-fleet c =
    let p = err_from_is_err_and c.from_residual.result c.from_residual.ensures.1 in
    rw (p.1, p.2) (accepts_refused c.args.fits refl _ c.in_err-fleet.ensures.check)

pub returns-in_err-judge_lent : goal.returns-in_err-judge_lent
returns-in_err-judge_lent c =
    let r = c.from_residual-in_err-judge_lent in
    let p = err_from_is_err_and r.result r.ensures.1 in
    rw (p.1, p.2) (accepts_later _ c.in_ok-fleet.ensures c.args.fits _ _ c.judge_lent.auto.scratch c.judge_lent.ensures _ c.in_err-judge_lent.was)

pub returns : goal.returns
returns c = accepts_all _ c.in_ok-fleet.ensures c.args.fits _ _ c.judge_lent.auto.scratch c.judge_lent.ensures _ c.in_ok-judge_lent.was
