-- `labs_show::rehearsal::rehearse` meets its contract.
-- Assumes nothing.
use native.Mathlib.Omega.{arith}
use Rattle.std.proofs.lemmas.Result.{err_from_is_err_and}
use Rattle.labs_show.proofs.Rehearsals.{loaded_runs, load_refuses}
use Rattle.labs_show.proofs.rehearsal.rehearse.Goals as goal

pub returns-in_err-load : goal.returns-in_err-load
returns-in_err-load c =
    let a = c.args in
    let p = err_from_is_err_and c.from_residual.result c.from_residual.ensures.1 in
    rw (p.1, p.2) (load_refuses a.table.now a.schedule.now a.lent.now.state _ a.lent.now.answers c.load.ensures c.in_err-load.was)

pub returns : goal.returns
returns c =
    let a = c.args in
    loaded_runs a.table.now a.schedule.now a.lent.now.state _ a.lent.now.answers c.load.ensures c.in_ok-load.was
    (λ i. (c.type_inv.table i).fits) (omega arith) c.run.ensures
