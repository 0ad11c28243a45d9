-- `opening::open` meets its contract.
-- Assumes nothing.
use Rattle.std.proofs.lemmas.Result.{err_from_is_err_and}
use Rattle.opening.proofs.Accepting.{check_given, open_broken, open_formed, open_refused}
use Rattle.opening.proofs.open.Goals as goal

pub returns-in_err-fleet : goal.returns-in_err-fleet
returns-in_err-fleet c =
    let p = err_from_is_err_and c.from_residual.result c.from_residual.ensures.1 in
    rw (p.1, p.2) (open_refused c.args.others_fit _ c.args.state.now _ _ c.in_err-fleet.ensures)

pub well_formed-requires : goal.well_formed-requires
well_formed-requires c = check_given c.args.others_fit _ c.args.state.now _ _ c.in_ok-fleet.ensures

pub returns-then-not-well_formed : goal.returns-then-not-well_formed
returns-then-not-well_formed c =
    open_broken c.args.others_fit _ c.args.state.now _ _ c.in_ok-fleet.ensures (c.well_formed-2.ensures c.in_ok-fleet.fleet.operands.now)
    c.if-not-well_formed.true

pub returns : goal.returns
returns c =
    open_formed c.args.others_fit _ c.args.state.now _ _ c.in_ok-fleet.ensures (c.well_formed-2.ensures c.in_ok-fleet.fleet.operands.now)
    (λ i. (c.type_inv.state i).fits) c.if-not-well_formed.false
