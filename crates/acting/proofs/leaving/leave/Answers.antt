-- `leave` meets its contract. Assumes nothing.
use Rattle.std.proofs.Common.{ℕ, ◌+◌, ◌-◌, ap, get_or, take, drop, arith}
use Rattle.accept.specs.Accepted.{accepted_table}
use Rattle.acting.proofs.Lent.{Lends, lends, left}
use Rattle.acting.proofs.leaving.leave.Goals as goal
use Rattle.acting.proofs.leaving.leave.Goals.{After-residual_at-at}

-- what is asked of the residual's words, as they are lent
lent : (c : After-residual_at-at) → let at = c.residual_at-at.result in
    Lends (accepted_table c.args.accepted.now) c.args.c (get_or c.args.state.now c.length_at-place.result 0) (take (at + 63 - at) (drop at c.args.state.now))
lent c =
    let at = c.residual_at-at.result in
    lends (accepted_table c.args.accepted.now) c.args.state.now c.args.agent c.args.c c.requires at (at + 63 - at) _ c.residual_at-at.ensures.is
    (omega arith) (ap (λ (i : ℕ). get_or c.args.state.now i 0) c.length_at-place.ensures.is)

pub rewrite-left-requires : goal.rewrite-left-requires
rewrite-left-requires c =
    let w = lent (goal.at.rewrite-left-requires c).After-residual_at-at in
    record { size_in_bounds = w.0; whole = w.1.0; taking = w.1.1.0; c_in_bounds = w.1.1.1 }

pub returns : goal.returns
returns c =
    let at = c.residual_at-at.result in
    left (accepted_table c.args.accepted.now) c.args.state.now c.args.agent c.args.c c.requires at (at + 63 - at) _ c.residual_at-at.ensures.is (omega arith)
    (ap (λ (i : ℕ). get_or c.args.state.now i 0) c.length_at-place.ensures.is) _ _ c.rewrite-left.ensures _ c.length_at-place.ensures.is
