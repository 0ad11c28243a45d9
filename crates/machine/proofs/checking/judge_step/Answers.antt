-- `machine::checking::judge_step` meets its contract.
-- Assumes nothing.
use Rattle.std.proofs.Common.{ℕ, ◌<◌, true, false, List, Ok, arith}
use Rattle.std.proofs.lemmas.Result.{err_from_is_err_and}
use Rattle.table.specs.Tables.{Table}
use Rattle.accept.specs.Accepted.{accepted_table}
use Rattle.state.specs.WellFormed.{Proper}
use Rattle.steps.proofs.Steps.{in_range_lem}
use Rattle.offering.specs.Passing.{Passing}
use Rattle.machine.specs.declared.requests.Kind.{Kind}
use Rattle.machine.specs.declared.requests.Kind.TheVariants.{Act, Propagate, Confirm}
use Rattle.machine.specs.declared.requests.Request.{Request}
use Rattle.machine.specs.Requests.{byte_of, InRange}
use Rattle.machine.proofs.Outcomes.{step_out, step_own, act_judged, offer_judged}
use Rattle.machine.proofs.checking.judge_step.Goals as goal

pub returns-in_err-kind_in : goal.returns-in_err-kind_in
returns-in_err-kind_in c =
    let r = c.in_err-kind_in.ensures in
    let p = err_from_is_err_and c.from_residual.result c.from_residual.ensures.1 in
    rw (p.1, p.2, r.1) (step_out (accepted_table c.args.accepted.now) c.args.state.now c.args.request r.0)

pub returns-in-Act : goal.returns-in-Act
returns-in-Act c =
    let t = accepted_table c.args.accepted.now in
    let q = c.args.request in
    let r = rw c.in-Act.is at c.in_ok-kind_in.ensures in
    let range = (in_range_lem t c.args.state.now q.kind q.agent q.number).0 r.0 in
    step_own t c.args.state.now q Act r c.map.result
    (act_judged t c.args.state.now q c.requires range.agent_below c.judge.result c.judge.ensures c.map.result c.map.ensures.cases)

-- an offer of a key that is in range
passing : (t : Table) (was : List ℕ) (q : Request) (kind : Kind) → Proper t was → InRange t q (Ok kind) → 0 < byte_of kind → Passing t was q.agent q.number
passing t was q kind proper r h =
    let range = (in_range_lem t was q.kind q.agent q.number).0 r.0 in
    record { blocks = omega (arith, proper.whole); agent = range.agent_below; key = range.key_below (omega (arith, r.1)) }

pub returns-in-Propagate : goal.returns-in-Propagate
returns-in-Propagate c =
    let t = accepted_table c.args.accepted.now in
    let q = c.args.request in
    let r = rw c.in-Propagate.is at c.in_ok-kind_in.ensures in
    step_own t c.args.state.now q Propagate r c.judge_offer.result
    (offer_judged t c.args.state.now q false (passing t c.args.state.now q Propagate c.requires r (omega arith)) c.judge_offer.ensures)

pub returns-in-Confirm : goal.returns-in-Confirm
returns-in-Confirm c =
    let t = accepted_table c.args.accepted.now in
    let q = c.args.request in
    let r = rw c.in-Confirm.is at c.in_ok-kind_in.ensures in
    step_own t c.args.state.now q Confirm r c.judge_offer-in-Confirm.result
    (offer_judged t c.args.state.now q true (passing t c.args.state.now q Confirm c.requires r (omega arith)) c.judge_offer-in-Confirm.ensures)
