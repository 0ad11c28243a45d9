-- `machine::running::run_steps` meets its contract.
-- Assumes nothing.
use Rattle.std.proofs.Common.{ℕ, ◌<◌, ◌++◌, ◌≡◌, subst, length, drop, arith, rules}
use Rattle.std.proofs.lemmas.List.{length-take-le, set-append_left, take-append-drop}
use Rattle.table.specs.Checks.{number_of}
use Rattle.table.specs.Refusals.{result_check}
use Rattle.accept.specs.Accepted.{accepted_table}
use Rattle.steps.specs.Tallies.{tally}
use Rattle.steps.specs.Runs.{begun, ran}
use Rattle.machine.specs.Answers.{totals, Reports}
use Rattle.machine.proofs.Going.{none_done, totals_within, next_done}
use Rattle.machine.proofs.Sums.{step_within}
use Rattle.machine.proofs.running.run_steps.Goals as goal

pub loop-i-init : goal.loop-i-init
loop-i-init c =
    let h = c.default-totals.ensures in
    rw (take-append-drop c.args.schedule.now.steps c.args.answers.now)
    (none_done (accepted_table c.args.accepted.now) c.args.schedule.now.bytes.now c.args.state.now c.args.answers.now c.requires.proper
    (λ j. totals (h.0 j) (h.1.0 j) (tally (h.1.1.0 j) (h.1.1.1 j))))

pub with-totals-requires : goal.with-totals-requires
with-totals-requires c =
    let t = accepted_table c.args.accepted.now in
    let few = c.args.accepted.now.fleet.shaped.limits.agents in
    let n = length-take-le c.args.schedule.now.steps c.args.answers.now c.requires.room in
    let q = c.request_at.result in (
      totals_within t c.args.schedule.now.bytes.now c.args.state.now c.args.answers.now c.loop-i.i c.loop-i.state _ c.loop-i.totals
          c.loop-i.invariant few (omega (arith, c.args.schedule.now.whole.steps)),
      rw c.step_in-stepped.ensures.tally (step_within t few c.loop-i.state q.kind q.agent q.number),
    )

pub loop-i-preserved : goal.loop-i-preserved
loop-i-preserved c =
    let e : c.map_or_else.result ≡ number_of (result_check c.step_in-stepped.result) = search rules in
    let l : c.loop-i.i < length c.loop-i.answer-items = omega arith in
    rw (e, c.with-totals.ensures, ← set-append_left c.loop-i.answer-items (drop c.args.schedule.now.steps c.args.answers.now) c.loop-i.i (number_of (result_check c.step_in-stepped.result)) l)
    (next_done (accepted_table c.args.accepted.now) c.args.schedule.now.bytes.now c.args.state.now c.args.answers.now c.loop-i.i
    c.loop-i.state _ c.loop-i.totals c.loop-i.invariant c.step_in-stepped.result c.step_in-stepped.new.state
    (rw c.request_at.ensures at c.step_in-stepped.ensures) c.args.accepted.now.prepared.checked.sound c.requires.bytes)

pub returns : goal.returns
returns c =
    let n = length-take-le c.args.schedule.now.steps c.args.answers.now c.requires.room in
    let e : c.loop-i.i ≡ c.args.schedule.now.steps = omega arith in
    subst (λ (i : ℕ). Reports (ran (accepted_table c.args.accepted.now) c.args.schedule.now.bytes.now i (begun c.args.state.now c.args.answers.now))
    c.loop-i.totals c.loop-i.state (c.loop-i.answer-items ++ drop c.args.schedule.now.steps c.args.answers.now)) e c.loop-i.invariant.reports
