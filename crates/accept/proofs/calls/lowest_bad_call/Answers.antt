-- `accept::calls::lowest_bad_call` meets its contract.
-- Assumes nothing.
use Prim.Native.Nat.{◌<◌}
use mathlib.Core.Bool.{true, not}
use mathlib.Core.Path.{◌≡◌, sym, ap, subst}
use native.Mathlib.Omega.{arith}
use Rattle.basis.proofs.Numbers.{lowest_at}
use Rattle.table.specs.Tables.{first_root}
use Rattle.table.specs.Fleets.{table_in}
use Rattle.table.proofs.Checks.{refused, line_passes, line_refuses}
use Rattle.table.proofs.Promises.{body_process}
use Rattle.term.specs.Exposure.{bad_call}
use Rattle.accept.specs.Scratch.{Held}
use Rattle.accept.proofs.Levels.{held_next}
use Rattle.accept.proofs.calls.lowest_bad_call.Goals as goal
use Rattle.accept.proofs.calls.lowest_bad_call.Goals.{After-body_at-body}

-- the body as it was read is no root
low : (c : After-body_at-body) → c.body_at-body.result < first_root (table_in c.args.fleet.now)
low c = rw c.body_at-body.ensures (body_process (table_in c.args.fleet.now) c.requires.0 c.loop-d.d c.loop-d-test.true).0

pub count_up-requires-clause-to_bound : goal.count_up-requires-clause-to_bound
count_up-requires-clause-to_bound c = low (goal.at.count_up-requires-clause-to_bound c).After-body_at-body

pub overflow_add-body : goal.overflow_add-body
overflow_add-body c = record { fits = omega (arith, low (goal.at.overflow_add-body c).After-body_at-body, c.requires.0.shaped.limits.nodes) }

pub settle-requires-clause-top_bound : goal.settle-requires-clause-top_bound
settle-requires-clause-top_bound c = low (goal.at.settle-requires-clause-top_bound c).After-body_at-body

pub returns-then-not-settle : goal.returns-then-not-settle
returns-then-not-settle c =
    let t = table_in c.args.fleet.now in
    let l = c.loop-d in
    let bad : bad_call t l.d ≡ true = ap not (rw c.body_at-body.ensures at (c.settle.ensures.high c.if-not-settle.true)) in
    record {
      check = line_refuses t.sizes.definitions (bad_call t) 6 l.d c.loop-d-test.true
          (sym (lowest_at (bad_call t) t.sizes.definitions l.d c.loop-d-test.true bad l.invariant.lower));
      held = λ e. absurd (refused e);
    }

pub loop-d-preserved : goal.loop-d-preserved
loop-d-preserved c =
    let y = c.settle.ensures in
    let e = y.counted c.if-not-settle.false in
    let low = low (goal.at.loop-d-preserved c).After-body_at-body in
    held_next y.held c.loop-d-test.true (rw (← c.body_at-body.ensures) (ap not (y.held.nodes _ low e).calls)) (rw (← c.body_at-body.ensures) e)

pub returns : goal.returns
returns c =
    let t = table_in c.args.fleet.now in
    let held = c.loop-d.invariant in
    let e : c.loop-d.d ≡ t.sizes.definitions = omega (arith, held.low) in
    record {
      check = line_passes t.sizes.definitions (bad_call t) 6 (λ k h. held.lower k (omega arith));
      held = λ z. subst (λ d. Held t d c.loop-d.scratch) e held;
    }
