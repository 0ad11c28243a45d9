-- `accept::calls::settle` meets its contract: a walk down to a node that can be counted, and back up; `left` falls.
-- Assumes nothing.
use Rattle.accept.proofs.Caps.{counts_small}
use Rattle.accept.proofs.Cells.{node_room}
use Rattle.accept.proofs.Walking.{walk_done, walk_back, back_less, walk_down, down_less, walk_high}
use Rattle.accept.proofs.calls.settle.Goals as goal

pub store-requires : goal.store-requires
store-requires c =
    let w = c.loop-c.invariant in
    (node_room w.held _ w.inner, rw c.in-Done.ensures.0 (counts_small _))

pub returns-then-n-top : goal.returns-then-n-top
returns-then-n-top c =
    rw c.store.ensures
    (walk_done c.loop-c.invariant c.in-Done.ensures c.if-n-top.true)

pub loop-c-smaller-in-Done : goal.loop-c-smaller-in-Done
loop-c-smaller-in-Done c =
    let w = c.loop-c.invariant in
    let v = c.in-Done.ensures in
    rw c.store.ensures
    (back_less w v (walk_back w v c.if-n-top.false c.leads_to-before.ensures))

pub loop-c-preserved-in-Done : goal.loop-c-preserved-in-Done
loop-c-preserved-in-Done c =
    let v = c.in-Done.ensures in
    rw c.store.ensures
    (walk_back c.loop-c.invariant v c.if-n-top.false c.leads_to-before.ensures)

pub loop-c-smaller : goal.loop-c-smaller
loop-c-smaller c =
    rw c.lead.ensures
    (down_less c.loop-c.invariant c.in-Part.ensures)

pub loop-c-preserved : goal.loop-c-preserved
loop-c-preserved c =
    rw c.lead.ensures
    (walk_down c.loop-c.invariant c.in-Part.ensures)

pub returns-in-High : goal.returns-in-High
returns-in-High c = walk_high c.loop-c.invariant c.in-High.ensures
