-- `collect` meets its contract: the loop steps towards choice c (`Toward`), and what it passes has been marked and counted.
use Prim.Native.Nat.{◌-◌, ◌≤◌}
use mathlib.Core.Path.{◌≡◌}
use native.Mathlib.Omega.{arith}
use lib.ListN.{length}
use Rattle.accept.specs.Accepted.{accepted_table}
use Rattle.term.specs.Terms.{words as words_of}
use Rattle.residual.specs.Wholes.{residual_term}
use Rattle.choice.proofs.Turning.{ahead_most}
use Rattle.residual.proofs.Standing.{part_stands}
use Rattle.residual.proofs.Reporting.{toward_acts, toward_joins, toward_tick, toward_node}
use Rattle.residual.proofs.Residuals.{toward_whole, term_size}
use Rattle.residual.proofs.choosing.collect.Goals as goal
use Rattle.residual.proofs.choosing.collect.Goals.{Start}

room : (c : Start) → (length c.args.words.now ≤ 65535) × (length (words_of (residual_term c.args.words.now)) ≡ length c.args.words.now - 0)
room c = (c.requires.whole.room, term_size (accepted_table c.args.accepted.now) c.args.accepted.now.counts.now c.args.accepted.now.prepared 0 c.args.words.now c.requires.whole)

pub loop-label-init : goal.loop-label-init
loop-label-init c =
    let a = c.args.accepted.now in
    rw c.whole-target.ensures (toward_whole (accepted_table a) a.counts.now a.prepared 0 c.args.words.now c.requires.whole c.args.c c.requires.taking c.args.marks.now c.requires.walk_marks)

pub returns-in-Ticked : goal.returns-in-Ticked
returns-in-Ticked c =
    let i = c.loop-label.invariant in
    let e = c.in-Ticked.ensures i.term i.stands in
    toward_tick _ _ _ _ c.requires.walk_marks _ _ _ i _ e.1 (omega (arith, e.0, i.bound, room (goal.at.returns-in-Ticked c).Start))

pub returns-in-Leaf : goal.returns-in-Leaf
returns-in-Leaf c =
    let a = c.args.accepted.now in
    let i = c.loop-label.invariant in
    let e = c.in-Leaf.ensures i.term i.stands in
    toward_node _ _ _ _ c.requires.walk_marks _ _ _ i _ _ e.2 _ _ _ c.mark_node.ensures _ c.grown.ensures
    (omega (arith, i.bound, room (goal.at.returns-in-Leaf c).Start, ahead_most (accepted_table a) a.counts.now a.prepared _ e.1))

pub loop-label-preserved-in-Acts : goal.loop-label-preserved-in-Acts
loop-label-preserved-in-Acts c =
    let i = c.loop-label.invariant in
    toward_acts _ _ _ _ c.requires.walk_marks _ _ _ i _ _ (c.in-Acts.ensures i.term i.stands)

pub mark_tick_at-requires : goal.mark_tick_at-requires
mark_tick_at-requires c =
    let i = c.loop-label.invariant in
    let e = c.in-Joins.ensures i.term i.stands in
    record { stands = (e.ticking, part_stands _ _ _ _ i.stands e.tick); walk_marks = i.marked.marks }

pub loop-label-preserved : goal.loop-label-preserved
loop-label-preserved c =
    let i = c.loop-label.invariant in
    let e = c.in-Joins.ensures i.term i.stands in
    toward_joins _ _ _ _ c.requires.walk_marks _ _ _ i _ _ _ _ e _ (c.mark_tick_at.ensures e.ticking (part_stands _ _ _ _ i.stands e.tick))
