-- `mark_node` meets its contract. Assumes nothing.
use native.Mathlib.Omega.{arith}
use Rattle.accept.specs.Accepted.{accepted_table}
use Rattle.choice.proofs.Turning.{ahead_most}
use Rattle.choice.proofs.Telling.{toward_start, toward_on, toward_end}
use Rattle.choice.proofs.marking.mark_node.Goals as goal

pub loop-label-init : goal.loop-label-init
loop-label-init c = toward_start _ _ _ c.requires.walk_marks c.requires.reached

pub returns-in-End : goal.returns-in-End
returns-in-End c =
    let l = c.loop-label in
    let a = c.args.accepted.now in
    toward_end _ _ _ c.requires.walk_marks l.at l.size l.marks l.invariant _ _ _ c.in-End.ensures
    (omega (arith, ahead_most (accepted_table a) a.counts.now a.prepared c.args.goal c.requires.reached))

pub loop-label-preserved : goal.loop-label-preserved
loop-label-preserved c =
    let l = c.loop-label in
    toward_on _ _ _ c.requires.walk_marks l.at l.size l.marks l.invariant _ _ _ _ c.words-size.ensures c.in-On.ensures _ c.mark_side.ensures

pub overflow_add-size : goal.overflow_add-size
overflow_add-size c =
    let l = c.args.accepted.now.prepared.checked.sound.shaped.limits in
    let a = c.args.accepted.now in
    record { fits = omega (arith, (loop-label-preserved c).bound, l.nodes, l.definitions, ahead_most (accepted_table a) a.counts.now a.prepared c.args.goal c.requires.reached) }
