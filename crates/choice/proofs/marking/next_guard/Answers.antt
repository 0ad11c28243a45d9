-- `next_guard` meets its contract. Assumes nothing.
use mathlib.Core.Bool.{Bool, false, ◌&&◌}
use mathlib.Core.Path.{◌≡◌, sym, ap, ap₂, ◌∙◌}
use native.Mathlib.Omega.{arith}
use Rattle.choice.specs.Marking.{has_mark, marked_guard}
use Rattle.choice.proofs.Searching.{after_none, next_on}
use Rattle.choice.proofs.marking.next_guard.Goals as goal
use Rattle.choice.proofs.marking.next_guard.Goals.{else-is_guard-via-then-is_guard+else-has_mark, else-is_guard-via-else-is_guard}

pub loop-n-preserved : goal.loop-n-preserved
loop-n-preserved c =
    let a = c.args in
    let l = c.loop-n in
    let u = c.unmarked_after.ensures in
    let none : marked_guard a.kinds.now a.marks.now l.n ≡ false =
    elim c.else-is_guard.branch [
      | else-is_guard-via-then-is_guard+else-has_mark w ↦ ap₂ ◌&&◌ (sym c.is_guard.ensures ∙ w.if-is_guard.true) (sym w.has_mark.ensures ∙ w.if-has_mark.false)
      | else-is_guard-via-else-is_guard w ↦
          ap (λ (x : Bool). x && has_mark a.marks.now l.n) (sym c.is_guard.ensures ∙ w.if-is_guard.false)
    ] in
    next_on a.kinds.now a.marks.now l.invariant none
    (λ i h. after_none a.marks.now l.n i (omega (arith, u.0)) (omega (arith, u.1)))
