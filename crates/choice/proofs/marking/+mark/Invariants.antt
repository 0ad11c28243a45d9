-- `mark_side` and `mark_tick` meet their contracts. Assumes nothing.
use Prim.Native.Nat.{◌+◌, ◌*◌}
use Rattle.accept.specs.Accepted.{accepted_table}
use Rattle.choice.specs.Turns.{ahead}
use Rattle.choice.proofs.Collecting.{side_ahead}
use Rattle.choice.proofs.marking.+mark.Given as goal

abbrev pub decreases-mark_side : goal.decreases-mark_side
decreases-mark_side l = 2 * side_ahead (accepted_table l.accepted.now) l.side + 1

abbrev pub decreases-mark_tick : goal.decreases-mark_tick
decreases-mark_tick l = 2 * ahead (accepted_table l.accepted.now) l.goal
