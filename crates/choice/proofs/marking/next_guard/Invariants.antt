-- `next_guard` meets its contract. Assumes nothing.
use Prim.Native.Nat.{◌-◌}
use lib.ListN.{length}
use Rattle.choice.specs.Marking.{marked_guard}
use Rattle.choice.proofs.Searching.{Passed}
use Rattle.choice.proofs.marking.next_guard.Given as goal

-- no marked guard has been passed
abbrev pub invariant-loop-n : goal.invariant-loop-n
invariant-loop-n l = Passed (marked_guard l.kinds l.marks) l.from l.n

abbrev pub decreases-loop-n : goal.decreases-loop-n
decreases-loop-n l = length l.kinds - l.n
