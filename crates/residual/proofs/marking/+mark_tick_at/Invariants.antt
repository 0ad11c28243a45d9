-- `mark_tick_at` meets its contract. Assumes nothing.
use Prim.Native.Nat.{◌-◌}
use lib.ListN.{length}
use Rattle.residual.proofs.marking.+mark_tick_at.Given as goal

abbrev pub decreases-mark_tick_at : goal.decreases-mark_tick_at
decreases-mark_tick_at l = length l.words.now - l.target.from.at
