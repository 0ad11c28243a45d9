-- `place` meets its contract: the loop steps towards choice c (`Spot`), and the words before the gap are what it leaves of those passed.
-- Assumes nothing.
use native.Mathlib.Omega.{arith}
use Rattle.accept.specs.Accepted.{accepted_table}
use Rattle.residual.proofs.Standing.{stands_here}
use Rattle.residual.proofs.Placing.{spot_acts, spot_joins}
use Rattle.residual.proofs.Residuals.{spot_whole}
use Rattle.residual.proofs.writing.place.Goals as goal

pub loop-words-init : goal.loop-words-init
loop-words-init c =
    let a = c.args.accepted.now in
    rw c.whole-target.ensures
    (spot_whole (accepted_table a) a.counts.now a.prepared c.args.at c.args.words.now c.requires.whole c.args.c c.requires.taking c.requires.at_in_bounds c.requires.c_in_bounds)

pub overflow_add-back : goal.overflow_add-back
overflow_add-back c = let i = c.loop-words.invariant in record { fits = omega (arith, stands_here _ _ _ _ i.stands, i.long, c.well_formed) }

pub loop-words-preserved-in-Acts : goal.loop-words-preserved-in-Acts
loop-words-preserved-in-Acts c =
    let i = c.loop-words.invariant in
    spot_acts _ _ _ _ _ _ i _ _ (c.in-Acts.ensures i.term i.stands) _ c.copy_within.ensures.after

pub loop-words-preserved : goal.loop-words-preserved
loop-words-preserved c =
    let i = c.loop-words.invariant in
    spot_joins _ _ _ _ _ _ i _ _ _ _ (c.in-Joins.ensures i.term i.stands) _ c.copy_within-in-Joins.ensures.after
