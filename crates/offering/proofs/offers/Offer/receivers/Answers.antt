-- `Offer::receivers` meets its contract. Assumes nothing.
use mathlib.Core.Path.{sym, ◌∙◌}
use Rattle.basis.proofs.KeySets.{plus_all_zero}
use Rattle.offering.proofs.Turns.{set_more}
use Rattle.offering.proofs.offers.Offer.receivers.Goals as goal

pub loop-other-init : goal.loop-other-init
loop-other-init c = sym (plus_all_zero _ 0)

pub loop-other-preserved : goal.loop-other-preserved
loop-other-preserved c =
    set_more _ _ c.loop-other.invariant (c.plus_if-touched.ensures ∙ rw (c.touches.ensures, c.entry_of-theirs.ensures))
