-- `basis::minus` meets its contract.
-- Assumes nothing.
use Rattle.basis.proofs.KeySets.{minus_both}
use Rattle.basis.proofs.minus.Goals as goal

pub returns : goal.returns
returns c = rw c.power.ensures (minus_both c.args.keys c.args.key c.ranges.keys.fits c.requires)
