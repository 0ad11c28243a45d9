-- `basis::plus` meets its contract.
-- Assumes nothing.
use Rattle.basis.proofs.KeySets.{plus_either}
use Rattle.basis.proofs.plus.Goals as goal

pub returns : goal.returns
returns c = rw c.power.ensures (plus_either c.args.keys c.args.key c.ranges.keys.fits c.requires)
