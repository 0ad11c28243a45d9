-- `basis::lowest` meets its contract.
-- Assumes nothing.
use Rattle.basis.proofs.KeySets.{has_lowest, below_lowest}
use Rattle.basis.proofs.lowest.Goals as goal

pub returns : goal.returns
returns c = let l = has_lowest 32 c.args.keys c.requires c.ranges.keys.fits in (l.0, l.1, below_lowest 32 c.args.keys)
