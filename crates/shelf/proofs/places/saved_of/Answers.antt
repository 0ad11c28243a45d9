-- `shelf::places::saved_of` meets its contract.
-- Assumes nothing.
use Rattle.shelf.proofs.Finding.{part_saved}
use Rattle.shelf.proofs.places.saved_of.Goals as goal

pub returns : goal.returns
returns c = part_saved c.args.shelf.now c.args.place c.saved_at-at.ensures.is
