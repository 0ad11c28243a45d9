-- `labs_show::show` meets its contract.
-- Assumes nothing.
use Rattle.labs_show.specs.Printed.{printed}
use Rattle.labs_show.proofs.show.Goals as goal

pub returns : goal.returns
unfolding printed
returns c = c.show_rehearsal.ensures
