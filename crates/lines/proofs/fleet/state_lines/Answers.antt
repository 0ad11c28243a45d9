-- `lines::fleet::state_lines` meets its contract.
-- Assumes nothing.
use Rattle.lines.proofs.Parts.{states}
use Rattle.lines.proofs.Pages.{writes_then}
use Rattle.lines.proofs.fleet.state_lines.Goals as goal

pub returns : goal.returns
unfolding states
returns c =
    writes_then (writes_then (rw c.clock_of.ensures at c.clock_line.ensures) c.store_lines.ensures) c.fleet_lines.ensures
