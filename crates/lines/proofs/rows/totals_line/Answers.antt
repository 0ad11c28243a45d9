-- `lines::rows::totals_line` meets its contract.
-- Assumes nothing.
use Rattle.lines.proofs.Parts.{texts}
use Rattle.lines.proofs.Pages.{writes_then}
use Rattle.lines.proofs.rows.totals_line.Goals as goal

pub returns : goal.returns
unfolding texts
returns c = writes_then c.named.ensures (writes_then c.named-2.ensures c.tally_end.ensures)
