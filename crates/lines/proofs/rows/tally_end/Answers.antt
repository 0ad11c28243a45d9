-- `lines::rows::tally_end` meets its contract.
-- Assumes nothing.
use Rattle.lines.proofs.Parts.{texts}
use Rattle.lines.proofs.Pages.{writes_then}
use Rattle.lines.proofs.rows.tally_end.Goals as goal

pub returns : goal.returns
unfolding texts
returns c =
    writes_then (rw c.taken.ensures at c.named.ensures)
    (writes_then c.named-2.ensures (writes_then c.named-3.ensures c.end_line.ensures))
