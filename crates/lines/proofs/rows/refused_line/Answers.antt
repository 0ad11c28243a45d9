-- `lines::rows::refused_line` meets its contract.
-- Assumes nothing.
use Rattle.lines.proofs.Parts.{texts}
use Rattle.lines.proofs.Pages.{writes_then}
use Rattle.lines.proofs.rows.refused_line.Goals as goal

pub returns : goal.returns
unfolding texts
returns c = writes_then (rw c.from.ensures at c.named.ensures) (writes_then c.number.ensures c.end_line.ensures)
