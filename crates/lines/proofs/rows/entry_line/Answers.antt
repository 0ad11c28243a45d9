-- `lines::rows::entry_line` meets its contract.
-- Assumes nothing.
use Rattle.lines.proofs.Parts.{texts}
use Rattle.lines.proofs.Pages.{writes_then}
use Rattle.lines.proofs.rows.entry_line.Goals as goal

pub returns : goal.returns
unfolding texts
returns c =
    writes_then c.named.ensures (writes_then c.number.ensures (writes_then c.value.ensures
    (writes_then c.number-2.ensures (writes_then c.number-3.ensures c.end_line.ensures))))
