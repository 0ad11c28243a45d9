-- `lines::rows::pending_line` meets its contract.
-- Assumes nothing.
use mathlib.Core.List.{◌++◌, append_assoc}
use Rattle.lines.specs.Text.{ascii, decimal}
use Rattle.lines.proofs.Parts.{texts}
use Rattle.lines.proofs.Pages.{writes_same, writes_then}
use Rattle.lines.proofs.rows.pending_line.Goals as goal

pub returns : goal.returns
unfolding texts
returns c =
    let a = c.args in
    writes_same (append_assoc a.name.now (ascii " " ++ decimal a.agent) _)
    (writes_then c.named.ensures (writes_then c.number.ensures c.end_line.ensures))
