-- `lines::fleet::agent_lines` meets its contract.
-- Assumes nothing.
use Rattle.lines.proofs.Parts.{states}
use Rattle.lines.proofs.Pages.{writes_then}
use Rattle.lines.proofs.fleet.agent_lines.Goals as goal

pub returns : goal.returns
unfolding states
returns c =
    let p = rw c.zc_at.ensures.is at c.pending_lines.ensures in
    let q = rw c.zp_at.ensures.is at c.pending_lines-2.ensures in
    writes_then (writes_then (writes_then c.store_lines.ensures c.store_lines-2.ensures) p) q
