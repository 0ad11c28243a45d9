-- `lines::page::Page::value` meets its contract.
-- Assumes nothing.
use mathlib.Core.Path.{ap, ◌∙◌}
use lib.IntN.{ℤ}
use mir.Syntax.{w32}
use mir.Val.{to_z, of_z}
use Rattle.std.proofs.Math.Facts.{of_z-to_z}
use Rattle.lines.specs.Text.{signed_decimal}
use Rattle.lines.proofs.Pages.{writes_same, writes_then}
use Rattle.lines.proofs.page.Page.value.Goals as goal

pub returns : goal.returns
returns c =
    let f = c.ranges.word in
    let e = ap (λ (z : ℤ). to_z w32 (of_z w32 z)) c.cast_signed.ensures ∙ ap (to_z w32) (of_z-to_z f) in
    writes_then c.put.ensures (writes_same (ap signed_decimal e) c.signed.ensures)
