-- `labs_show::rehearsal::show_rehearsal` meets its contract.
-- Assumes nothing.
use mathlib.Core.Path.{sym, ◌∙◌}
use Rattle.lines.specs.Lines.{refused_line}
use Rattle.lines.proofs.Pages.{writes_same}
use Rattle.labs_show.proofs.Shown.{shown_done, shown_refused}
use Rattle.labs_show.proofs.rehearsal.show_rehearsal.Goals as goal

pub run_lines-requires : goal.run_lines-requires
run_lines-requires c = (c.rehearse_input.ensures.fleet _ c.in-Ok.is, c.requires)

pub returns-in-Ok : goal.returns-in-Ok
returns-in-Ok c = writes_same (sym (shown_done c.rehearse_input.ensures _ c.in-Ok.is)) c.run_lines.ensures

pub returns-in-Err : goal.returns-in-Err
returns-in-Err c =
    writes_same ((λ i. refused_line (c.number.ensures i) (c.place.ensures i)) ∙ sym (shown_refused c.rehearse_input.ensures _ c.in-Err.is))
    c.refused_line.ensures
