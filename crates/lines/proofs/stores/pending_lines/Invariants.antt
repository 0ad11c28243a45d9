-- `lines::stores::pending_lines` meets its contract: the lines of the keys below the loop's have been written.
use Rattle.lines.specs.Text.{each_below}
use Rattle.lines.specs.Lines.{member_line}
use Rattle.lines.specs.Pages.{Writes}
use Rattle.lines.proofs.stores.pending_lines.Given as goal

abbrev pub invariant-loop-key : goal.invariant-loop-key
invariant-loop-key l = Writes (each_below (member_line l.name l.agent l.keys) l.key) l.initial.page l.page
