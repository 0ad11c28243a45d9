-- `lines::stores::store_lines` meets its contract: the lines of the keys below the loop's have been written.
use Rattle.lines.specs.Text.{each_below}
use Rattle.lines.specs.Lines.{key_line}
use Rattle.lines.specs.Pages.{Writes}
use Rattle.lines.proofs.stores.store_lines.Given as goal

abbrev pub invariant-loop-key : goal.invariant-loop-key
invariant-loop-key l = Writes (each_below (key_line l.state.words.now l.store) l.key) l.initial.page l.page
