-- `lines::fleet::fleet_lines` meets its contract: the lines of the agents below the loop's have been written.
use Rattle.lines.specs.Text.{each_below}
use Rattle.lines.specs.Lines.{agent_lines}
use Rattle.lines.specs.Pages.{Writes}
use Rattle.lines.proofs.fleet.fleet_lines.Given as goal

abbrev pub invariant-loop-agent : goal.invariant-loop-agent
invariant-loop-agent l = Writes (each_below (agent_lines l.state.words.now) l.agent) l.initial.page l.page
