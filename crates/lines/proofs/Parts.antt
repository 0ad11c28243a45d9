-- What the proofs of code open: the text of a line, and how long it is.
-- Assumes nothing.
use lib.ListN.{length-append}
use Rattle.lines.specs.Text.{spaced, line}
use Rattle.lines.specs.Lines.{totals_line, refused_line, clock_line, environment_line, attribute_line, entry_line, pending_line, value_line, key_line, member_line, agent_lines, state_lines}
use Rattle.lines.proofs.Pages.{writes_then}
use Rattle.lines.proofs.Writing.{spaced_size, line_size}

pub ruleset sizes = (line_size, spaced_size)

unfoldable pub texts : Unit {0}
unfolding spaced line totals_line refused_line clock_line environment_line attribute_line entry_line pending_line
texts = tt

-- the texts of a store's values and of an agent's pending keys
unfoldable pub members : Unit {0}
unfolding value_line key_line member_line
members = tt

-- the texts of an agent and of a state
pub ruleset joined = (length-append, writes_then)

unfoldable pub states : Unit {0}
unfolding agent_lines state_lines
states = tt
