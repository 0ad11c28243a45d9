-- `lines::fleet::fleet_lines` meets its contract: the lines of the agents below the loop's have been written.
-- Assumes nothing.
use borrow.Author.Rules.{rules}
use Rattle.lines.proofs.Each.{each_none, each_room, each_more}
use Rattle.lines.proofs.fleet.fleet_lines.Goals as goal

pub loop-agent-init : goal.loop-agent-init
loop-agent-init c = each_none _ _ c.requires

pub agent_lines-requires : goal.agent_lines-requires
agent_lines-requires c = (search rules, each_room _ _ _ c.requires c.loop-agent.invariant (search rules))

pub loop-agent-preserved : goal.loop-agent-preserved
loop-agent-preserved c = each_more _ _ c.loop-agent.invariant c.agent_lines.ensures
