-- `start` meets its contract: the agents below `agent` are started.
use mathlib.Core.Path.{◌≡◌}
use Rattle.basis.specs.Numbers.{for_each}
use Rattle.table.specs.Tables.{Table, first_agent_root}
use Rattle.state.specs.WellFormed.{started}
use Rattle.wellformed.proofs.loading.start.Given as goal

abbrev pub invariant-loop-agent : goal.invariant-loop-agent
invariant-loop-agent l =
    (t : Table) → first_agent_root t ≡ l.first → t.operands ≡ l.operands → l.state ≡ for_each (started t) l.agent l.initial.state
