-- `Sender::compare_all` meets its contract: what is found, with the agents that are left, is what all agents come to.
use Rattle.table.specs.Fleets.{table_in}
use Rattle.evaluation.specs.Sets.{comparison}
use Rattle.evaluation.proofs.Sets.{Left}
use Rattle.evaluation.proofs.senders.Sender.compare_all.Given as goal

abbrev pub invariant-loop-agent : goal.invariant-loop-agent
invariant-loop-agent l =
    Left l.agents l.agent-iterator.0 (λ y. comparison (table_in l.self.fleet) l.self.state.now l.self.agent y l.node) l.found
