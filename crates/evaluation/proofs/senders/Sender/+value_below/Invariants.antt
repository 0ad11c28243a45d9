-- `Sender::value_below` meets its contract: the kind picks the case. The measure is the limit: a call's limit is the node, which is below it.
use Rattle.evaluation.proofs.senders.Sender.+value_below.Given as goal

abbrev pub decreases-value_below : goal.decreases-value_below
decreases-value_below l = l.limit
