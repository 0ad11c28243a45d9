-- `Sender::truths_below` meets its contract. The measure is the limit: a call's limit is the node, which is below it.
use Rattle.evaluation.proofs.senders.Sender.+truths_below.Given as goal

abbrev pub decreases-truths_below : goal.decreases-truths_below
decreases-truths_below l = l.limit
