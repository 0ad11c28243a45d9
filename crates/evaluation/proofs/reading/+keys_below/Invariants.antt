-- `evaluation::reading::keys_below` meets its contract. The measure is the limit: a call's limit is the node, which is below it.
use Rattle.evaluation.proofs.reading.+keys_below.Given as goal

abbrev pub decreases-keys_below : goal.decreases-keys_below
decreases-keys_below l = l.limit
