-- `combined` meets its contract. Assumes nothing.
use borrow.Author.Tests.{eq-eqb, ne_eqb}
use Rattle.residual.specs.Measures.{operator_counts}
use Rattle.residual.proofs.counting.combined.Goals as goal

pub returns-then-word-eq-SEQ_WORD : goal.returns-then-word-eq-SEQ_WORD
unfolding operator_counts
returns-then-word-eq-SEQ_WORD c = rw (operator_counts, eq-eqb _ _ c.if-word-eq-SEQ_WORD.true) c.sequence.ensures

pub returns : goal.returns
unfolding operator_counts
returns c = rw (operator_counts, ne_eqb _ _ c.if-word-eq-SEQ_WORD.false) c.parallel.ensures
