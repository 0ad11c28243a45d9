-- `beside` meets its contract. Assumes nothing.
use borrow.Author.Tests.{eq-eqb, ne_eqb}
use Rattle.residual.specs.Steps.{beside_of}
use Rattle.residual.proofs.steps.beside.Goals as goal

pub returns-then-word-eq-SEQ_WORD : goal.returns-then-word-eq-SEQ_WORD
unfolding beside_of
returns-then-word-eq-SEQ_WORD c = rw (beside_of, eq-eqb _ _ c.if-word-eq-SEQ_WORD.true)

pub returns : goal.returns
unfolding beside_of
returns c = rw (beside_of, ne_eqb _ _ c.if-word-eq-SEQ_WORD.false) c.acting.ensures
