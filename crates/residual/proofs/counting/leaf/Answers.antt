-- `leaf` meets its contract. Assumes nothing.
use mathlib.Core.Path.{refl}
use borrow.Author.Tests.{eq-eqb, ne_eqb, lt-ltb, le-ltb}
use Rattle.residual.specs.Measures.{leaf_counts}
use Rattle.residual.proofs.counting.leaf.Goals as goal

pub returns-then-word-eq-TICK_WORD : goal.returns-then-word-eq-TICK_WORD
unfolding leaf_counts
returns-then-word-eq-TICK_WORD c = rw (leaf_counts, eq-eqb _ _ c.if-word-eq-TICK_WORD.true) refl

pub returns-then-n-roots : goal.returns-then-n-roots
unfolding leaf_counts
returns-then-n-roots c = rw (leaf_counts, ne_eqb _ _ c.if-word-eq-TICK_WORD.false, lt-ltb _ _ c.if-n-roots.true) c.pair.ensures

pub returns-else-n-roots : goal.returns-else-n-roots
unfolding leaf_counts
returns-else-n-roots c = rw (leaf_counts, ne_eqb _ _ c.if-word-eq-TICK_WORD.false, le-ltb _ _ c.if-n-roots.false) refl
