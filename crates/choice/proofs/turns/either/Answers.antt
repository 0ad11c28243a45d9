-- `either` meets its contract. Assumes nothing.
use borrow.Author.Tests.{lt-ltb, le-ltb}
use Rattle.choice.specs.Turns.{choice_turn}
use Rattle.choice.proofs.turns.either.Goals as goal

pub returns-then-c-k : goal.returns-then-c-k
unfolding choice_turn
returns-then-c-k c = rw (choice_turn, lt-ltb _ _ c.if-c-k.true) c.on_to.ensures

pub returns : goal.returns
unfolding choice_turn
returns c = rw (choice_turn, le-ltb _ _ c.if-c-k.false) c.on_to-2.ensures
