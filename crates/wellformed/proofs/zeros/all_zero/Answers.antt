-- `all_zero` meets its contract. Assumes nothing.
use Rattle.std.proofs.Common.{rules}
use Rattle.wellformed.proofs.Joining.{joined_zero}
use Rattle.wellformed.proofs.zeros.all_zero.Goals as goal

pub returns : goal.returns
returns c = joined_zero _ (λ a x b q k. search rules) _ _ c.iter.ensures.rest c.fold.ensures.ran
