-- `shelf_formed` meets its contract: each place is well formed. Assumes nothing.
use mathlib.Core.Path.{refl}
use Rattle.std.proofs.Common.{rules}
use Rattle.steps.specs.Shelves.{shelf_formed}
use Rattle.wellformed.proofs.Every.{every_by}
use Rattle.shelf.proofs.forming.shelf_formed.Goals as goal

pub returns : goal.returns
unfolding shelf_formed
returns c = every_by _ _ _ _ _ refl (λ x b q k. search rules) c.all.ensures.ran
