-- `Candidate::entries_formed` meets its contract. Assumes nothing.
use mathlib.Core.Path.{refl}
use Rattle.std.proofs.Common.{rules}
use Rattle.wellformed.proofs.Every.{every_by}
use Rattle.wellformed.proofs.candidates.Candidate.entries_formed.Goals as goal

pub returns : goal.returns
returns c = every_by _ _ _ _ _ refl (λ x b q k. search rules) c.all.ensures.ran
