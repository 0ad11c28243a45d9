-- `rehearsal::labs_save` meets its contract.
-- Assumes nothing.
use borrow.Author.Rules.{rules}
use Rattle.rehearsal.proofs.Places.{save_near}
use Rattle.rehearsal.proofs.Packed.{place_near, answer_packs}
use Rattle.rehearsal.proofs.labs_save.Goals as goal

pub pack-requires-clause-near : goal.pack-requires-clause-near
pack-requires-clause-near c = place_near c.save.ensures.check (save_near _ _ _ _ _)

pub returns : goal.returns
returns c = answer_packs c.save.ensures c.pack.ensures (λ x h. search rules)
