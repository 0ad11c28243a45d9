-- `rehearsal::labs_restore` meets its contract.
-- Assumes nothing.
use borrow.Author.Rules.{rules}
use Rattle.rehearsal.proofs.Places.{restore_near}
use Rattle.rehearsal.proofs.Packed.{place_near, answer_packs}
use Rattle.rehearsal.proofs.labs_restore.Goals as goal

pub pack-requires-clause-near : goal.pack-requires-clause-near
pack-requires-clause-near c = place_near c.restore.ensures.check (restore_near _ _ _ _ _)

pub returns : goal.returns
returns c = answer_packs c.restore.ensures c.pack.ensures (λ x h. search rules)
