-- `rehearsal::labs_load` meets its contract.
-- Assumes nothing.
use borrow.Author.Rules.{rules}
use Rattle.rehearsal.proofs.Places.{load_near}
use Rattle.rehearsal.proofs.Packed.{place_near, answer_packs}
use Rattle.rehearsal.proofs.labs_load.Goals as goal

pub pack-requires-clause-near : goal.pack-requires-clause-near
pack-requires-clause-near c = place_near c.load.ensures.check (load_near _ _ _)

pub returns : goal.returns
returns c = answer_packs c.load.ensures c.pack.ensures (λ x h. search rules)
