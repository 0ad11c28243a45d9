-- `rehearsal::labs_step` meets its contract.
-- Assumes nothing.
use borrow.Author.Rules.{rules}
use Rattle.rehearsal.proofs.Places.{step_near}
use Rattle.rehearsal.proofs.Packed.{place_near, step_packs}
use Rattle.rehearsal.proofs.labs_step.Goals as goal

pub pack-requires-clause-near : goal.pack-requires-clause-near
pack-requires-clause-near c = place_near c.step.ensures.check (step_near _ _ _ _ _ _)

pub returns : goal.returns
returns c = step_packs c.step.ensures c.pack.ensures (λ x h. search rules)
