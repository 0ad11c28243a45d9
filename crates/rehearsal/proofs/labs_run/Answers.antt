-- `rehearsal::labs_run` meets its contract.
-- Assumes nothing.
use borrow.Author.Rules.{rules}
use Rattle.rehearsal.proofs.Places.{run_near}
use Rattle.rehearsal.proofs.Packed.{place_near, default_totals, run_packs}
use Rattle.rehearsal.proofs.labs_run.Goals as goal

pub pack-requires-clause-near : goal.pack-requires-clause-near
pack-requires-clause-near c = place_near c.run-answer.ensures.check (run_near _ _ _ _ _)

pub returns : goal.returns
returns c =
    let t = default_totals (λ x h. search rules) c.run-answer.result c.unwrap_or_default.ensures in
    run_packs c.run-answer.ensures t c.write_totals.ensures c.pack.ensures (λ x h. search rules)
