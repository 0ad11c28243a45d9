-- `accept::judge_lent` meets its contract.
-- Assumes nothing.
use mathlib.Core.List.{[], ◌∷◌}
use native.Mathlib.Omega.{arith}
use lib.ListN.{length}
use Rattle.table.specs.Fleets.{table_in}
use Rattle.term.specs.Parts.{content_checks}
use Rattle.accept.specs.Answers.{lent_line}
use Rattle.accept.proofs.Answering.{judged_refused, judged_later, lent_not, lent_short, lent_enough}
use Rattle.accept.proofs.judge_lent.Goals as goal
use Rattle.accept.proofs.judge_lent.Goals.{then-not-fits-via-then-not-fits, then-not-fits-via-else-not-fits+then-scratch-scratch_words}

pub returns-then-not-fits : goal.returns-then-not-fits
returns-then-not-fits c =
    let a = c.args in
    let t = table_in a.fleet.now in
    let n = length a.scratch.now in
    judged_refused (lent_line t.sizes a.fits n ∷ []) (content_checks t) _
    (elim c.then-not-fits.branch [
      | then-not-fits-via-then-not-fits w ↦ lent_not t.sizes a.fits n w.if-not-fits.true
      | then-not-fits-via-else-not-fits+then-scratch-scratch_words w ↦ lent_short t.sizes a.fits n (omega (arith, w.scratch_words.ensures, w.if-scratch-scratch_words.true))
    ])

pub returns : goal.returns
returns c =
    let a = c.args in
    let t = table_in a.fleet.now in
    let n = length a.scratch.now in
    judged_later (lent_line t.sizes a.fits n ∷ []) (content_checks t)
    (lent_enough t.sizes a.fits n c.if-not-fits.false (omega arith)) c.judge.ensures
