-- What load, step, preview and run answer: that check, counts and words are those of the definitions.
use Rattle.std.specs.Prelude.{ℕ, ◌≡◌, List, Result, Ok, Err}
use Rattle.table.specs.declared.refusals.Refused.{Refused}
use Rattle.table.specs.Refusals.{result_check}
use Rattle.steps.specs.declared.Tally.{Tally}
use Rattle.steps.specs.Tallies.{no_tally}
use Rattle.steps.specs.Steps.{Outcome}
use Rattle.steps.specs.Runs.{Progress, Rehearsal}
use Rattle.opening.specs.Answers.{Answers}
use Rattle.machine.specs.declared.Totals.{Totals}

-- step, preview: what it counts
abbrev pub step_tally : Result Tally Refused → Tally
step_tally (Ok tally) = tally
step_tally (Err e) = no_tally

-- run: the steps done and refused, and what they count
abbrev pub totals : ℕ → ℕ → Tally → Totals
totals done refused tally = record { done = done; refused = refused; tally = tally }

abbrev pub totals_of : Progress → Totals
totals_of p = totals p.done p.refused p.tally

abbrev pub run_totals : Result Totals Refused → Totals
run_totals (Ok counts) = counts
run_totals (Err e) = totals 0 0 no_tally

-- the answer r and the state after are those of an outcome, of load, and of a step or its preview
abbrev pub Loads : Outcome → Result (Unit {0}) Refused → List ℕ → Type 0
Loads o r after = Answers o.check o.state r after

pub record Steps (o : Outcome) (r : Result Tally Refused) (after : List ℕ) : Type 0 where
  pub check : result_check r ≡ o.check
  pub tally : step_tally r ≡ o.tally
  pub state : after ≡ o.state

-- the totals, the state and the answer bytes are those of a run so far
pub record Reports (p : Progress) (counts : Totals) (after bytes : List ℕ) : Type 0 where
  pub totals : counts ≡ totals_of p
  pub state : after ≡ p.state
  pub answers : bytes ≡ p.answers

-- and of a whole run
pub record Runs (o : Rehearsal) (r : Result Totals Refused) (after bytes : List ℕ) : Type 0 where
  pub check : result_check r ≡ o.check
  pub reports : Reports o.progress (run_totals r) after bytes
