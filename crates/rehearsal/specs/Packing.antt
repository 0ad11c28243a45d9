-- Answers as one number: refused 2^63 + 65,536 x place + refusal; done, what the call reports.
use Rattle.std.specs.Prelude.{ℕ, ◌+◌, ◌*◌, ◌^◌, ◌≡◌, List}
use Rattle.table.specs.Checks.{Check, passes, refuses}
use Rattle.steps.specs.declared.Tally.{Tally}
use Rattle.steps.specs.Steps.{Outcome}
use Rattle.steps.specs.Runs.{Rehearsal}
use Rattle.steps.specs.Points.{Change}
use Rattle.machine.specs.Answers.{totals_of}
use Rattle.rehearsal.specs.Results.{written, total_numbers}

abbrev pub packed : Check → ℕ → ℕ
packed passes report = report
packed (refuses number place) report = 2 ^ 63 + 65536 * place + number

-- what a step reports
abbrev pub packed_tally : Tally → ℕ
packed_tally c = c.added + 65536 * c.replaced

-- a call that reports 0: the number r is that of check c, and the buffer that it may write holds the words ws after
pub record AnswerPacked (c : Check) (ws : List ℕ) (r : ℕ) (after : List ℕ) : Type 0 where
  pub answer : r ≡ packed c 0
  pub words : after ≡ ws

-- load, with its state; save, restore and drop, with the shelf or the state
abbrev pub LoadPacked : Outcome → ℕ → List ℕ → Type 0
LoadPacked o r after = AnswerPacked o.check o.state r after

abbrev pub ChangePacked : Change → ℕ → List ℕ → Type 0
ChangePacked c r after = AnswerPacked c.check c.words r after

-- a step, or its preview, reports how many agents took the entry: those that had none, and those that had an older one
pub record StepPacked (o : Outcome) (r : ℕ) (after : List ℕ) : Type 0 where
  pub answer : r ≡ packed o.check (packed_tally o.tally)
  pub state : after ≡ o.state

-- a run reports 0. Its totals stand in the first words of a buffer that held `lent`, all 0 where it is refused
pub record RunPacked (o : Rehearsal) (lent : List ℕ) (r : ℕ) (after bytes results : List ℕ) : Type 0 where
  pub answer : r ≡ packed o.check 0
  pub state : after ≡ o.progress.state
  pub answers : bytes ≡ o.progress.answers
  pub totals : results ≡ written (total_numbers (totals_of o.progress)) lent
