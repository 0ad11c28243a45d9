-- Preview: a step on a copy, with the state after in a second buffer.
use Rattle.std.specs.Prelude.{ℕ, true, false, ◌≡◌, List, ◌++◌}
use Rattle.table.specs.Checks.{passes, refuses, first_of}
use Rattle.table.specs.Tables.{table_of}
use Rattle.term.specs.Acceptance.{table_checks}
use Rattle.state.specs.Layout.{is_whole}
use Rattle.steps.specs.Steps.{Outcome, refused as refused_at, outcome, tally_of, after, step_checks, state_checks_with, step_of}

-- `next` is the second buffer as it came; 8 judges its length too
unfoldable pub preview_of : List ℕ → List ℕ → ℕ → ℕ → ℕ → ℕ → List ℕ → Outcome
preview_of bytes was scratchLength kind x number next =
    outcome (first_of (state_checks_with (is_whole next) bytes was scratchLength ++ step_checks (table_of bytes) was kind x number)) next
    (tally_of (table_of bytes) was kind x number) (after (table_of bytes) was kind x number)

-- the same in other words
pub record OnACopy (bytes was : List ℕ) (scratch kind x number : ℕ) (next : List ℕ) : Type 0 where
  -- where it is done, it comes to what the step does
  pub done : (preview_of bytes was scratch kind x number next).check ≡ passes
      → preview_of bytes was scratch kind x number next ≡ step_of bytes was scratch kind x number
  -- where it is refused, the second buffer stays
  pub refused : (n place : ℕ) → (preview_of bytes was scratch kind x number next).check ≡ refuses n place
      → preview_of bytes was scratch kind x number next ≡ refused_at n place next
  -- the answer is the step's; where the second buffer's length is wrong, 8, unless the table has 1, 2 or 3
  pub whole : is_whole next ≡ true
      → (preview_of bytes was scratch kind x number next).check ≡ (step_of bytes was scratch kind x number).check
  pub wrong : is_whole next ≡ false
      → (preview_of bytes was scratch kind x number next).check ≡ first_of (table_checks bytes false scratch)
