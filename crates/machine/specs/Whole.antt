-- A schedule's length.
use Rattle.std.specs.Prelude.{ℕ, ◌+◌, ◌*◌, ◌≤◌, ◌≡◌, List, length}
use Rattle.steps.specs.Runs.{steps_of, step_limit}

-- 19 has passed: there are n steps
pub record Whole (schedule : List ℕ) (n : ℕ) : Type 0 where
  pub is : n ≡ steps_of schedule
  pub size : length schedule ≡ 2 + 5 * n
  pub steps : n ≤ step_limit
