-- A schedule that may be run, and the totals of its steps.
use Rattle.std.specs.Prelude.{ℕ, ◌+◌, ◌*◌, ◌<◌, ◌≤◌, cond, ◌≡◌, ◌⊎◌, List, length, get_or, Result, Ok, Err}
use Rattle.table.specs.Checks.{passes, first_of, passed}
use Rattle.table.specs.declared.refusals.Refused.{Refused}
use Rattle.table.specs.declared.refusals.Refused.TheVariants.{ScheduleLength}
use Rattle.table.specs.Refusals.{check_of, result_check}
use Rattle.steps.specs.declared.Tally.{Tally}
use Rattle.steps.specs.Tallies.{add_tally}
use Rattle.steps.specs.Runs.{steps_of, kind_in, agent_in, number_in, step_limit, schedule_checks}
use Rattle.offering.specs.Passing.{TallyWithin}
use Rattle.machine.specs.declared.schedule.Schedule.{Schedule}
use Rattle.machine.specs.declared.requests.Request.{Request}
use Rattle.machine.specs.declared.Totals.{Totals}
use Rattle.machine.specs.Answers.{step_tally, totals}
use Rattle.machine.specs.Requests.{request}

-- bytes, as a slice of them holds
abbrev pub IsNarrow : List ℕ → Type 0
IsNarrow bytes = (i : ℕ) → get_or bytes i 0 < 256

-- 19, of a schedule's bytes
abbrev pub Measures : List ℕ → Result Schedule Refused → Type 0
Measures bytes (Ok s) = s.bytes.now ≡ bytes
Measures bytes (Err e) =
    (e ≡ ScheduleLength) × ((length bytes < 2) ⊎ ((length bytes ≡ 2 + 5 * steps_of bytes → ⊥) ⊎ (step_limit < steps_of bytes)))

-- 19 and 20: the steps of a schedule that may be run
abbrev pub Schedules : List ℕ → List ℕ → Result Schedule Refused → Type 0
Schedules bytes answers (Ok s) = (first_of (schedule_checks bytes answers) ≡ passes) × (s.bytes.now ≡ bytes) × (s.steps ≤ length answers)
Schedules bytes answers (Err e) = first_of (schedule_checks bytes answers) ≡ check_of e

-- step i of a schedule
abbrev pub request_in : List ℕ → ℕ → Request
request_in bytes i = request (kind_in bytes i) (agent_in bytes i) (number_in bytes i)

-- the totals with one more step
abbrev pub tallied : Totals → Result Tally Refused → Totals
tallied c r =
    totals (c.done + cond (passed (result_check r)) 1 0) (c.refused + cond (passed (result_check r)) 0 1) (add_tally c.tally (step_tally r))

-- totals of at most so many steps
pub record TotalsWithin (n : ℕ) (c : Totals) : Type 0 where
  pub done : c.done ≤ n
  pub refused : c.refused ≤ n
  pub tally : TallyWithin n c.tally

-- what so few steps count has room for one more
abbrev pub CanTally : Totals → Result Tally Refused → Type 0
CanTally c r = TotalsWithin step_limit c × TallyWithin 1 (step_tally r)
