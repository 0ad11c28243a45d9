-- A step as it is asked for, and its kind.
use Rattle.std.specs.Prelude.{ℕ, ◌≤◌, true, false, ◌≡◌, List, Result, Ok, Err}
use Rattle.table.specs.Tables.{Table}
use Rattle.table.specs.declared.refusals.Refused.{Refused}
use Rattle.table.specs.declared.refusals.Refused.TheVariants.{StepOutOfRange}
use Rattle.steps.specs.Steps.{Outcome, out_of_range, step_in}
use Rattle.machine.specs.declared.requests.Kind.{Kind}
use Rattle.machine.specs.declared.requests.Kind.TheVariants.{Act, Propagate, Confirm}
use Rattle.machine.specs.declared.requests.Request.{Request}

-- the byte of each kind
abbrev pub byte_of : Kind → ℕ
byte_of Act = 0
byte_of Propagate = 1
byte_of Confirm = 2

-- a byte names a kind, or none
abbrev pub Names : ℕ → Result Kind Refused → Type 0
Names byte (Ok kind) = byte_of kind ≡ byte
Names byte (Err e) = (e ≡ StepOutOfRange) × (3 ≤ byte)

abbrev pub request : ℕ → ℕ → ℕ → Request
request kind agent number = record { kind = kind; agent = agent; number = number }

-- 10, of a request; where it passes, its kind
abbrev pub InRange : Table → Request → Result Kind Refused → Type 0
InRange t q (Ok kind) = (out_of_range t q.kind q.agent q.number ≡ false) × (byte_of kind ≡ q.kind)
InRange t q (Err e) = (out_of_range t q.kind q.agent q.number ≡ true) × (e ≡ StepOutOfRange)

-- what the step that is asked for comes to
abbrev pub step_asked : Table → List ℕ → Request → Outcome
step_asked t was q = step_in t was q.kind q.agent q.number
