-- What save, restore and drop answer is what the definitions give.
use Rattle.std.specs.Prelude.{ℕ, List, Result}
use Rattle.table.specs.declared.refusals.Refused.{Refused}
use Rattle.steps.specs.Points.{Change}
use Rattle.opening.specs.Answers.{Answers}

-- the answer r, and the words after of the buffer that the call may write, are those of a change
abbrev pub Changes : Change → Result (Unit {0}) Refused → List ℕ → Type 0
Changes c r after = Answers c.check c.words r after
