-- What is found of an act before anything is written.
use Rattle.std.specs.Prelude.{ℕ, List, Result}
use Rattle.table.specs.Checks.{first_of}
use Rattle.table.specs.Tables.{Table}
use Rattle.table.specs.declared.refusals.Refused.{Refused}
use Rattle.steps.specs.Acts.{act_checks, chosen}
use Rattle.judging.specs.declared.Allowed.{Allowed}
use Rattle.judging.specs.Guards.{guard_keys}
use Rattle.judging.specs.Outcomes.{Found}

-- the judgement of choice c of agent x
abbrev pub Judges : Table → List ℕ → ℕ → ℕ → Result Allowed Refused → Type 0
Judges t was x c r = Found t was x (chosen t was x c).label (guard_keys t (chosen t was x c).guards) (first_of (act_checks t was x c)) r
