-- What a step counts, and the sums of a run.
use Rattle.std.specs.Prelude.{ℕ, ◌+◌}
use Rattle.steps.specs.declared.Tally.{Tally}

-- how many agents had no entry and take one, and how many had an older one
abbrev pub tally : ℕ → ℕ → Tally
tally added replaced = record { added = added; replaced = replaced }

abbrev pub no_tally : Tally
no_tally = tally 0 0

abbrev pub add_tally : Tally → Tally → Tally
add_tally p q = tally (p.added + q.added) (p.replaced + q.replaced)

-- how many take an entry
abbrev pub taken : Tally → ℕ
taken c = c.added + c.replaced
