-- Result numbers in a lent buffer.
use Rattle.std.specs.Prelude.{ℕ, List, [], ◌∷◌, ◌++◌, length, take, drop}
use Rattle.machine.specs.declared.Totals.{Totals}

-- numbers in the first words of a buffer, as many as it has room for; the words after them stay
abbrev pub written : List ℕ → List ℕ → List ℕ
written numbers words = take (length words) numbers ++ drop (length numbers) words

-- what a run reports: its steps done and refused, and how often an entry was added and replaced
abbrev pub total_numbers : Totals → List ℕ
total_numbers c = c.done ∷ c.refused ∷ c.tally.added ∷ c.tally.replaced ∷ []
