-- What a derivation does, and how many words it leaves.
use Rattle.std.specs.Prelude.{ℕ, ◌+◌, ◌*◌, ◌≤◌, ◌≡◌, List, length}
use Rattle.table.specs.Tables.{Table}
use Rattle.term.specs.Terms.{words}
use Rattle.term.specs.Processes.{Derivation}
use Rattle.choice.specs.declared.Effect.{Effect}
use Rattle.choice.specs.Turns.{reach}
use Rattle.choice.specs.Marking.{Marked}

abbrev pub grown_by : Effect → ℕ → Effect
grown_by o n = record { label = o.label; size = o.size + n }

-- each step adds at most two words
abbrev pub most : ℕ → ℕ → ℕ
most level n = 2 * reach level n + 1

-- an outcome is that of derivation d, and leaves at most so many words
pub record Tells (d : Derivation) (limit : ℕ) (r : Effect) : Type 0 where
  pub label : r.label ≡ d.label
  pub size : r.size ≡ length (words d.leaving)
  pub bound : r.size ≤ limit

-- a walk to derivation d has marked its guards, and an outcome is d's
pub record Walked (t : Table) (d : Derivation) (limit : ℕ) (ms : List ℕ) (r : Effect) (out : List ℕ) : Type 0 where
  pub marked : Marked t d.guards ms out
  pub tells : Tells d limit r
