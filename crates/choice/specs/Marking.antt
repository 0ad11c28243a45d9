-- Marks, a bit for each node: a guard's says that it is collected, a process's that its only tick has been walked.
use Rattle.std.specs.Prelude.{ℕ, ◌*◌, ◌/◌, ◌%◌, ◌^◌, ◌<◌, ◌≤◌, Bool, true, false, ◌&&◌, ◌||◌, ◌≡◌, Option, Some, None, List, [], ◌∷◌, eqb, length, get_or, set}
use Rattle.std.specs.Int.Count.{count_trailing_zeros}
use Rattle.basis.specs.KeySets.{has, plus}
use Rattle.table.specs.Tables.{Table, kind_at}
use Rattle.table.specs.Nodes.{is_process, is_guard}
use Rattle.term.specs.declared.Mode.{Mode}
use Rattle.term.specs.declared.Mode.TheVariants.{Any, Actions, Ticks}
use Rattle.term.specs.Processes.{node_process}
use Rattle.accept.specs.declared.Counts.{Counts}
use Rattle.choice.specs.Chosen.{chosen_in}

abbrev pub only_tick : Mode → Counts → Bool
only_tick Any c = false
only_tick Actions c = false
only_tick Ticks c = eqb c.ticks 1

-- node n's mark is bit n % 32 of word n / 32
abbrev pub has_mark : List ℕ → ℕ → Bool
has_mark ms n = has (get_or ms (n / 32) 0) (n % 32)

-- node n has been marked: its word has become another
pub record WithMark (ms : List ℕ) (n : ℕ) (out : List ℕ) : Type 0 where
  pub word : ℕ
  pub is : word ≡ plus (get_or ms (n / 32) 0) (n % 32)
  pub changed : out ≡ set ms (n / 32) word

-- the zeros in the word of node n's mark after it, up to the next 1
abbrev pub zeros_after : List ℕ → ℕ → ℕ
zeros_after ms n = count_trailing_zeros 32 (get_or ms (n / 32) 0 / 2 ^ (n % 32) / 2)

-- node n is a guard, and marked
abbrev pub marked_guard : List ℕ → List ℕ → ℕ → Bool
marked_guard kinds ms n = is_guard (get_or kinds n 0) && has_mark ms n

-- r is the lowest number from a number on that passes, and is below the limit
pub record Lowest (test : ℕ → Bool) (limit from r : ℕ) : Type 0 where
  pub ahead : from ≤ r
  pub none : (k : ℕ) → from ≤ k → k < r → test k ≡ false
  pub below : r < limit
  pub is : test r ≡ true

-- the lowest number from a number on and below the limit that passes, or none where none does
abbrev pub Next : (ℕ → Bool) → ℕ → ℕ → Option ℕ → Type 0
Next test limit from None = (k : ℕ) → from ≤ k → k < limit → test k ≡ false
Next test limit from (Some r) = Lowest test limit from r

-- b is one of these nodes
unfoldable pub is_in : ℕ → List ℕ → Bool
is_in b [] = false
is_in b (x ∷ xs) = eqb b x || is_in b xs

-- there is a bit for each node, and the guards of a walked node's only tick are marked
pub record WalkMarks (t : Table) (ms : List ℕ) : Type 0 where
  pub room : t.sizes.nodes ≤ 32 * length ms
  pub walked : (n : ℕ) → is_process (kind_at t n) ≡ true → has_mark ms n ≡ true →
      (b : ℕ) → is_guard (kind_at t b) ≡ true → is_in b (chosen_in Ticks (node_process t n) 0).guards ≡ true → has_mark ms b ≡ true

-- a guard is marked after where it was before, or is one of these
pub record Marked (t : Table) (gs ms out : List ℕ) : Type 0 where
  pub marks : WalkMarks t out
  pub same : length out ≡ length ms
  pub guards : (b : ℕ) → is_guard (kind_at t b) ≡ true → has_mark out b ≡ (has_mark ms b || is_in b gs)
