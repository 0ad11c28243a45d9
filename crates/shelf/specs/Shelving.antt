-- What the shelf's functions answer.
use Rattle.std.specs.Prelude.{ℕ, ◌+◌, ◌≤◌, ◌<◌, Bool, true, false, ◌≡◌, List, [], ◌∷◌, Option, Some, None, Result, Ok, Err}
use Rattle.table.specs.declared.fleets.Fleet.{Fleet}
use Rattle.table.specs.declared.refusals.Refused.{Refused}
use Rattle.table.specs.Checks.{first_of}
use Rattle.table.specs.Refusals.{result_check}
use Rattle.table.specs.Fleets.{table_in}
use Rattle.state.specs.Layout.{state_words}
use Rattle.steps.specs.Shelves.{place_limit, saved_at, shelf_words}
use Rattle.steps.specs.Points.{shelf_check}

-- r is where the state of a place stands
pub record SavedAt (place r : ℕ) : Type 0 where
  pub is : r ≡ saved_at place
  pub fits : r + state_words ≤ shelf_words

-- this place is found, where there is one
abbrev pub Found : Bool → ℕ → Option ℕ → Type 0
Found there place None = there ≡ false
Found there place (Some r) = (r < place_limit) × (there ≡ true) × (r ≡ place)

-- the answer r: what was judged earlier, and where that passes 9 of the shelf
abbrev pub ShelfJudged : Result Fleet Refused → List ℕ → Result (Unit {0}) Refused → Type 0
ShelfJudged (Ok f) shelf r = result_check r ≡ first_of (shelf_check (table_in f) shelf ∷ [])
ShelfJudged (Err e) shelf r = r ≡ Err e
