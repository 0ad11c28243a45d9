-- Save, restore and drop: for every input, what is answered, and every word of state and shelf after.
use Rattle.std.specs.Prelude.{ℕ, not, ◌&&◌, ◌||◌, List, [], ◌∷◌, ◌++◌}
use Rattle.table.specs.Checks.{Check, Refusal, refuse_if, first_of, if_passes}
use Rattle.table.specs.Tables.{Table, table_of}
use Rattle.term.specs.Acceptance.{table_checks}
use Rattle.steps.specs.Steps.{state_checks_with}
use Rattle.steps.specs.Shelves.{is_name, is_whole_shelf, is_held, place_of, save_place, saved_of, shelf_formed, put_saved, put_name}

-- what a call that may write one lent buffer comes to: its check, and the words of that buffer after
pub record Change : Type 0 where
  pub check : Check
  pub words : List ℕ

unfoldable pub change : Check → List ℕ → List ℕ → Change
change c was words = record { check = c; words = if_passes c words was }

-- 9: the shelf is not well formed
abbrev pub shelf_check : Table → List ℕ → Refusal
shelf_check t shelf = refuse_if 9 (not (shelf_formed shelf t))

-- a save's own: 21, it is no name; 22, a new name meets eight held ones
abbrev pub save_checks : List ℕ → ℕ → List Refusal
save_checks shelf name = refuse_if 21 (not (is_name name)) ∷ refuse_if 22 (not (is_held shelf name || is_held shelf 0)) ∷ []

-- a restore's and a drop's: 21, it is no name, or is not held
abbrev pub held_checks : List ℕ → ℕ → List Refusal
held_checks shelf name = refuse_if 21 (not (is_name name && is_held shelf name)) ∷ []

-- WHAT IS WRITTEN: the shelf after a save, the state after a restore, the shelf after a drop
abbrev pub saved : List ℕ → List ℕ → ℕ → List ℕ
saved state shelf name = let i = save_place shelf name in put_name (put_saved shelf i state) i name

abbrev pub restored : List ℕ → ℕ → List ℕ
restored shelf name = saved_of shelf (place_of shelf name)

abbrev pub dropped : List ℕ → ℕ → List ℕ
dropped shelf name = put_name shelf (place_of shelf name) 0

module _ (bytes : List ℕ) where
  -- SAVE: the state goes to the shelf under the name. 8 judges the shelf's length too. The words are the shelf's
  unfoldable pub save_of : List ℕ → ℕ → List ℕ → ℕ → Change
  save_of state scratchLength shelf name =
      change (first_of (state_checks_with (is_whole_shelf shelf) bytes state scratchLength ++ (shelf_check (table_of bytes) shelf ∷ save_checks shelf name)))
      shelf (saved state shelf name)

  -- RESTORE: the state becomes the one that was saved under the name. The words are the state's
  unfoldable pub restore_of : List ℕ → ℕ → List ℕ → ℕ → Change
  restore_of state scratchLength shelf name =
      change (first_of (state_checks_with (is_whole_shelf shelf) bytes state scratchLength ++ (shelf_check (table_of bytes) shelf ∷ held_checks shelf name)))
      state (restored shelf name)

  -- DROP: the word of the name becomes 0. There is no state; the words are the shelf's
  unfoldable pub drop_of : ℕ → List ℕ → ℕ → Change
  drop_of scratchLength shelf name =
      change (first_of (table_checks bytes (is_whole_shelf shelf) scratchLength ++ (shelf_check (table_of bytes) shelf ∷ held_checks shelf name)))
      shelf (dropped shelf name)
