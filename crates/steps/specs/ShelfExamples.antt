-- Where names and states stand on a shelf, and two saves word by word.
use Rattle.std.specs.Prelude.{ℕ, ◌≡◌, List, [], ◌∷◌, ◌++◌, replicate}
use Rattle.table.specs.Checks.{passes}
use Rattle.state.specs.Layout.{zc_at, zp_at}
use Rattle.state.specs.Entries.{entry}
use Rattle.steps.specs.Examples.{example, scratch, holding}
use Rattle.steps.specs.Shelves.{name_at, saved_at, shelf_words}
use Rattle.steps.specs.Points.{Change, save_of}

-- two states that differ in agents' entries, stamps, writers and sets
abbrev pub first : List ℕ
first = holding (zp_at 0) (entry 9 4 1) (entry 5 3 0)

abbrev pub second : List ℕ
second = holding (zc_at 0) (entry 6 2 0) (entry 8 1 1)

-- the first is saved on an empty shelf under name 7, then the second under name 255
abbrev pub once : Change
once = save_of example first scratch (replicate 37656 0) 7

abbrev pub twice : Change
twice = save_of example second scratch once.words 255

pub record ShelfExamples : Type 0 where
  -- eight names, then eight states of 4,706 words
  pub places : (name_at 0 ≡ 0) × (name_at 7 ≡ 7) × (saved_at 0 ≡ 8) × (saved_at 1 ≡ 4714) × (saved_at 7 ≡ 32950) × (shelf_words ≡ 37656)
  pub done : (once.check ≡ passes) × (twice.check ≡ passes)
  pub words : twice.words ≡ (7 ∷ 255 ∷ 0 ∷ 0 ∷ 0 ∷ 0 ∷ 0 ∷ 0 ∷ []) ++ (first ++ (second ++ replicate 28236 0))
