-- Points to come back to: a lent shelf has eight name words, 0 for a free place, and then eight states in the same order.
use Rattle.std.specs.Prelude.{ℕ, ◌+◌, ◌*◌, Bool, cond, ◌&&◌, ◌||◌, List, ◌++◌, eqb, leb, ltb, length, get_or, set, take, drop}
use Rattle.basis.specs.Numbers.{some_below, every, lowest}
use Rattle.table.specs.Tables.{Table}
use Rattle.state.specs.Layout.{state_words}
use Rattle.state.specs.WellFormed.{well_formed}

-- HOW MANY places, and the highest name
abbrev pub place_limit : ℕ
place_limit = 8

abbrev pub name_limit : ℕ
name_limit = 255

-- WHERE the name and the state of place i stand
abbrev pub name_at : ℕ → ℕ
name_at i = i

abbrev pub saved_at : ℕ → ℕ
saved_at i = place_limit + state_words * i

abbrev pub shelf_words : ℕ
shelf_words = saved_at place_limit

-- a name: 1 to 255
abbrev pub is_name : ℕ → Bool
is_name name = ltb 0 name && leb name name_limit

module _ (shelf : List ℕ) where
  abbrev pub is_whole_shelf : Bool
  is_whole_shelf = eqb (length shelf) shelf_words

  -- WHAT STANDS THERE: the name word of place i, and its state
  abbrev pub name_of : ℕ → ℕ
  name_of i = get_or shelf (name_at i) 0

  abbrev pub saved_of : ℕ → List ℕ
  saved_of i = take state_words (drop (saved_at i) shelf)

  -- place i has the name; 0 is that of a free place
  abbrev pub is_named : ℕ → ℕ → Bool
  is_named name i = eqb (name_of i) name

  -- some place has the name; of 0, some place is free
  abbrev pub is_held : ℕ → Bool
  is_held name = some_below (is_named name) place_limit

  -- the lowest place with the name, of 0 the lowest free one; 8, which is no place, where there is none
  abbrev pub place_of : ℕ → ℕ
  place_of name = lowest (is_named name) place_limit

  -- a held name keeps its place; a new one takes the lowest free place
  abbrev pub save_place : ℕ → ℕ
  save_place name = cond (is_held name) (place_of name) (place_of 0)

  -- WELL FORMED: place i is free; or its name is at most 255, no lower place has it, and its state is well formed
  unfoldable pub place_formed : Table → ℕ → Bool
  place_formed t i =
      eqb (name_of i) 0
      || (leb (name_of i) name_limit
      && (eqb (place_of (name_of i)) i
      && well_formed t (saved_of i)))

  unfoldable pub shelf_formed : Table → Bool
  shelf_formed t = every (place_formed t) place_limit

  -- CHANGES. Place i gets a state; place i gets a name, or 0
  unfoldable pub put_saved : ℕ → List ℕ → List ℕ
  put_saved i state = take (saved_at i) shelf ++ (state ++ drop (saved_at i + state_words) shelf)

  unfoldable pub put_name : ℕ → ℕ → List ℕ
  put_name i name = set shelf (name_at i) name
