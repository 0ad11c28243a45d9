-- What a well-formed shelf is, and what save, restore and drop do, in other words.
use Rattle.std.specs.Prelude.{ℕ, ◌≤◌, ◌<◌, true, ◌⊎◌, ◌↔◌, ◌≡◌, List, length}
use Rattle.table.specs.Checks.{passes, refuses, first_of}
use Rattle.table.specs.Tables.{Table, table_of}
use Rattle.term.specs.Acceptance.{table_checks}
use Rattle.state.specs.WellFormed.{well_formed}
use Rattle.steps.specs.Steps.{state_checks_with}
use Rattle.steps.specs.Shelves.{name_of, saved_of, shelf_formed}
use Rattle.steps.specs.Points.{Change, save_of, restore_of, drop_of}

module _ (shelf : List ℕ) where
  -- place i is free
  abbrev pub Free : ℕ → Type 0
  Free i = name_of shelf i ≡ 0

  -- place i holds the name
  pub record Holds (name i : ℕ) : Type 0 where
    pub place : i < 8
    pub named : name_of shelf i ≡ name

  abbrev pub Held : ℕ → Type 0
  Held name = (i : ℕ) × Holds name i

  -- there is a place for the name: it is held, or a place is free
  abbrev pub Room : ℕ → Type 0
  Room name = Held name ⊎ Held 0

  -- the name is new, and place i is the lowest free one
  pub record LowestFree (name i : ℕ) : Type 0 where
    pub place : i < 8
    pub free : Free i
    pub lower : (j : ℕ) → j < i → Free j → ⊥
    pub new : Held name → ⊥

  -- no name word is over 255, no name is held twice, and held states are well formed
  pub record WellFormed (t : Table) : Type 0 where
    pub small : (i : ℕ) → i < 8 → name_of shelf i ≤ 255
    pub once : (i j : ℕ) → i < 8 → j < 8 → name_of shelf i ≡ name_of shelf j → Free i ⊎ (i ≡ j)
    pub formed : (i : ℕ) → i < 8 → (Free i → ⊥) → well_formed t (saved_of shelf i) ≡ true

  -- after it, place i has this name word and this state, and every other place what it had
  pub record OnlyAt (i word : ℕ) (held after : List ℕ) : Type 0 where
    pub name : name_of after i ≡ word
    pub state : saved_of after i ≡ held
    pub names : (j : ℕ) → j < 8 → (j ≡ i → ⊥) → name_of after j ≡ name_of shelf j
    pub states : (j : ℕ) → j < 8 → (j ≡ i → ⊥) → saved_of after j ≡ saved_of shelf j
    pub words : length after ≡ length shelf

abbrev pub IsName : ℕ → Type 0
IsName name = (0 < name) × (name ≤ 255)

-- table and state are accepted
abbrev pub StatePasses : List ℕ → ℕ → List ℕ → Type 0
StatePasses bytes scratch state = first_of (state_checks_with true bytes state scratch) ≡ passes

-- the table is accepted, and the shelf has its length and is well formed
pub record Usable (bytes : List ℕ) (scratch : ℕ) (shelf : List ℕ) : Type 0 where
  pub table : first_of (table_checks bytes true scratch) ≡ passes
  pub whole : length shelf ≡ 37656
  pub formed : WellFormed shelf (table_of bytes)

-- A CALL, whose buffer came as `was`: when it is done, what the buffer is then, and that a refusal leaves it as it came
pub record Does (call : Change) (was : List ℕ) (When : Type 0) (Then : List ℕ → Type 0) : Type 0 where
  pub done_when : (call.check ≡ passes) ↔ When
  pub done : call.check ≡ passes → Then call.words
  pub refused : (n place : ℕ) → call.check ≡ refuses n place → call.words ≡ was

module _ (bytes : List ℕ) (scratch : ℕ) (shelf : List ℕ) (name : ℕ) where
  -- the name's word becomes 0; the state that stands there stays
  abbrev pub Drops : Type 0
  Drops =
      Does (drop_of bytes scratch shelf name) shelf (Usable bytes scratch shelf × IsName name × Held shelf name)
      (λ after. (i : ℕ) × Holds shelf name i × OnlyAt shelf i 0 (saved_of shelf i) after × WellFormed after (table_of bytes))

  module _ (state : List ℕ) where
    -- the name keeps its place or takes the lowest free one, which gets the state
    abbrev pub Saves : Type 0
    Saves =
        Does (save_of bytes state scratch shelf name) shelf (StatePasses bytes scratch state × Usable bytes scratch shelf × IsName name × Room shelf name)
        (λ after. (i : ℕ) × (Holds shelf name i ⊎ LowestFree shelf name i) × OnlyAt shelf i name state after × WellFormed after (table_of bytes))

    -- the state becomes the one at the name's place
    abbrev pub Restores : Type 0
    Restores =
        Does (restore_of bytes state scratch shelf name) state (StatePasses bytes scratch state × Usable bytes scratch shelf × IsName name × Held shelf name)
        (λ after. (i : ℕ) × Holds shelf name i × (after ≡ saved_of shelf i))

-- for every input. Which refusal is answered, Refusals says
pub record Kept : Type 0 where
  pub is_well_formed : (t : Table) (shelf : List ℕ) → (shelf_formed shelf t ≡ true) ↔ WellFormed shelf t
  pub saves : (bytes : List ℕ) (scratch : ℕ) (shelf : List ℕ) (name : ℕ) (state : List ℕ) → Saves bytes scratch shelf name state
  pub restores : (bytes : List ℕ) (scratch : ℕ) (shelf : List ℕ) (name : ℕ) (state : List ℕ) → Restores bytes scratch shelf name state
  pub drops : (bytes : List ℕ) (scratch : ℕ) (shelf : List ℕ) (name : ℕ) → Drops bytes scratch shelf name
  -- COMING BACK gives the state that was saved, whatever the state then is
  pub back : (bytes : List ℕ) (scratch later : ℕ) (shelf : List ℕ) (name : ℕ) (state now : List ℕ)
      → (save_of bytes state scratch shelf name).check ≡ passes → StatePasses bytes later now
      → ((restore_of bytes now later (save_of bytes state scratch shelf name).words name).check ≡ passes)
      × ((restore_of bytes now later (save_of bytes state scratch shelf name).words name).words ≡ state)
