-- The refusals of every public call, in the paper's order and with its numbers: a second reading of all that a call checks, as facts and not as tests.
use Rattle.std.specs.Prelude.{ℕ, zero, suc, ◌+◌, ◌*◌, ◌<◌, ◌≤◌, false, ◌⊎◌, ◌≡◌, length, get_or}
use mathlib.Core.List.{List, [], ◌∷◌, ◌++◌, Memᴰ}
use Rattle.basis.specs.KeySets.{has}
use Rattle.std.specs.Prelude.{None}
use Rattle.table.specs.Conditions.{Condition, ◌when◌, Comes}
use Rattle.table.specs.Tables.{Table, table_of, kind_at, q_at}
use Rattle.term.specs.declared.Label.{Label}
use Rattle.term.specs.declared.Label.TheVariants.{Acting}
use Rattle.term.specs.Terms.{Term, Subterm, words}
use Rattle.term.specs.Processes.{derivations, derivation_at, process}
use Rattle.term.specs.Rules.{table_conditions}
use Rattle.state.specs.Layout.{zc_of, zp_of, term_in}
use Rattle.state.specs.Entries.{clock_of}
use Rattle.state.specs.Evaluation.{value_of, holds}
use Rattle.state.specs.Formed.{WellFormed}
use Rattle.steps.specs.Kept.{WellFormed as ShelfWellFormed, Held, Room, IsName}
use Rattle.steps.specs.Steps.{load_of, step_of}
use Rattle.steps.specs.Previews.{preview_of}
use Rattle.steps.specs.Runs.{run_of}
use Rattle.steps.specs.Points.{save_of, restore_of, drop_of}

-- LENGTHS: a state has 4,706 words, a shelf 37,656
abbrev pub WrongState : List ℕ → Type 0
WrongState state = length state ≡ 4706 → ⊥

abbrev pub WrongShelf : List ℕ → Type 0
WrongShelf shelf = length shelf ≡ 37656 → ⊥

-- 9 of a state, after 1 to 8 of the table and of what else is lent
abbrev pub state_conditions : List ℕ → Type 0 → List ℕ → ℕ → List Condition
state_conditions bytes Misfit state scratch = table_conditions bytes Misfit scratch ++ ((9 when (WellFormed (table_of bytes) state → ⊥)) ∷ [])

-- A STEP IS IN RANGE: it has kind 0, 1 or 2, its agent is there, and for kinds 1 and 2 so is its key. The number of an act is a choice, of which 13 judges
pub record InRange (t : Table) (kind x number : ℕ) : Type 0 where
  pub kind_below : kind < 3
  pub agent_below : x < t.sizes.agents
  pub key_below : 0 < kind → number < t.sizes.stigmergy

module _ (t : Table) (was : List ℕ) (x : ℕ) where
  -- a subterm of the residual has over 65,535 derivations
  pub record TooMany : Type 0 where
    pub part : Term
    pub within : Subterm part (term_in was x)
    pub many : 65535 < length (derivations (process t part))

  -- a collected guard doesn't hold
  pub record Unmet (guards : List ℕ) : Type 0 where
    pub guard : ℕ
    pub collected : Memᴰ guard guards
    pub fails : holds t was x x guard ≡ false

  -- the action's expression is absent
  pub record NoValue (label : Label) : Type 0 where
    pub node : ℕ
    pub action : label ≡ Acting node
    pub absent : value_of t was x x (q_at t node) ≡ None

  -- a stigmergy key is set, and the clock is at its highest
  pub record NoStamp (label : Label) : Type 0 where
    pub node : ℕ
    pub action : label ≡ Acting node
    pub stigmergy : kind_at t node ≡ 3
    pub highest : 65535 ≤ clock_of was

  -- AN ACT'S, where d is derivation c of the residual
  abbrev pub act_conditions : ℕ → List Condition
  act_conditions c =
      let d = derivation_at (process t (term_in was x)) c in
      (11 when ((zc_of was x ≡ 0) × (zp_of was x ≡ 0) → ⊥))
      ∷ (12 when TooMany)
      ∷ (13 when (length (derivations (process t (term_in was x))) ≤ c))
      ∷ (14 when (Unmet d.guards))
      ∷ (15 when (NoValue d.label))
      ∷ (16 when (NoStamp d.label))
      ∷ (17 when (63 < length (words d.leaving)))
      ∷ []

  -- A STEP'S: an act's; a propagate's, of a key that is not in Zp; a confirm's, of one that is not in Zc
  abbrev pub own_conditions : ℕ → ℕ → List Condition
  own_conditions zero c = act_conditions c
  own_conditions (suc zero) k = (18 when (has (zp_of was x) k ≡ false)) ∷ []
  own_conditions (suc (suc kind)) k = (18 when (has (zc_of was x) k ≡ false)) ∷ []

abbrev pub step_conditions : Table → List ℕ → ℕ → ℕ → ℕ → List Condition
step_conditions t was kind x number = (10 when (InRange t kind x number → ⊥)) ∷ own_conditions t was x kind number

-- A RUN'S: n stands in the schedule's first two bytes
abbrev pub run_conditions : List ℕ → List ℕ → List Condition
run_conditions schedule answers =
    let n = get_or schedule 0 0 + 256 * get_or schedule 1 0 in
    (19 when ((length schedule < 2) ⊎ ((length schedule ≡ 2 + 5 * n → ⊥) ⊎ (8192 < n))))
    ∷ (20 when (length answers < n))
    ∷ []

-- A SAVE'S; A RESTORE'S AND A DROP'S
abbrev pub save_conditions : Table → List ℕ → ℕ → List Condition
save_conditions t shelf name =
    (9 when (ShelfWellFormed shelf t → ⊥))
    ∷ (21 when (IsName name → ⊥))
    ∷ (22 when (Room shelf name → ⊥))
    ∷ []

abbrev pub held_conditions : Table → List ℕ → ℕ → List Condition
held_conditions t shelf name =
    (9 when (ShelfWellFormed shelf t → ⊥))
    ∷ (21 when (IsName name × Held shelf name → ⊥))
    ∷ []

-- EVERY PUBLIC CALL, of every input
pub record Refusals : Type 0 where
  pub load : (bytes was : List ℕ) (scratch : ℕ) → Comes (table_conditions bytes (WrongState was) scratch) (load_of bytes was scratch).check
  pub step : (bytes was : List ℕ) (scratch kind x number : ℕ)
      → Comes (state_conditions bytes (WrongState was) was scratch ++ step_conditions (table_of bytes) was kind x number) (step_of bytes was scratch kind x number).check
  pub preview : (bytes was : List ℕ) (scratch kind x number : ℕ) (next : List ℕ)
      → Comes (state_conditions bytes (WrongState next ⊎ WrongState was) was scratch ++ step_conditions (table_of bytes) was kind x number)
      (preview_of bytes was scratch kind x number next).check
  pub run : (bytes was : List ℕ) (scratch : ℕ) (schedule answers : List ℕ)
      → Comes (state_conditions bytes (WrongState was) was scratch ++ run_conditions schedule answers) (run_of bytes was scratch schedule answers).check
  pub save : (bytes state : List ℕ) (scratch : ℕ) (shelf : List ℕ) (name : ℕ)
      → Comes (state_conditions bytes (WrongShelf shelf ⊎ WrongState state) state scratch ++ save_conditions (table_of bytes) shelf name)
      (save_of bytes state scratch shelf name).check
  pub restore : (bytes state : List ℕ) (scratch : ℕ) (shelf : List ℕ) (name : ℕ)
      → Comes (state_conditions bytes (WrongShelf shelf ⊎ WrongState state) state scratch ++ held_conditions (table_of bytes) shelf name)
      (restore_of bytes state scratch shelf name).check
  pub drop : (bytes : List ℕ) (scratch : ℕ) (shelf : List ℕ) (name : ℕ)
      → Comes (table_conditions bytes (WrongShelf shelf) scratch ++ held_conditions (table_of bytes) shelf name) (drop_of bytes scratch shelf name).check
