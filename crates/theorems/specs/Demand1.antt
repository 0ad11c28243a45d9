-- Demand 1: for every input each public call is done, or refused with one of its own numbers and the place that the paper gives with it,
-- and a refusal leaves every lent buffer but scratch as it came (a run's totals become 0). That a call comes back at all, whatever it is
-- lent, is its contract's, which requires nothing; which buffers it only reads, its type says.
use Rattle.std.specs.Prelude.{ℕ, zero, suc, ◌<◌, ◌≡◌, ◌⊎◌}
use mathlib.Core.List.{List, [], ◌∷◌, Memᴰ}
use Rattle.table.specs.Checks.{Check, passes, refuses}
use Rattle.table.specs.Tables.{sizes_of}
use Rattle.steps.specs.Steps.{Outcome, load_of, step_of}
use Rattle.steps.specs.Previews.{preview_of}
use Rattle.steps.specs.Runs.{run_of}
use Rattle.steps.specs.Points.{save_of, restore_of, drop_of}

-- the place that comes with a number: a node for 4, 5 and 7, a definition for 6, 0 for all others
pub data Placed (bytes : List ℕ) : ℕ → ℕ → Type 0 where
  at_bad_node : {n : ℕ} → n < (sizes_of bytes).nodes → Placed bytes 4 n
  at_wrong_key : {n : ℕ} → n < (sizes_of bytes).nodes → Placed bytes 5 n
  bad_definition : {d : ℕ} → d < (sizes_of bytes).definitions → Placed bytes 6 d
  overfull_node : {n : ℕ} → n < (sizes_of bytes).nodes → Placed bytes 7 n
  nowhere : {number : ℕ} → (number < 4) ⊎ (7 < number) → Placed bytes number 0

-- a call on this table is done; or it is refused with one of its numbers, at the place of that number, and what it was lent is unchanged
pub data Answered (bytes numbers : List ℕ) (Unchanged : Type 0) : Check → Type 0 where
  done : Answered bytes numbers Unchanged passes
  refused : {number place : ℕ} → Memᴰ number numbers → Placed bytes number place → Unchanged → Answered bytes numbers Unchanged (refuses number place)

-- a step's and a preview's numbers, by its kind: act, propagate, confirm, none of them
abbrev pub step_numbers : ℕ → List ℕ
step_numbers zero = 1 ∷ 2 ∷ 3 ∷ 8 ∷ 4 ∷ 5 ∷ 6 ∷ 7 ∷ 9 ∷ 10 ∷ 11 ∷ 12 ∷ 13 ∷ 14 ∷ 15 ∷ 16 ∷ 17 ∷ []
step_numbers (suc zero) = 1 ∷ 2 ∷ 3 ∷ 8 ∷ 4 ∷ 5 ∷ 6 ∷ 7 ∷ 9 ∷ 10 ∷ 18 ∷ []
step_numbers (suc (suc zero)) = 1 ∷ 2 ∷ 3 ∷ 8 ∷ 4 ∷ 5 ∷ 6 ∷ 7 ∷ 9 ∷ 10 ∷ 18 ∷ []
step_numbers (suc (suc (suc kind))) = 1 ∷ 2 ∷ 3 ∷ 8 ∷ 4 ∷ 5 ∷ 6 ∷ 7 ∷ 9 ∷ 10 ∷ []

-- the buffer that the call writes is as it came, and nothing is counted
pub record AsItCame (o : Outcome) (was : List ℕ) : Type 0 where
  pub state : o.state ≡ was
  pub counts : o.tally ≡ record { added = 0; replaced = 0 }

-- The numbers of a call stand in the order of its checks; save and restore have a 9 of the state and one of the shelf
pub record Demand1 : Type 0 where
  pub load : (bytes was : List ℕ) (scratch : ℕ) →
      Answered bytes (1 ∷ 2 ∷ 3 ∷ 8 ∷ 4 ∷ 5 ∷ 6 ∷ 7 ∷ [])
      (AsItCame (load_of bytes was scratch) was)
      (load_of bytes was scratch).check
  pub step : (bytes was : List ℕ) (scratch kind x number : ℕ) →
      Answered bytes (step_numbers kind)
      (AsItCame (step_of bytes was scratch kind x number) was)
      (step_of bytes was scratch kind x number).check
  -- next is the second buffer
  pub preview : (bytes was : List ℕ) (scratch kind x number : ℕ) (next : List ℕ) →
      Answered bytes (step_numbers kind)
      (AsItCame (preview_of bytes was scratch kind x number next) next)
      (preview_of bytes was scratch kind x number next).check
  pub run : (bytes was : List ℕ) (scratch : ℕ) (schedule answers : List ℕ) →
      Answered bytes (1 ∷ 2 ∷ 3 ∷ 8 ∷ 4 ∷ 5 ∷ 6 ∷ 7 ∷ 9 ∷ 19 ∷ 20 ∷ [])
      ((run_of bytes was scratch schedule answers).progress
      ≡ record { state = was; answers = answers; done = 0; refused = 0; tally = record { added = 0; replaced = 0 } })
      (run_of bytes was scratch schedule answers).check
  -- the words are those of the shelf after a save, of the state after a restore, of the shelf after a drop
  pub save : (bytes state : List ℕ) (scratch : ℕ) (shelf : List ℕ) (name : ℕ) →
      Answered bytes (1 ∷ 2 ∷ 3 ∷ 8 ∷ 4 ∷ 5 ∷ 6 ∷ 7 ∷ 9 ∷ 9 ∷ 21 ∷ 22 ∷ [])
      ((save_of bytes state scratch shelf name).words ≡ shelf)
      (save_of bytes state scratch shelf name).check
  pub restore : (bytes state : List ℕ) (scratch : ℕ) (shelf : List ℕ) (name : ℕ) →
      Answered bytes (1 ∷ 2 ∷ 3 ∷ 8 ∷ 4 ∷ 5 ∷ 6 ∷ 7 ∷ 9 ∷ 9 ∷ 21 ∷ [])
      ((restore_of bytes state scratch shelf name).words ≡ state)
      (restore_of bytes state scratch shelf name).check
  pub drop : (bytes : List ℕ) (scratch : ℕ) (shelf : List ℕ) (name : ℕ) →
      Answered bytes (1 ∷ 2 ∷ 3 ∷ 8 ∷ 4 ∷ 5 ∷ 6 ∷ 7 ∷ 9 ∷ 21 ∷ [])
      ((drop_of bytes scratch shelf name).words ≡ shelf)
      (drop_of bytes scratch shelf name).check
