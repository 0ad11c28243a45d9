-- Run: a schedule comes to what the single calls of its steps come to, taken one after another.
use Rattle.std.specs.Prelude.{ℕ, zero, suc, ◌+◌, ◌*◌, ◌<◌, ◌≤◌, not, ◌↔◌, ◌≡◌, List, [], ◌∷◌, ◌++◌, length, get_or}
use Rattle.basis.specs.Numbers.{how_many, for_each}
use Rattle.basis.specs.Bytes.{u16_at}
use Rattle.table.specs.Checks.{passes, refuses, first_of, passed, number_of}
use Rattle.steps.specs.Steps.{Outcome, state_checks}
use Rattle.steps.specs.Runs.{Progress, run_of}
use Rattle.labs.specs.Lists.{Step, outcome_of, state_from}

-- A schedule has its 16-bit size n, then n kinds of a byte, then n operands (agent, number; 16 bits each)
abbrev pub size : List ℕ → ℕ
size schedule = u16_at schedule 0

module _ (schedule : List ℕ) (scratch : ℕ) where
  abbrev pub step_at : ℕ → Step
  step_at i =
      record { kind = get_or schedule (2 + i) 0; agent = u16_at schedule (2 + size schedule + 4 * i); number = u16_at schedule (2 + size schedule + 4 * i + 2); scratch = scratch }

  abbrev pub first_steps : ℕ → List Step
  first_steps zero = []
  first_steps (suc n) = first_steps n ++ (step_at n ∷ [])

module _ (bytes s : List ℕ) (scratch : ℕ) (schedule : List ℕ) where
  -- the state that the steps before step i leave
  abbrev pub state_before : ℕ → List ℕ
  state_before i = state_from bytes s (first_steps schedule scratch i)

  -- step i, a single call in that state
  abbrev pub outcome_at : ℕ → Outcome
  outcome_at i = outcome_of bytes (state_before i) (step_at schedule scratch i)

  -- n steps, taken one after another, come to p; `answers` are the answer bytes as they came
  pub record InTurn (answers : List ℕ) (n : ℕ) (p : Progress) : Type 0 where
    pub state : p.state ≡ state_before n
    -- byte i is 0, or the refusal of step i; bytes past n stay
    pub answered : (i : ℕ) → i < n → get_or p.answers i 0 ≡ number_of (outcome_at i).check
    pub past : (i : ℕ) → n ≤ i → get_or p.answers i 0 ≡ get_or answers i 0
    pub same_length : length p.answers ≡ length answers
    pub done : p.done ≡ how_many (λ (i : ℕ). passed (outcome_at i).check) n
    pub refused : p.refused ≡ how_many (λ (i : ℕ). not (passed (outcome_at i).check)) n
    pub added : p.tally.added ≡ for_each (λ (i sum : ℕ). sum + (outcome_at i).tally.added) n 0
    pub replaced : p.tally.replaced ≡ for_each (λ (i sum : ℕ). sum + (outcome_at i).tally.replaced) n 0
    pub total : p.done + p.refused ≡ n

  pub record Run (answers : List ℕ) : Type 0 where
    -- a run is done of an accepted table, a well-formed state, a schedule of its right length with at most 8,192 steps, and room for their answers
    pub run_when : ((run_of bytes s scratch schedule answers).check ≡ passes)
        ↔ ((first_of (state_checks bytes s scratch) ≡ passes)
        × (length schedule ≡ 2 + 5 * size schedule) × (size schedule ≤ 8192) × (size schedule ≤ length answers))
    pub run_done : (run_of bytes s scratch schedule answers).check ≡ passes →
        InTurn answers (size schedule) (run_of bytes s scratch schedule answers).progress
    -- a refused run leaves state and answers as they came, and its totals are 0
    pub run_refused : (number place : ℕ) → (run_of bytes s scratch schedule answers).check ≡ refuses number place →
        (run_of bytes s scratch schedule answers).progress ≡ record { state = s; answers = answers; done = 0; refused = 0; tally = record { added = 0; replaced = 0 } }
