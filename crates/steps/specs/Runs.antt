-- Run: a schedule's steps in turn, going on past refused ones, with an answer byte for each.
use Rattle.std.specs.Prelude.{ℕ, ◌+◌, ◌*◌, cond, not, ◌||◌, List, [], ◌∷◌, ◌++◌, eqb, ltb, length, get_or, set}
use Rattle.basis.specs.Numbers.{for_each}
use Rattle.basis.specs.Bytes.{u16_at}
use Rattle.table.specs.Checks.{Check, Refusal, refuse_if, first_of, if_passes, passed, number_of}
use Rattle.table.specs.Tables.{Table, table_of}
use Rattle.steps.specs.declared.Tally.{Tally}
use Rattle.steps.specs.Tallies.{no_tally, add_tally}
use Rattle.steps.specs.Steps.{Outcome, state_checks, step_in}

abbrev pub step_limit : ℕ
step_limit = 8192

-- a schedule: its size n, n kinds of a byte, n operands (agent, number)
abbrev pub steps_of : List ℕ → ℕ
steps_of schedule = u16_at schedule 0

abbrev pub kind_in : List ℕ → ℕ → ℕ
kind_in schedule i = get_or schedule (2 + i) 0

abbrev pub agent_in : List ℕ → ℕ → ℕ
agent_in schedule i = u16_at schedule (2 + steps_of schedule + 4 * i)

abbrev pub number_in : List ℕ → ℕ → ℕ
number_in schedule i = u16_at schedule (2 + steps_of schedule + 4 * i + 2)

-- 19: the length is wrong, or n over 8,192; 20: the answer buffer has under n bytes
abbrev pub schedule_checks : List ℕ → List ℕ → List Refusal
schedule_checks schedule answers =
    refuse_if 19
    (ltb (length schedule) 2 || (not (eqb (length schedule) (2 + 5 * steps_of schedule)) || ltb step_limit (steps_of schedule)))
    ∷ refuse_if 20 (ltb (length answers) (steps_of schedule))
    ∷ []

-- a run so far
pub record Progress : Type 0 where
  pub state : List ℕ
  pub answers : List ℕ
  pub done : ℕ
  pub refused : ℕ
  pub tally : Tally

abbrev pub begun : List ℕ → List ℕ → Progress
begun state answers = record { state = state; answers = answers; done = 0; refused = 0; tally = no_tally }

-- step i is added: its answer byte is 0 or the refusal
abbrev pub added : ℕ → Progress → Outcome → Progress
added i p o =
    record {
      state = o.state;
      answers = set p.answers i (number_of o.check);
      done = p.done + cond (passed o.check) 1 0;
      refused = p.refused + cond (passed o.check) 0 1;
      tally = add_tally p.tally o.tally;
    }

-- steps 0 to n - 1
unfoldable pub ran : Table → List ℕ → ℕ → Progress → Progress
ran t schedule n start =
    for_each (λ (i : ℕ) (p : Progress). added i p (step_in t p.state (kind_in schedule i) (agent_in schedule i) (number_in schedule i))) n start

-- what a run comes to: its check and totals, the state and the answer bytes after. A refused run changes neither
pub record Rehearsal : Type 0 where
  pub check : Check
  pub progress : Progress

unfoldable pub run_of : List ℕ → List ℕ → ℕ → List ℕ → List ℕ → Rehearsal
run_of bytes was scratchLength schedule answers =
    let c = first_of (state_checks bytes was scratchLength ++ schedule_checks schedule answers) in
    record { check = c; progress = if_passes c (ran (table_of bytes) schedule (steps_of schedule) (begun was answers)) (begun was answers) }
