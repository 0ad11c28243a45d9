-- Lists of steps on a table, and the states that they leave, from any start.
use Rattle.std.specs.Prelude.{ℕ, List}
use Rattle.agreement.specs.Machine.{after_steps}
use Rattle.table.specs.Tables.{table_of}
use Rattle.state.specs.WellFormed.{loaded}
use Rattle.steps.specs.Steps.{Outcome, step_of}

-- an element of the list: any kind, agent, number and scratch length
pub record Step : Type 0 where
  pub kind : ℕ
  pub agent : ℕ
  pub number : ℕ
  pub scratch : ℕ

-- a line: the state that it starts at, and the steps since
pub record Line : Type 0 where
  pub start : List ℕ
  pub steps : List Step

module _ (bytes : List ℕ) where
  abbrev pub outcome_of : List ℕ → Step → Outcome
  outcome_of s x = step_of bytes s x.scratch x.kind x.agent x.number

  -- the state after a step; a refused one keeps its place and changes nothing
  abbrev pub next : List ℕ → Step → List ℕ
  next s x = (outcome_of s x).state

  -- the state after a list of steps from a start, made from the table, the start and the list alone
  abbrev pub state_from : List ℕ → List Step → List ℕ
  state_from start xs = after_steps next start xs

  -- from load
  abbrev pub state_after : List Step → List ℕ
  state_after xs = state_from (loaded (table_of bytes)) xs

  -- the state to which a line leads
  abbrev pub state_of : Line → List ℕ
  state_of l = state_from l.start l.steps
