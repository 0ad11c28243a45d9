-- What evaluation asks of a state and of the agents.
use Rattle.std.specs.Prelude.{ℕ, ◌<◌, List}
use Rattle.table.specs.Tables.{agent_limit}
use Rattle.state.specs.Standing.{HasBlocks}

-- a state with room for all blocks, two agents that have one
pub record Situated (s : List ℕ) (sender receiver : ℕ) : Type 0 where
  pub blocks : HasBlocks s
  pub sends : sender < agent_limit
  pub receives : receiver < agent_limit

-- a state with room for all blocks, an agent that has one
pub record Placed (s : List ℕ) (sender : ℕ) : Type 0 where
  pub blocks : HasBlocks s
  pub sends : sender < agent_limit
