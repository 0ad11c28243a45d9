-- What code asks and answers: a text in a lent buffer, and a state that can be printed.
use Rattle.std.specs.Prelude.{ℕ, ◌+◌, ◌≤◌, ◌≡◌, List, ◌++◌, length, take, drop, get_or}
use Rattle.table.specs.Tables.{agent_limit}
use Rattle.state.specs.Layout.{agents_at}
use Rattle.state.specs.Standing.{HasBlocks}

-- there is room for a text from a place on
pub record Room (text : List ℕ) (at : ℕ) (out : List ℕ) : Type 0 where
  pub fits : at + length text ≤ length out

-- the text stands there, every other byte is as it was, and r is the place after it
pub record Wrote (text : List ℕ) (at : ℕ) (was out : List ℕ) (r : ℕ) : Type 0 where
  pub room : Room text at was
  pub ends : r ≡ at + length text
  pub is : out ≡ take at was ++ text ++ drop (at + length text) was

-- a state that can be printed: all blocks, and a number of agents that they have room for
pub record Fleet (state : List ℕ) : Type 0 where
  pub blocks : HasBlocks state
  pub agents : get_or state agents_at 0 ≤ agent_limit
