-- What the check of a state and load are given: sizes within limits, a kind or an operand for each node, a state with room for all blocks
-- or, for load, of the right length.
use Rattle.std.specs.Prelude.{ℕ, ◌*◌, ◌≤◌, ◌≡◌, List, length}
use Rattle.table.specs.declared.Sizes.{Sizes}
use Rattle.table.specs.Sound.{Limits}
use Rattle.state.specs.Layout.{state_words}
use Rattle.state.specs.Standing.{HasBlocks}

pub record CheckGiven (n : Sizes) (kinds state : List ℕ) : Type 0 where
  pub limits : Limits n
  pub nodes : n.nodes ≤ length kinds
  pub blocks : HasBlocks state

pub record LoadGiven (n : Sizes) (operands state : List ℕ) : Type 0 where
  pub limits : Limits n
  pub nodes : 4 * n.nodes ≤ length operands
  pub whole : length state ≡ state_words
