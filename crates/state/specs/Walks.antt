-- Values and truths of the nodes below a limit, as the code's walks find them.
use Rattle.std.specs.Prelude.{ℕ, List}
use Rattle.basis.specs.Below.{below}
use Rattle.value.specs.Values.{Value}
use Rattle.std.specs.Prelude.{None}
use Rattle.value.specs.declared.Truth.{Truth}
use Rattle.value.specs.Truths.{undefined}
use Rattle.table.specs.Tables.{Table}
use Rattle.state.specs.Evaluation.{value_step, truth_step}

module _ (t : Table) (s : List ℕ) (sender receiver : ℕ) where
  abbrev pub value_below : ℕ → ℕ → Value
  value_below limit n = below (value_step t s sender receiver) None limit n

  abbrev pub truth_below : ℕ → ℕ → Truth
  truth_below limit n = below (truth_step t s sender receiver) undefined limit n
