-- The examples of tables hold, by computing the definitions.
-- Assumes nothing.
use mathlib.Core.Path.{refl}
use Rattle.basis.specs.Numbers.{some_below, lowest}
use Rattle.basis.specs.Below.{below}
use Rattle.table.specs.Checks.{first_of}
use Rattle.table.specs.Tables.{within_limits}
use Rattle.table.specs.Nodes.{process_rows, guard_rows, expression_rows, row_of, fields_here, fits, fitting, named, names_again, bad_node}
use Rattle.table.specs.Reach.{reach_step, reached_from, wrong_key}
use Rattle.table.specs.Examples.{Examples}
pub use Rattle.table.specs.Examples.{rehearsed}

pub examples : Examples
unfolding some_below lowest below first_of within_limits process_rows guard_rows expression_rows row_of fields_here fits named names_again fitting bad_node reach_step reached_from wrong_key
examples =
    record {
      sizes = refl;
      first_node = refl;
      second_node = refl;
      roots = refl;
      passed = refl;
      named_twice = refl;
      lower_operand = refl;
      lower_naming = refl;
      named_by_both = refl;
      sender = refl;
      lower_linked = refl;
      lower_processed = refl;
    }
