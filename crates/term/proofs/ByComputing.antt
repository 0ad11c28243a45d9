-- The examples hold, by computing the definitions. (Files are checked by name: an edit of a definition meets its example here, before the laws.)
-- Assumes nothing.
use mathlib.Core.Path.{refl}
use Rattle.basis.specs.Numbers.{some_below, lowest}
use Rattle.basis.specs.Below.{below}
use Rattle.table.specs.Checks.{first_of}
use Rattle.table.specs.Tables.{within_limits}
use Rattle.table.specs.Nodes.{process_rows, guard_rows, expression_rows, row_of, fields_here, fits, fitting, named, names_again, bad_node}
use Rattle.table.specs.Reach.{reach_step, reached_from, wrong_key}
use Rattle.term.specs.Terms.{words}
use Rattle.term.specs.Processes.{keep, joins, derivations, node_step, node_with, defined, node_process}
use Rattle.term.specs.Exposure.{can_tick, calls_below}
use Rattle.term.specs.Examples.{Examples}
use Rattle.term.specs.Refused.{CallsRefused}

pub examples : Examples
unfolding keep joins derivations can_tick words
examples =
    record {
      tick_of_both = (refl, refl, refl);
      choice_in_order = refl;
      sequence_in_order = refl;
      parallel_in_order = refl;
      sequence_of_two = refl;
      parallel_of_two = refl;
      guards_anywhere = refl;
      residual_words = refl;
    }

pub calls_refused : CallsRefused
unfolding some_below lowest below first_of within_limits process_rows guard_rows expression_rows row_of fields_here fits named
    names_again fitting bad_node reach_step reached_from wrong_key keep joins derivations node_step node_with defined node_process can_tick calls_below
calls_refused = record { lowest_definition = refl; right_exposed = refl; right_hidden = refl }
