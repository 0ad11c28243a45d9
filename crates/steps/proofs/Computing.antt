-- What a proof by computing unfolds, named once: `unfolding computing`.
-- Assumes nothing.
use Rattle.basis.specs.Below.{below}
use Rattle.basis.specs.Numbers.{some_below, every, lowest, how_many, for_each}
use Rattle.basis.specs.KeySets.{has, plus, minus, plus_all}
use Rattle.table.specs.Checks.{first_of}
use Rattle.table.specs.Tables.{within_limits}
use Rattle.table.specs.Nodes.{process_rows, guard_rows, expression_rows, row_of, fields_here, fits, fitting, named, names_again, bad_node}
use Rattle.table.specs.Reach.{reach_step, reached_from, wrong_key}
use Rattle.term.specs.Terms.{words, terms_of, are_terms}
use Rattle.term.specs.Processes.{keep, joins, derivations, node_step, node_with, defined, node_process, process, all_few}
use Rattle.term.specs.Exposure.{can_tick, calls_below}
use Rattle.state.specs.Layout.{value_in, put, add_key, drop_key}
use Rattle.state.specs.Evaluation.{value_step, truth_step, reads_step}
use Rattle.state.specs.WellFormed.{all_zero, writer_formed, pair_formed, pending_formed, entry_formed, residual_formed, agent_formed, well_formed, loaded}
use Rattle.steps.specs.Acts.{leave, set_key, acted}
use Rattle.steps.specs.Offers.{take_entry, responded, linked, inserts, response, offer}
use Rattle.steps.specs.Steps.{outcome, step_in, step_of}
use Rattle.steps.specs.Runs.{ran, run_of}

-- the definitions that load, step and run compute with
unfoldable pub computing : Unit {0}
unfolding below some_below every lowest how_many for_each has plus minus plus_all first_of within_limits process_rows guard_rows expression_rows row_of fields_here fits fitting named names_again bad_node reach_step reached_from wrong_key words terms_of are_terms keep joins derivations node_step node_with defined node_process process all_few can_tick calls_below value_in put add_key drop_key value_step truth_step reads_step all_zero writer_formed pair_formed pending_formed entry_formed residual_formed agent_formed well_formed loaded leave set_key acted take_entry responded linked inserts response offer outcome step_in step_of ran run_of
computing = tt
