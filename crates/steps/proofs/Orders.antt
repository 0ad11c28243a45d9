-- The order of the checks.
-- Assumes nothing.
use mathlib.Core.Path.{refl}
use Rattle.table.specs.Checks.{first_of}
use Rattle.table.specs.Tables.{table_of}
use Rattle.term.specs.Acceptance.{table_checks}
use Rattle.state.specs.Layout.{is_whole}
use Rattle.state.specs.WellFormed.{loaded}
use Rattle.steps.specs.Tallies.{no_tally}
use Rattle.steps.specs.Orders.{InOrder}
use Rattle.steps.specs.Runs.{run_of}
use Rattle.steps.specs.Points.{saved, restored, dropped, save_of, restore_of, drop_of}
use Rattle.steps.proofs.Checks.{numbered}
use Rattle.steps.proofs.Steps.{outcome_check, step_check_lem}
use Rattle.steps.proofs.Previews.{preview_check}
use Rattle.steps.proofs.Points.{change_check}

pub in_order : InOrder
unfolding run_of save_of restore_of drop_of
in_order =
    record {
      numbered = numbered;
      of_load = λ bytes was scratch. outcome_check was no_tally (loaded (table_of bytes)) (first_of (table_checks bytes (is_whole was) scratch));
      of_step = step_check_lem;
      of_preview = preview_check;
      of_run = λ bytes was scratch schedule answers. refl;
      of_save = λ bytes state scratch shelf name. change_check shelf (saved state shelf name) _;
      of_restore = λ bytes state scratch shelf name. change_check state (restored shelf name) _;
      of_drop = λ bytes scratch shelf name. change_check shelf (dropped shelf name) _;
    }
