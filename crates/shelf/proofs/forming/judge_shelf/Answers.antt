-- `judge_shelf` meets its contract. Assumes nothing.
use mathlib.Core.Bool.{not}
use mathlib.Core.Path.{sym, ap, ◌∙◌}
use Rattle.table.specs.Fleets.{table_in}
use Rattle.table.proofs.Checks.{first_both, first_refuses, none_passes}
use Rattle.steps.specs.Points.{shelf_check}
use Rattle.shelf.proofs.forming.judge_shelf.Goals as goal

pub returns-then-shelf_formed : goal.returns-then-shelf_formed
returns-then-shelf_formed c =
    rw c.in_ok-fleet.was
    (sym (first_both (shelf_check (table_in c.in_ok-fleet.fleet) c.args.shelf.now) _ (ap not (sym c.shelf_formed.ensures ∙ c.if-shelf_formed.true)) none_passes))

pub returns-else-shelf_formed : goal.returns-else-shelf_formed
returns-else-shelf_formed c =
    rw c.in_ok-fleet.was
    (sym (first_refuses (shelf_check (table_in c.in_ok-fleet.fleet) c.args.shelf.now) _ (ap not (sym c.shelf_formed.ensures ∙ c.if-shelf_formed.false))))
