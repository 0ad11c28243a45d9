-- `shelf::restore` meets its contract.
-- Assumes nothing.
use borrow.Author.Tests.{eqb-true}
use Rattle.std.proofs.Common.{length, List, ◌≡◌, Ok}
use Rattle.std.proofs.lemmas.Result.{err_from_is_err_and}
use Rattle.table.specs.Tables.{table_of}
use Rattle.table.specs.declared.fleets.Fleet.{Fleet}
use Rattle.table.specs.Fleets.{table_in}
use Rattle.table.specs.Checks.{Refusal}
use Rattle.steps.specs.Steps.{state_checks_with}
use Rattle.opening.proofs.Opened.{opened_fit}
use Rattle.steps.specs.Shelves.{is_whole_shelf, shelf_words}
use Rattle.steps.specs.Points.{held_checks, restored, restore_of}
use Rattle.shelf.proofs.Judging.{whole_where, judged_fleet, judged_refused, judged_passed}
use Rattle.shelf.proofs.restore.Goals as goal
use Rattle.shelf.proofs.restore.Goals.{After-open-opened}

abbrev earlier : After-open-opened → List Refusal
earlier c = state_checks_with (is_whole_shelf c.args.shelf.now) c.args.table.now c.args.state.now (length c.args.scratch.now)

-- the shelf has its length, and the fleet is the table's
whole : (c : After-open-opened) (f : Fleet) → c.open-opened.result ≡ Ok f → length c.args.shelf.now ≡ shelf_words
whole c f e = eqb-true _ _ (opened_fit (rw e at c.open-opened.ensures))

same : (c : After-open-opened) (f : Fleet) → c.open-opened.result ≡ Ok f → table_in f ≡ table_of c.args.table.now
same c f e = (c.open-opened.ensures.opened f e).fleet

pub judge_shelf-requires : goal.judge_shelf-requires
judge_shelf-requires c = whole_where c.open-opened.result c.args.shelf.now (whole (goal.at.judge_shelf-requires c).After-open-opened)

pub returns-in_err-judge_shelf : goal.returns-in_err-judge_shelf
unfolding restore_of
returns-in_err-judge_shelf c =
    let p = err_from_is_err_and c.from_residual.result c.from_residual.ensures.1 in
    let a = (goal.at.returns-in_err-judge_shelf c).After-open-opened in
    rw (p.1, p.2)
    (judged_refused c.args.table.now c.args.shelf.now (earlier a) (held_checks c.args.shelf.now c.args.name) c.args.state.now
    (restored c.args.shelf.now c.args.name) c.open-opened.result c.open-opened.ensures.check (same a) c.in_err-judge_shelf.ensures)

pub restore_in-requires : goal.restore_in-requires
restore_in-requires c =
    let j = judged_fleet c.open-opened.result c.args.shelf.now c.in_ok-judge_shelf.ensures in
    ((c.open-opened.ensures.opened j.0 j.1).proper.whole, whole (goal.at.restore_in-requires c).After-open-opened j.0 j.1)

pub returns : goal.returns
unfolding restore_of
returns c =
    let a = (goal.at.returns c).After-open-opened in
    judged_passed c.args.table.now c.args.shelf.now (earlier a) (held_checks c.args.shelf.now c.args.name) c.args.state.now
    (restored c.args.shelf.now c.args.name) c.open-opened.result c.open-opened.ensures.check (same a) c.in_ok-judge_shelf.ensures c.restore_in.ensures
