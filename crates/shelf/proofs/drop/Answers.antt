-- `shelf::drop` meets its contract.
-- Assumes nothing.
use borrow.Author.Tests.{eqb-true}
use Rattle.std.proofs.Common.{length, List, ◌≡◌, Ok}
use Rattle.std.proofs.lemmas.Result.{err_from_is_err_and}
use Rattle.table.specs.Tables.{table_of}
use Rattle.table.specs.declared.fleets.Fleet.{Fleet}
use Rattle.table.specs.Fleets.{table_in}
use Rattle.table.specs.Checks.{Refusal}
use Rattle.term.specs.Acceptance.{table_checks}
use Rattle.accept.proofs.Answering.{accepted_table}
use Rattle.steps.specs.Shelves.{is_whole_shelf, shelf_words}
use Rattle.steps.specs.Points.{held_checks, dropped, drop_of}
use Rattle.shelf.proofs.Judging.{whole_where, judged_fleet, judged_refused, judged_passed}
use Rattle.shelf.proofs.drop.Goals as goal
use Rattle.shelf.proofs.drop.Goals.{After-accept-accepted}

abbrev earlier : After-accept-accepted → List Refusal
earlier c = table_checks c.args.table.now (is_whole_shelf c.args.shelf.now) (length c.args.scratch.now)

-- the shelf has its length, and the fleet is the table's
whole : (c : After-accept-accepted) (f : Fleet) → c.accept-accepted.result ≡ Ok f → length c.args.shelf.now ≡ shelf_words
whole c f e = eqb-true _ _ ((accepted_table c.accept-accepted.ensures e).fit)

same : (c : After-accept-accepted) (f : Fleet) → c.accept-accepted.result ≡ Ok f → table_in f ≡ table_of c.args.table.now
same c f e = c.accept-accepted.ensures.fleet f e

pub judge_shelf-requires : goal.judge_shelf-requires
judge_shelf-requires c = whole_where c.accept-accepted.result c.args.shelf.now (whole (goal.at.judge_shelf-requires c).After-accept-accepted)

pub returns-in_err-judge_shelf : goal.returns-in_err-judge_shelf
unfolding drop_of
returns-in_err-judge_shelf c =
    let p = err_from_is_err_and c.from_residual.result c.from_residual.ensures.1 in
    let a = (goal.at.returns-in_err-judge_shelf c).After-accept-accepted in
    rw (p.1, p.2)
    (judged_refused c.args.table.now c.args.shelf.now (earlier a) (held_checks c.args.shelf.now c.args.name) c.args.shelf.now
    (dropped c.args.shelf.now c.args.name) c.accept-accepted.result c.accept-accepted.ensures.check (same a) c.in_err-judge_shelf.ensures)

pub drop_in-requires : goal.drop_in-requires
drop_in-requires c =
    let j = judged_fleet c.accept-accepted.result c.args.shelf.now c.in_ok-judge_shelf.ensures in
    whole (goal.at.drop_in-requires c).After-accept-accepted j.0 j.1

pub returns : goal.returns
unfolding drop_of
returns c =
    let a = (goal.at.returns c).After-accept-accepted in
    judged_passed c.args.table.now c.args.shelf.now (earlier a) (held_checks c.args.shelf.now c.args.name) c.args.shelf.now
    (dropped c.args.shelf.now c.args.name) c.accept-accepted.result c.accept-accepted.ensures.check (same a) c.in_ok-judge_shelf.ensures c.drop_in.ensures
