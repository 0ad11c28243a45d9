-- `shelf::keeping::drop_in` meets its contract.
-- Assumes nothing.
use Rattle.std.proofs.Common.{ap, set}
use Rattle.std.proofs.lemmas.Result.{err_from_is_err_and}
use Rattle.table.specs.Checks.{first_of}
use Rattle.table.specs.declared.refusals.Refused.TheVariants.{NoSuchName}
use Rattle.steps.specs.Shelves.{put_name}
use Rattle.steps.specs.Points.{held_checks, dropped}
use Rattle.steps.proofs.NameChecks.{not_held, held_passes}
use Rattle.shelf.proofs.Finding.{is_missing, is_found}
use Rattle.shelf.proofs.Changing.{answers_refused, answers_done}
use Rattle.shelf.proofs.keeping.drop_in.Goals as goal

pub returns-in_err-place : goal.returns-in_err-place
returns-in_err-place c =
    let s = c.args.shelf.now in
    let n = c.args.name in
    let p = err_from_is_err_and c.from_residual.result c.from_residual.ensures.1 in
    let m = is_missing _ _ c.held_place.result c.held_place.ensures NoSuchName _ c.in_err-place.ensures.value in
    rw (p.1, p.2, m.1) (answers_refused s (dropped s n) (first_of (held_checks s n)) NoSuchName (not_held s n m.0))

pub returns : goal.returns
unfolding put_name
returns c =
    let s = c.args.shelf.now in
    let n = c.args.name in
    let f = is_found _ _ c.held_place.result c.held_place.ensures NoSuchName _ c.in_ok-place.ensures.value in
    answers_done s (dropped s n) (first_of (held_checks s n)) (held_passes s n f.1) (ap (λ i. set s i 0) f.2)
