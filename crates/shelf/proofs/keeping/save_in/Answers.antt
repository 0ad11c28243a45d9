-- `shelf::keeping::save_in` meets its contract.
-- Assumes nothing.
use Rattle.std.proofs.Common.{sym, ap, ◌∙◌}
use Rattle.std.proofs.lemmas.Result.{err_from_is_err_and}
use Rattle.table.specs.Checks.{first_of}
use Rattle.table.specs.declared.refusals.Refused.TheVariants.{NoSuchName, ShelfFull}
use Rattle.steps.specs.Shelves.{put_saved, put_name}
use Rattle.steps.specs.Points.{save_checks, saved}
use Rattle.steps.proofs.NameChecks.{save_no_name, save_no_place, save_passes}
use Rattle.shelf.proofs.Finding.{is_missing, is_found, put_back}
use Rattle.shelf.proofs.Changing.{answers_refused, answers_done}
use Rattle.shelf.proofs.keeping.save_in.Goals as goal

pub returns-then-not-is_name : goal.returns-then-not-is_name
returns-then-not-is_name c =
    let s = c.args.shelf.now in
    let n = c.args.name in
    answers_refused s (saved c.args.state.now s n) (first_of (save_checks s n)) NoSuchName
    (save_no_name s n (sym c.is_name.ensures ∙ c.if-not-is_name.true))

pub returns-in_err-place : goal.returns-in_err-place
returns-in_err-place c =
    let s = c.args.shelf.now in
    let n = c.args.name in
    let p = err_from_is_err_and c.from_residual.result c.from_residual.ensures.1 in
    let m = is_missing _ _ c.save_place.result c.save_place.ensures ShelfFull _ c.in_err-place.ensures.value in
    rw (p.1, p.2, m.1)
    (answers_refused s (saved c.args.state.now s n) (first_of (save_checks s n)) ShelfFull
    (save_no_place s n (sym c.is_name.ensures ∙ c.if-not-is_name.false) m.0))

pub returns : goal.returns
returns c =
    let s = c.args.shelf.now in
    let n = c.args.name in
    let w = c.args.state.now in
    let f = is_found _ _ c.save_place.result c.save_place.ensures ShelfFull _ c.in_ok-place.ensures.value in
    answers_done s (saved w s n) (first_of (save_checks s n)) (save_passes s n (sym c.is_name.ensures ∙ c.if-not-is_name.false) f.1)
    (put_back s c.in_ok-place.place c.saved_at-at.ensures.is n c.copy.ensures ∙ ap (λ i. put_name (put_saved s i w) i n) f.2)
