-- `shelf::keeping::restore_in` meets its contract.
-- Assumes nothing.
use Rattle.std.proofs.Common.{sym, ap, ◌∙◌, length}
use Rattle.std.proofs.lemmas.Result.{err_from_is_err_and}
use Rattle.table.specs.Checks.{first_of}
use Rattle.table.specs.declared.refusals.Refused.TheVariants.{NoSuchName}
use Rattle.steps.specs.Shelves.{saved_of}
use Rattle.steps.specs.Points.{held_checks, restored}
use Rattle.steps.proofs.NameChecks.{not_held, held_passes}
use Rattle.shelf.proofs.Finding.{is_missing, is_found, length-saved}
use Rattle.shelf.proofs.Changing.{answers_refused, answers_done}
use Rattle.shelf.proofs.keeping.restore_in.Goals as goal

pub returns-in_err-place : goal.returns-in_err-place
returns-in_err-place c =
    let s = c.args.shelf.now in
    let n = c.args.name in
    let p = err_from_is_err_and c.from_residual.result c.from_residual.ensures.1 in
    let m = is_missing _ _ c.held_place.result c.held_place.ensures NoSuchName _ c.in_err-place.ensures.value in
    rw (p.1, p.2, m.1)
    (answers_refused c.args.state.now (restored s n) (first_of (held_checks s n)) NoSuchName (not_held s n m.0))

pub copy-requires : goal.copy-requires
copy-requires c =
    let f = is_found _ _ c.held_place.result c.held_place.ensures NoSuchName _ c.in_ok-place.ensures.value in
    ap length c.saved_of.ensures ∙ length-saved c.args.shelf.now c.in_ok-place.place c.requires.1 f.0 ∙ sym c.requires.0

pub returns : goal.returns
returns c =
    let s = c.args.shelf.now in
    let n = c.args.name in
    let f = is_found _ _ c.held_place.result c.held_place.ensures NoSuchName _ c.in_ok-place.ensures.value in
    answers_done c.args.state.now (restored s n) (first_of (held_checks s n)) (held_passes s n f.1)
    (c.copy.ensures ∙ c.saved_of.ensures ∙ ap (saved_of s) f.2)
