-- `machine::preview` meets its contract.
-- Assumes nothing.
use Rattle.std.proofs.Common.{refl, sym, ◌∙◌, length}
use Rattle.std.proofs.lemmas.Result.{err_from_is_err_and}
use borrow.Author.Tests.{eqb-true}
use Rattle.state.specs.Layout.{state_words}
use Rattle.opening.proofs.Opened.{opened_fit}
use Rattle.machine.proofs.Opened.{preview_refused, preview_opened}
use Rattle.machine.proofs.preview.Goals as goal

pub returns-in_err-fleet : goal.returns-in_err-fleet
returns-in_err-fleet c =
    let p = err_from_is_err_and c.from_residual.result c.from_residual.ensures.1 in
    rw (p.1, p.2) (preview_refused c.args.next.now c.args.kind c.args.agent c.args.number c.in_err-fleet.ensures)

pub preview_in-requires-clause-first_len : goal.preview_in-requires-clause-first_len
preview_in-requires-clause-first_len c =
    (c.in_ok-fleet.ensures.opened _ refl).proper.whole ∙ sym (eqb-true (length c.args.next.now) state_words (opened_fit c.in_ok-fleet.ensures))

pub returns : goal.returns
returns c =
    preview_opened c.args.next.now c.args.kind c.args.agent c.args.number c.in_ok-fleet.ensures (rw c.new.ensures at c.preview_in.ensures)
