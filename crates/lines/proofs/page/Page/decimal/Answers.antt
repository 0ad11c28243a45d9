-- `lines::page::Page::decimal` meets its contract.
-- Assumes nothing.
use mathlib.Core.Path.{sym, ◌∙◌}
use Rattle.lines.proofs.Pages.{room_same, writes_same}
use Rattle.lines.proofs.Decimal.{decimal_is}
use Rattle.lines.proofs.page.Page.decimal.Goals as goal

pub put-requires : goal.put-requires
put-requires c =
    let d = c.decimal-size in
    room_same (sym (d.ensures.digits ∙ decimal_is c.args.n d.result d.ensures.len)) c.requires

pub returns : goal.returns
returns c =
    let d = c.decimal-size in
    writes_same (d.ensures.digits ∙ decimal_is c.args.n d.result d.ensures.len) c.put.ensures
