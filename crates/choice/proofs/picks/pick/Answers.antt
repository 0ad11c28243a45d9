-- `pick` meets its contract. Assumes nothing.
use mathlib.Core.Path.{sym}
use Rattle.choice.proofs.Picking.{picks_first, picks_second, picks_third, picks_fourth, quotient_or, remainder_or}
use Rattle.choice.proofs.picks.pick.Goals as goal

pub returns-then-c-first : goal.returns-then-c-first
returns-then-c-first c = let a = c.args in sym (picks_first a.mode a.c a.beside a.left a.right (rw c.acting-first.ensures at c.if-c-first.true))

pub returns-then-second-beside : goal.returns-then-second-beside
returns-then-second-beside c =
    let a = c.args in
    let e = c.acting-first.ensures in
    rw e (sym (picks_second a.mode a.c a.beside a.left a.right (rw e at c.if-c-first.false) (rw e at c.if-second-beside.true)))

pub returns-then-third-joined : goal.returns-then-third-joined
returns-then-third-joined c =
    let a = c.args in
    let e = c.acting-first.ensures in
    let f = c.total-n.ensures.0 in
    rw (e, f)
    (sym (picks_third a.mode a.c a.beside a.left a.right (rw e at c.if-c-first.false) (rw e at c.if-second-beside.false) (rw (e, f) at c.if-third-joined.true)))

pub returns : goal.returns
returns c =
    let a = c.args in
    let e = c.acting-first.ensures in
    let f = c.total-n.ensures.0 in
    rw (c.unwrap_or.ensures, c.unwrap_or-2.ensures, quotient_or _ _ _ c.checked_div.ensures, remainder_or _ _ _ c.checked_rem.ensures, c.total-k.ensures.0, e, f)
    (sym (picks_fourth a.mode a.c a.beside a.left a.right (rw e at c.if-c-first.false)
    (rw e at c.if-second-beside.false) (rw (e, f) at c.if-third-joined.false)))
