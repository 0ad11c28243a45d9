-- `lines::page::Page::signed` meets its contract: the sign is written, and then the digits.
-- Assumes nothing.
use Prim.Native.Nat.{ℕ}
use mathlib.Core.Path.{◌≡◌, refl, sym, ap, ◌∙◌}
use mathlib.Core.List.{List, ◌++◌}
use lib.IntN.{ℤ, nat_abs}
use mir.Syntax.{w32}
use mir.Val.{SFits, to_z, of_z}
use Rattle.std.proofs.Math.Facts.{to_z-of_z}
use Rattle.lines.specs.Text.{decimal, signed_decimal}
use Rattle.lines.specs.Pages.{sign}
use Rattle.lines.proofs.Pages.{room_same, room_first, room_then, writes_same, writes_then}
use Rattle.lines.proofs.Decimal.{signed_is}
use Rattle.lines.proofs.page.Page.signed.Goals as goal

-- the sign and the digits of a number that is passed on
whole : (z : ℤ) → SFits w32 z → {s : List ℕ} {n : ℕ} → s ≡ sign (to_z w32 (of_z w32 z)) → n ≡ nat_abs (to_z w32 (of_z w32 z)) → s ++ decimal n ≡ signed_decimal z
whole z f {n = n} g h = ap (λ (t : List ℕ). t ++ decimal n) (rw (to_z-of_z f) at g) ∙ signed_is z (rw (to_z-of_z f) at h)

pub put-requires : goal.put-requires
put-requires c = room_first _ (room_same (sym (whole c.args.number c.ranges.number c.sign.ensures refl)) c.requires)

pub decimal-requires : goal.decimal-requires
decimal-requires c =
    let n = c.from.ensures ∙ c.unsigned_abs.ensures.value in
    room_then (room_same (sym (whole c.args.number c.ranges.number c.sign.ensures n)) c.requires) c.put.ensures

pub returns : goal.returns
returns c =
    let n = c.from.ensures ∙ c.unsigned_abs.ensures.value in
    writes_same (whole c.args.number c.ranges.number c.sign.ensures n) (writes_then c.put.ensures c.decimal.ensures)
