-- Laws of texts on a page: nothing written, an equal text, and one text after another.
-- Assumes nothing.
use Prim.Native.Nat.{ℕ, ◌≤◌}
use mathlib.Core.Path.{◌≡◌, refl, subst, ◌∙◌}
use mathlib.Core.List.{List, [], ◌++◌}
use native.Mathlib.Omega.{arith}
use lib.ListN.{length, length-append}
use Rattle.lines.specs.declared.page.Page.{Page}
use Rattle.lines.specs.Pages.{HasRoom, Writes}
use Rattle.lines.proofs.Writing.{wrote_same, wrote_nothing, wrote_length, wrote_then}

-- an equal text has as much room
pub room_same : {t u : List ℕ} {p : Page} → t ≡ u → HasRoom t p → HasRoom u p
room_same {p = p} e h = subst (λ (s : List ℕ). HasRoom s p) e h

-- of two texts there is room for the first, and then for the second
pub room_first : {t : List ℕ} (u : List ℕ) {p : Page} → HasRoom (t ++ u) p → HasRoom t p
room_first {t} u h = record { fits = omega (arith, h, length-append t u) }

pub room_then : {t u : List ℕ} {was now : Page} → HasRoom (t ++ u) was → Writes t was now → HasRoom u now
room_then {t} {u} h w = record { fits = omega (arith, h, length-append t u, w.wrote.ends, wrote_length w.wrote) }

pub writes_same : {t u : List ℕ} {was now : Page} → t ≡ u → Writes t was now → Writes u was now
writes_same e w = record { wrote = wrote_same e w.wrote; buffer = w.buffer }

pub writes_nothing : {p : Page} → p.len ≤ length p.bytes.now → Writes [] p p
writes_nothing h = record { wrote = wrote_nothing h; buffer = refl }

pub writes_then : {t u : List ℕ} {was mid now : Page} → Writes t was mid → Writes u mid now → Writes (t ++ u) was now
writes_then v w = record { wrote = wrote_then v.wrote w.wrote; buffer = w.buffer ∙ v.buffer }
