-- The texts of the numbers below n, written one after another.
-- Assumes nothing.
use Prim.Native.Nat.{ℕ, zero, suc, ◌+◌, ◌<◌, ◌≤◌}
use mathlib.Core.Logic.{⊎_elim}
use mathlib.Core.Path.{◌≡◌}
use mathlib.Core.List.{List}
use native.Mathlib.Numerals.{add-one}
use native.Mathlib.Omega.{arith}
use lib.ListN.{length, length-append}
use Rattle.basis.proofs.Tests.{below_or_last}
use Rattle.lines.specs.declared.page.Page.{Page}
use Rattle.lines.specs.Text.{each_below}
use Rattle.lines.specs.Pages.{HasRoom, Writes}
use Rattle.lines.proofs.Writing.{wrote_length}
use Rattle.lines.proofs.Pages.{writes_nothing, writes_then}

-- the length of each part is within that of the whole
part : (text : ℕ → List ℕ) (n k : ℕ) → k < n → length (each_below text k) + length (text k) ≤ length (each_below text n)
unfolding each_below
part text zero k h = absurd (omega arith)
part text (suc n) k h =
    ⊎_elim (λ (l : k < n). omega (arith, part text n k l, length-append (each_below text n) (text n)))
    (λ (l : k ≡ n). rw l (omega (arith, length-append (each_below text n) (text n)))) (below_or_last k n h)

module _ (text : ℕ → List ℕ) {was : Page} where
  pub each_none : (n : ℕ) → HasRoom (each_below text n) was → Writes (each_below text 0) was was
  unfolding each_below
  each_none n h = writes_nothing (omega arith)

  -- there is room for the next one
  pub each_room : {now : Page} (n k : ℕ) → HasRoom (each_below text n) was → Writes (each_below text k) was now → k < n → HasRoom (text k) now
  each_room {now} n k h w l = record { fits = omega (arith, h, w.wrote.ends, part text n k l, wrote_length w.wrote) }

  pub each_more : {mid now : Page} (k : ℕ) → Writes (each_below text k) was mid → Writes (text k) mid now → Writes (each_below text (k + 1)) was now
  unfolding each_below
  each_more k v w = rw (add-one k) (writes_then v w)
