-- A word's number is in range.
-- Assumes nothing.
use Prim.Native.Nat.{ℕ}
use mathlib.Core.Bool.{true}
use mathlib.Core.Path.{◌≡◌}
use mir.Syntax.{w32}
use mir.Val.{Fits}
use mir.Facts.{sfits_to_z}
use Rattle.value.specs.Values.{signed_of, in_range}
use Rattle.value.proofs.Words.{in_range_lem}

pub word_in_range : {w : ℕ} → Fits w32 w → in_range (signed_of w) ≡ true
word_in_range {w} f = (in_range_lem (signed_of w)).1 (sfits_to_z f).sfits
