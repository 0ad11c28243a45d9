-- A derivation that stands at a place of a list is in it.
-- Assumes nothing.
use Prim.Native.Nat.{ℕ, zero, suc}
use mathlib.Core.Option.{some}
use mathlib.Core.Path.{◌≡◌}
use mathlib.Core.List.{List, [], ◌∷◌, Memᴰ}
use native.Mathlib.Omega.{arith}
use lib.ListN.{get_elem?}
use Rattle.term.specs.Processes.{Derivation}

abbrev pub In : Derivation → List Derivation → Type 0
In d ds = Memᴰ d ds

pub place_in : {d : Derivation} (ds : List Derivation) (c : ℕ) → get_elem? ds c ≡ some d → In d ds
place_in [] c e = let z : ◌≡◌ {A = ℕ} 0 1 = cc in absurd (omega arith)
place_in {d} (x ∷ xs) zero e = let f : d ≡ x = cc in Memᴰ.head f
place_in (x ∷ xs) (suc c) e = Memᴰ.tail (place_in xs c e)
