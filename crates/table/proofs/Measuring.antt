-- What measuring answers, and what its answer says of a table.
-- Assumes nothing.
use Prim.Native.Nat.{ℕ, ◌+◌, ◌*◌, ◌≤◌, ◌<◌}
use mathlib.Core.Bool.{true, false}
use mathlib.Core.Path.{◌≡◌}
use mathlib.Core.List.{List}
use lib.Dec.{eqb}
use lib.ListN.{length}
use borrow.Author.Tests.{lt-ltb, le-ltb, eq-eqb, ne_eqb}
use Rattle.table.specs.declared.Sizes.{Sizes}
use Rattle.std.specs.Prelude.{Ok, Err}
use Rattle.table.specs.declared.fleets.Fleet.{Fleet}
use Rattle.table.specs.declared.refusals.Refused.TheVariants.{TableShort, SizeOutsideLimits, TableLength}
use Rattle.table.specs.Fleets.{table_in}
use Rattle.table.specs.Checks.{first_of}
use Rattle.table.specs.Tables.{sizes_of, within_limits, table_of}
use Rattle.table.specs.Measuring.{Measure}

-- each answer
pub measure_1 : (bytes : List ℕ) → length bytes < 12 → Measure bytes (Err TableShort)
unfolding first_of
measure_1 bytes h = record { check = rw (lt-ltb (length bytes) 12 h); fleet = λ f e. (cc) }

module _ (bytes : List ℕ) (s : Sizes) (e : s ≡ sizes_of bytes) (l : 12 ≤ length bytes) where
  pub measure_2 : within_limits s ≡ false → Measure bytes (Err SizeOutsideLimits)
  unfolding first_of
  measure_2 w =
      let v : within_limits (sizes_of bytes) ≡ false = rw e at w in
      record { check = rw (le-ltb (length bytes) 12 l, v); fleet = λ f e. (cc) }

  pub measure_3 : within_limits s ≡ true → (length bytes ≡ 12 + 5 * s.nodes → ⊥) → Measure bytes (Err TableLength)
  unfolding first_of
  measure_3 w n =
      let v : within_limits (sizes_of bytes) ≡ true = rw e at w in
      let m : eqb (length bytes) (12 + 5 * (sizes_of bytes).nodes) ≡ false = rw e at (ne_eqb (length bytes) (12 + 5 * s.nodes) n) in
      record { check = rw (le-ltb (length bytes) 12 l, v, m); fleet = λ f e. (cc) }

  pub measure_fine : within_limits s ≡ true → length bytes ≡ 12 + 5 * s.nodes → (f : Fleet) → table_in f ≡ table_of bytes → Measure bytes (Ok f)
  unfolding first_of
  measure_fine w n f d =
      let v : within_limits (sizes_of bytes) ≡ true = rw e at w in
      let m : eqb (length bytes) (12 + 5 * (sizes_of bytes).nodes) ≡ true = rw e at (eq-eqb (length bytes) (12 + 5 * s.nodes) n) in
      record { check = rw (le-ltb (length bytes) 12 l, v, m); fleet = λ g h. let k : g ≡ f = cc in rw k d }
