-- The residual whose choice is judged.
use Rattle.std.specs.Prelude.{ℕ, ◌<◌, ◌≡◌, List, take}
use Rattle.table.specs.Tables.{Table}
use Rattle.state.specs.Layout.{zc_of, zp_of, length_of, residual_of}
use Rattle.state.specs.WellFormed.{Proper}

-- 11 has passed for agent x, whose residual these words are
pub record ResidualGiven (t : Table) (was : List ℕ) (x : ℕ) (ws : List ℕ) : Type 0 where
  pub proper : Proper t was
  pub agent : x < t.sizes.agents
  pub confirmed : zc_of was x ≡ 0
  pub propagated : zp_of was x ≡ 0
  pub words : ws ≡ take (length_of was x) (residual_of was x)
