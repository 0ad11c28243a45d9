-- The stigmergy keys that a node reads, added to a set of keys.
use Rattle.std.specs.Prelude.{ℕ, ◌^◌, ◌<◌, Bool, false, ◌&&◌, ◌||◌, ◌≡◌, eqb}
use Rattle.basis.specs.Below.{below}
use Rattle.basis.specs.KeySets.{has}
use Rattle.basis.specs.Kinds as kind
use Rattle.table.specs.Tables.{Table, kind_at, p_at}
use Rattle.state.specs.Layout.{key_limit}
use Rattle.state.specs.Evaluation.{reads_step}

-- the set r is the set w with each key that passes
pub record Adds (test : ℕ → Bool) (w r : ℕ) : Type 0 where
  pub keys : (k : ℕ) → k < key_limit → has r k ≡ (has w k || test k)
  pub small : w < 2 ^ key_limit → r < 2 ^ key_limit

module _ (t : Table) where
  -- `reads` at a limit
  abbrev pub reads_below : ℕ → ℕ → ℕ → Bool
  reads_below limit n k = below (reads_step t) (λ (j : ℕ). false) limit n k

  -- the key that node n itself is
  abbrev pub is_key : ℕ → ℕ → Bool
  is_key n k = eqb (kind_at t n) kind.stigmergy && eqb (p_at t n) k
