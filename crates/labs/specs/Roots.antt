-- The nodes that roots name. The last D + S + A nodes are roots, of bodies, links and starting processes in that order: the last A name the
-- agents' starting processes, the S before them the links of keys, the D before those the bodies of definitions.
use Rattle.std.specs.Prelude.{ℕ, ◌+◌, ◌-◌}
use Rattle.table.specs.Tables.{Table, p_at}

module _ (t : Table) where
  abbrev pub start_of : ℕ → ℕ
  start_of a = p_at t (t.sizes.nodes - t.sizes.agents + a)

  abbrev pub link_of : ℕ → ℕ
  link_of x = p_at t (t.sizes.nodes - (t.sizes.stigmergy + t.sizes.agents) + x)

  abbrev pub body_of : ℕ → ℕ
  body_of d = p_at t (t.sizes.nodes - (t.sizes.definitions + t.sizes.stigmergy + t.sizes.agents) + d)
