-- What load writes, step by step.
-- Assumes nothing.
use Prim.Native.Nat.{ℕ, ◌+◌}
use mathlib.Core.Path.{◌≡◌, sym}
use mathlib.Core.List.{List}
use lib.ListN.{set}
use Rattle.basis.specs.Numbers.{for_each}
use Rattle.basis.proofs.Numbers.{for_each_more}
use Rattle.table.specs.Tables.{Table, start_at}
use Rattle.state.specs.Layout.{length_at, residual_at}
use Rattle.state.specs.WellFormed.{started}

-- one agent more, whose length and first residual word stand at `size` and `word`
pub started_more : (t : Table) (s₀ s : List ℕ) (a size word node : ℕ) → size ≡ length_at a → word ≡ residual_at a → node ≡ start_at t a → s ≡ for_each (started t) a s₀
    → set (set s size 1) word node ≡ for_each (started t) (a + 1) s₀
started_more t s₀ s a size word node size_is word_is node-is e = rw (size_is, word_is, node-is, e) (sym (for_each_more (started t) a s₀))
