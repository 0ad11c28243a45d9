-- What checks 1 to 5 leave of a table: sizes within limits, lists of the right lengths, no bad node, no wrong key.
use Rattle.std.specs.Prelude.{ℕ, ◌*◌, ◌<◌, ◌≡◌, ◌↔◌, true, false, length}
use Rattle.table.specs.Tables.{Table, within_limits, kind_at}
use Rattle.table.specs.Rules.{Bad, Wrong}
pub use Rattle.table.specs.Rules.{Limits}
use Rattle.table.specs.Nodes.{is_process, is_guard, is_expression, bad_node}
use Rattle.table.specs.Reach.{wrong_key}

-- 1 to 3 have passed
pub record Shaped (t : Table) : Type 0 where
  pub limits : Limits t.sizes
  pub kinds : length t.kinds ≡ t.sizes.nodes
  pub operands : length t.operands ≡ 4 * t.sizes.nodes

-- and 4 and 5
pub record Sound (t : Table) : Type 0 where
  pub shaped : Shaped t
  pub nodes : (n : ℕ) → n < t.sizes.nodes → bad_node t n ≡ false
  pub keys : (n : ℕ) → n < t.sizes.nodes → wrong_key t n ≡ false

-- the tests of refusals 2, 4 and 5 are the paper's rules: of every node 4's, and 5's where no node is bad
pub record Ruled (t : Table) : Type 0 where
  pub limits : (within_limits t.sizes ≡ true) ↔ Limits t.sizes
  pub bad : Limits t.sizes → (n : ℕ) → n < t.sizes.nodes → (bad_node t n ≡ true) ↔ Bad t n
  pub wrong : Shaped t → ((n : ℕ) → n < t.sizes.nodes → bad_node t n ≡ false) → (n : ℕ) → n < t.sizes.nodes → (wrong_key t n ≡ true) ↔ Wrong t n

-- x is lower than n, and a process, a guard, an expression
module _ (t : Table) where
  abbrev pub LowerProcess : ℕ → ℕ → Type 0
  LowerProcess n x = (x < n) × (is_process (kind_at t x) ≡ true)

  abbrev pub LowerGuard : ℕ → ℕ → Type 0
  LowerGuard n x = (x < n) × (is_guard (kind_at t x) ≡ true)

  abbrev pub LowerExpression : ℕ → ℕ → Type 0
  LowerExpression n x = (x < n) × (is_expression (kind_at t x) ≡ true)
