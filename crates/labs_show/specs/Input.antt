-- Where the table ends in an input.
use Rattle.std.specs.Prelude.{ℕ, ◌+◌, ◌*◌, ◌≤◌, cond, ◌≡◌, List, ltb, length}
use Rattle.basis.specs.Bytes.{u16_at}
use Rattle.table.specs.Tables.{header_bytes}
use Rattle.steps.specs.Runs.{step_limit}

-- the first 12 + 5N bytes, or all if fewer; where there is no whole header, all
abbrev pub table_end : List ℕ → ℕ
table_end input =
    cond (ltb (length input) header_bytes) (length input)
    (cond (ltb (header_bytes + 5 * u16_at input 0) (length input)) (header_bytes + 5 * u16_at input 0) (length input))

-- one byte more than the longest input that can be done: a table of 4,096 nodes and a schedule of 8,192 steps
abbrev pub input_bytes : ℕ
input_bytes = header_bytes + 5 * 4096 + 2 + 5 * step_limit + 1

pub record TableEnd (input : List ℕ) (r : ℕ) : Type 0 where
  pub is : r ≡ table_end input
  pub fits : r ≤ length input
