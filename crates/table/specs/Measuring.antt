-- Refusals 1 to 3, and the sizes of a table that they pass.
use Rattle.std.specs.Prelude.{ℕ, ◌+◌, ◌*◌, ◌<◌, ◌≡◌, not, List, [], ◌∷◌, ltb, eqb, length, take, drop, Result, Ok}
use Rattle.table.specs.declared.Sizes.{Sizes}
use Rattle.table.specs.declared.fleets.Fleet.{Fleet}
use Rattle.table.specs.declared.refusals.Refused.{Refused}
use Rattle.table.specs.Checks.{Refusal, refuse_if, first_of}
use Rattle.table.specs.Refusals.{result_check}
use Rattle.table.specs.Fleets.{table_in}
use Rattle.table.specs.Tables.{header_bytes, sizes_of, within_limits, table_of}

-- the first three lines of a table's checks
abbrev pub size_checks : List ℕ → List Refusal
size_checks bytes =
    refuse_if 1 (ltb (length bytes) header_bytes)
    ∷ refuse_if 2 (not (within_limits (sizes_of bytes)))
    ∷ refuse_if 3 (not (eqb (length bytes) (header_bytes + 5 * (sizes_of bytes).nodes)))
    ∷ []

-- the kinds and the operands of a table of n nodes
abbrev pub kinds_of : List ℕ → ℕ → List ℕ
kinds_of bytes n = take n (drop header_bytes bytes)

abbrev pub operands_of : List ℕ → ℕ → List ℕ
operands_of bytes n = drop (header_bytes + n) bytes

-- what measuring ensures: its check, and the fleet's table where it passes
pub record Measure (bytes : List ℕ) (r : Result Fleet Refused) : Type 0 where
  pub check : result_check r ≡ first_of (size_checks bytes)
  pub fleet : (f : Fleet) → r ≡ Ok f → table_in f ≡ table_of bytes

-- sizes of 16 bits each
pub record SixteenBits (n : Sizes) : Type 0 where
  pub nodes : n.nodes < 65536
  pub definitions : n.definitions < 65536
  pub agents : n.agents < 65536
  pub attributes : n.attributes < 65536
  pub stigmergy : n.stigmergy < 65536
  pub environment : n.environment < 65536

-- what reading the first 12 bytes ensures
pub record Header (bytes : List ℕ) (n : Sizes) : Type 0 where
  pub is : n ≡ sizes_of bytes
  pub small : SixteenBits n
