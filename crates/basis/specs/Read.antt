-- What reading a 16-bit number ensures.
use Rattle.std.specs.Prelude.{ℕ, ◌<◌, ◌≡◌, List}
use Rattle.basis.specs.Bytes.{u16_at}

pub record U16 (bytes : List ℕ) (at r : ℕ) : Type 0 where
  pub is : r ≡ u16_at bytes at
  pub small : r < 65536
