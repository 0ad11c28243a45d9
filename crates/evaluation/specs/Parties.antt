-- What finding a party's agent ensures.
use Rattle.std.specs.Prelude.{ℕ, ◌<◌, ◌≡◌}
use Rattle.table.specs.Tables.{agent_limit}
use Rattle.state.specs.Evaluation.{party_of}

pub record Party (sender receiver q r : ℕ) : Type 0 where
  pub is : r ≡ party_of sender receiver q
  pub there : r < agent_limit
