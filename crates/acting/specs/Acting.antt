-- What the parts of an act ask of the state.
use Rattle.std.specs.Prelude.{ℕ, ◌<◌, ◌≤◌, true, ◌≡◌, List, length}
use Rattle.basis.specs.Kinds as kind
use Rattle.table.specs.Tables.{Table, kind_at, p_at, agent_limit}
use Rattle.term.specs.Terms.{words}
use Rattle.term.specs.Processes.{all_few}
use Rattle.term.specs.Accepted.{ActionNode}
use Rattle.state.specs.Layout.{key_limit, residual_words, term_in}
use Rattle.state.specs.Entries.{clock_of, clock_limit}
use Rattle.state.specs.Standing.{HasBlocks}
use Rattle.state.specs.WellFormed.{residual_formed}
use Rattle.steps.specs.Acts.{word_in, value_for, choices, chosen}

-- what choice c of agent x's residual leaves has room
pub record Leaving (t : Table) (s : List ℕ) (x c : ℕ) : Type 0 where
  pub blocks : HasBlocks s
  pub agent : x < agent_limit
  pub formed : residual_formed t s x ≡ true
  pub few : all_few t (term_in s x) ≡ true
  pub there : c < length (choices t s x)
  pub short : length (words (chosen t s x c).leaving) ≤ residual_words

-- agent x can write to stigmergy key k
pub record Entering (s : List ℕ) (x k : ℕ) : Type 0 where
  pub blocks : HasBlocks s
  pub agent : x < agent_limit
  pub key : k < key_limit
  pub room : clock_of s < clock_limit

-- action n of agent x sets its key to word v
pub record Setting (t : Table) (s : List ℕ) (x n v : ℕ) : Type 0 where
  pub blocks : HasBlocks s
  pub agent : x < agent_limit
  pub action : ActionNode t n
  pub key : p_at t n < key_limit
  pub room : kind_at t n ≡ kind.set_stigmergy → clock_of s < clock_limit
  pub value : v ≡ word_in (value_for t s x n)
