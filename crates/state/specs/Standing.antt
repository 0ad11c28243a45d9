-- What code asks of a place among the state's words, and what it answers.
use Rattle.std.specs.Prelude.{ℕ, ◌+◌, ◌*◌, ◌<◌, ◌≤◌, ◌≡◌, List, length}
use Rattle.state.specs.declared.Store.{Store}
use Rattle.state.specs.declared.Store.TheVariants.{Environment, Attributes, Entries}
use Rattle.state.specs.Layout.{agent_limit, key_limit, pair_words, entry_words, environment_at, attributes_at, entries_at, blocks_end}

-- whose a store is; 0 where it is everyone's
abbrev pub store_agent : Store → ℕ
store_agent Environment = 0
store_agent (Attributes a) = a
store_agent (Entries a) = a

-- a key of a store that a state has
pub record Pair (store : Store) (k : ℕ) : Type 0 where
  pub agent : store_agent store < agent_limit
  pub key : k < key_limit

-- the first word of a key, and how many it has
abbrev pub key_at : Store → ℕ → ℕ
key_at Environment k = environment_at + pair_words * k
key_at (Attributes a) k = attributes_at a + pair_words * k
key_at (Entries a) k = entries_at a + entry_words * k

abbrev pub key_words : Store → ℕ
key_words Environment = pair_words
key_words (Attributes a) = pair_words
key_words (Entries a) = entry_words

-- s has room for all blocks
abbrev pub HasBlocks : List ℕ → Type 0
HasBlocks s = blocks_end ≤ length s

-- r is this place, and so many words stand in the state from there on
pub record Standing (place words r : ℕ) : Type 0 where
  pub is : r ≡ place
  pub fits : r + words ≤ blocks_end
