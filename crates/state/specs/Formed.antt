-- Well formed, in the paper's words and with its numbers: a second reading of WellFormed, as facts and not as tests.
use Rattle.std.specs.Prelude.{ℕ, ◌+◌, ◌<◌, ◌≤◌, true, ◌↔◌, ◌≡◌, List, length, get_or}
use Rattle.basis.specs.KeySets.{has}
use Rattle.table.specs.Tables.{Table}
use Rattle.table.specs.Rules.{Limits}
use Rattle.term.specs.Terms.{words}
use Rattle.term.specs.Accepted.{Over}
use Rattle.state.specs.declared.Store.{Store}
use Rattle.state.specs.declared.Store.TheVariants.{Environment, Attributes, Entries}
use Rattle.state.specs.Layout.{agents_at, block_at, residual_at, mark_of, word_of, stamp_of, writer_of, zc_of, zp_of, length_of, term_in}
use Rattle.state.specs.Entries.{clock_of}
use Rattle.state.specs.WellFormed.{well_formed, Words}
use Rattle.state.specs.Standing.{HasBlocks}

-- pair k of a store of so many keys: no mark is over the highest, absent has value 0, a key that there is not is absent
pub record PairFormed (s : List ℕ) (store : Store) (highest keys k : ℕ) : Type 0 where
  pub bound : mark_of s store k ≤ highest
  pub absent : mark_of s store k ≡ 0 → word_of s store k ≡ 0
  pub unused : keys ≤ k → mark_of s store k ≡ 0

-- the writer of agent a's entry for k is one of so many agents; where there is no entry, it is 0
pub record WriterFormed (s : List ℕ) (agents a k : ℕ) : Type 0 where
  pub none : stamp_of s a k ≡ 0 → writer_of s a k ≡ 0
  pub agent : 0 < stamp_of s a k → writer_of s a k < agents

-- the set w of agent a: no bit past 16 keys, and every key has an entry
pub record SetFormed (s : List ℕ) (a w : ℕ) : Type 0 where
  pub narrow : w < 65536
  pub entered : (k : ℕ) → k < 16 → has w k ≡ true → 0 < stamp_of s a k

-- agent a's residual is a term over process nodes, of at most 63 words, and 0 after it
pub record ResidualFormed (t : Table) (s : List ℕ) (a : ℕ) : Type 0 where
  pub over : Over t (term_in s a)
  pub long : length_of s a ≡ length (words (term_in s a))
  pub short : length_of s a ≤ 63
  pub reads : (i : ℕ) → i < 63 → get_or s (residual_at a + i) 0 ≡ get_or (words (term_in s a)) i 0

-- of each store: whether it is there, its highest mark where stamps go up to c, and how many keys it has
abbrev pub There : Table → Store → Type 0
There t Environment = Unit {0}
There t (Attributes a) = a < t.sizes.agents
There t (Entries a) = a < t.sizes.agents

abbrev pub highest_in : ℕ → Store → ℕ
highest_in c Environment = 1
highest_in c (Attributes a) = 1
highest_in c (Entries a) = c

abbrev pub keys_in : Table → Store → ℕ
keys_in t Environment = t.sizes.environment
keys_in t (Attributes a) = t.sizes.attributes
keys_in t (Entries a) = t.sizes.stigmergy

-- well formed but for the clock, with stamps up to c: A agrees with the table, pairs, writers, Zc, Zp and residuals are formed, and what is past
-- the last agent's block is 0
pub record Formed (t : Table) (c : ℕ) (s : List ℕ) : Type 0 where
  pub agents : get_or s agents_at 0 ≡ t.sizes.agents
  pub pairs : (store : Store) → There t store → (k : ℕ) → k < 16 → PairFormed s store (highest_in c store) (keys_in t store) k
  pub writers : (a : ℕ) → a < t.sizes.agents → (k : ℕ) → k < 16 → WriterFormed s t.sizes.agents a k
  pub zc_formed : (a : ℕ) → a < t.sizes.agents → SetFormed s a (zc_of s a)
  pub zp_formed : (a : ℕ) → a < t.sizes.agents → SetFormed s a (zp_of s a)
  pub residuals : (a : ℕ) → a < t.sizes.agents → ResidualFormed t s a
  pub unused : (i : ℕ) → block_at t.sizes.agents ≤ i → get_or s i 0 ≡ 0

pub record WellFormed (t : Table) (s : List ℕ) : Type 0 where
  pub clock : clock_of s ≤ 65535
  pub formed : Formed t (clock_of s) s

-- `Proper`, with the facts of a well-formed state: 4,706 words of 32 bits
pub record ProperFacts (t : Table) (s : List ℕ) : Type 0 where
  pub whole : length s ≡ 4706
  pub small : Words s
  pub formed : WellFormed t s

-- THE TEST of refusal 9 asks exactly this, of every table within limits and every state that has its blocks
abbrev pub FormedExactly : Type 0
FormedExactly = (t : Table) → Limits t.sizes → (s : List ℕ) → HasBlocks s → (well_formed t s ≡ true) ↔ WellFormed t s
