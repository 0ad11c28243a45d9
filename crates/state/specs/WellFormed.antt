-- Refusal 9, and the state that load leaves.
use Rattle.std.specs.Prelude.{ℕ, ◌^◌, ◌<◌, ◌≡◌, Bool, true, cond, not, ◌&&◌, ◌||◌, List, [], ◌∷◌, ltb, leb, eqb, length, get_or, set, take, drop, replicate}
use Rattle.basis.specs.Numbers.{every, for_each}
use Rattle.basis.specs.KeySets.{has}
use Rattle.table.specs.Tables.{Table, start_at}
use Rattle.term.specs.Terms.{are_terms}
use Rattle.state.specs.declared.Store.{Store}
use Rattle.state.specs.declared.Store.TheVariants.{Environment, Attributes, Entries}
use Rattle.state.specs.declared.Entry.{Entry}
use Rattle.state.specs.Entries.{entry_of, clock_limit, clock_of}
use Rattle.state.specs.Layout.{state_words, agents_at, block_at, length_at, residual_at, residual_words, key_limit, mark_of, word_of, stamp_of, zc_of, zp_of, length_of, residual_of}

unfoldable pub all_zero : List ℕ → Bool
all_zero [] = true
all_zero (w ∷ ws) = eqb w 0 && all_zero ws

-- the writer of an entry is one of so many agents; where there is no entry, it is 0
unfoldable pub writer_formed : ℕ → Entry → Bool
writer_formed agents e = cond (eqb e.stamp 0) (eqb e.writer 0) (ltb e.writer agents)

module _ (s : List ℕ) where
  -- pair k of a store of so many keys: no mark is over the highest, absent has value 0, a key that the table does not have is absent
  unfoldable pub pair_formed : Store → ℕ → ℕ → ℕ → Bool
  pair_formed store highest keys k =
      leb (mark_of s store k) highest
      && cond (eqb (mark_of s store k) 0) (eqb (word_of s store k) 0) (ltb k keys)

  -- a pending key has an entry
  unfoldable pub pending_formed : ℕ → ℕ → Bool
  pending_formed a k = not (has (zc_of s a) k || has (zp_of s a) k) || ltb 0 (stamp_of s a k)

  -- agent a's entry for key k, where there are so many agents: its writer, and that it is there if the key is pending
  unfoldable pub entry_formed : ℕ → ℕ → ℕ → Bool
  entry_formed agents a k = writer_formed agents (entry_of s a k) && pending_formed a k

module _ (t : Table) (s : List ℕ) where
  -- the residual is one whole term, and 0 after it
  unfoldable pub residual_formed : ℕ → Bool
  residual_formed a =
      leb (length_of s a) residual_words
      && (are_terms t 1 (take (length_of s a) (residual_of s a)) && all_zero (drop (length_of s a) (residual_of s a)))

  unfoldable pub agent_formed : ℕ → Bool
  agent_formed a =
      every (pair_formed s (Attributes a) 1 t.sizes.attributes) key_limit
      && (every (pair_formed s (Entries a) (clock_of s) t.sizes.stigmergy) key_limit
      && ((ltb (zc_of s a) (2 ^ key_limit) && ltb (zp_of s a) (2 ^ key_limit))
      && (every (entry_formed s t.sizes.agents a) key_limit
      && residual_formed a)))

  -- A agrees with the table, the clock is at most 65,535, and the blocks past agent A - 1 are 0
  unfoldable pub well_formed : Bool
  well_formed =
      eqb (get_or s agents_at 0) t.sizes.agents
      && (leb (clock_of s) clock_limit
      && (every (pair_formed s Environment 1 t.sizes.environment) key_limit
      && (every agent_formed t.sizes.agents
      && all_zero (drop (block_at t.sizes.agents) s))))

-- words, as slices hold them: each of 32 bits
abbrev pub Words : List ℕ → Type 0
Words s = (i : ℕ) → get_or s i 0 < 2 ^ 32

-- the words of a state: of the right length, each of 32 bits, and well formed
pub record Proper (t : Table) (s : List ℕ) : Type 0 where
  pub whole : length s ≡ state_words
  pub small : Words s
  pub formed : well_formed t s ≡ true

-- LOAD: clock 0, A, for each agent length 1 and the node that its root names; every other word is 0
abbrev pub started : Table → ℕ → List ℕ → List ℕ
started t a s = set (set s (length_at a) 1) (residual_at a) (start_at t a)

unfoldable pub loaded : Table → List ℕ
loaded t = set (for_each (started t) t.sizes.agents (replicate state_words 0)) agents_at t.sizes.agents
