-- The state's words: where things stand, what stands there, and how one of them is changed.
use Rattle.std.specs.Prelude.{ℕ, ◌+◌, ◌*◌, Bool, cond, List, eqb, ltb, length, get_or, set, take, drop}
use Rattle.basis.specs.KeySets.{plus, minus}
use Rattle.value.specs.Values.{Value}
use Rattle.std.specs.Prelude.{None, Some}
pub use Rattle.table.specs.Tables.{agent_limit, key_limit}
use Rattle.term.specs.Terms.{Term, term_of}
use Rattle.state.specs.declared.Store.{Store}
use Rattle.state.specs.declared.Store.TheVariants.{Environment, Attributes, Entries}

-- HOW MANY. Words of a pair, mark and value of a key of the environment or the attributes; of an entry, which has its writer too; of a residual
abbrev pub pair_words : ℕ
pair_words = 2

abbrev pub entry_words : ℕ
entry_words = 3

abbrev pub residual_words : ℕ
residual_words = 63

-- PLACES. Clock, A, 16 environment pairs, then 32 agent blocks
abbrev pub clock_at : ℕ
clock_at = 0

abbrev pub agents_at : ℕ
agents_at = 1

abbrev pub environment_at : ℕ
environment_at = 2

abbrev pub blocks_at : ℕ
blocks_at = environment_at + key_limit * pair_words

-- a block: 16 attribute pairs, 16 stigmergy entries, Zc, Zp, residual length, 63 residual words
abbrev pub block_words : ℕ
block_words = key_limit * pair_words + key_limit * entry_words + 3 + residual_words

abbrev pub block_at : ℕ → ℕ
block_at a = blocks_at + block_words * a

abbrev pub attributes_at : ℕ → ℕ
attributes_at a = block_at a

abbrev pub entries_at : ℕ → ℕ
entries_at a = attributes_at a + key_limit * pair_words

abbrev pub zc_at : ℕ → ℕ
zc_at a = entries_at a + key_limit * entry_words

abbrev pub zp_at : ℕ → ℕ
zp_at a = zc_at a + 1

abbrev pub length_at : ℕ → ℕ
length_at a = zp_at a + 1

abbrev pub residual_at : ℕ → ℕ
residual_at a = length_at a + 1

-- where the blocks end, and the words of a state
abbrev pub blocks_end : ℕ
blocks_end = block_at agent_limit

abbrev pub state_words : ℕ
state_words = blocks_end

abbrev pub is_whole : List ℕ → Bool
is_whole s = eqb (length s) state_words

-- the word that says whether there is a value, present or the stamp; the word of the value; and that of an entry's writer.
-- Environment and attributes: (present, value); stigmergy entries: (value, stamp, writer)
abbrev pub mark_at : Store → ℕ → ℕ
mark_at Environment k = environment_at + pair_words * k
mark_at (Attributes a) k = attributes_at a + pair_words * k
mark_at (Entries a) k = entries_at a + entry_words * k + 1

abbrev pub value_at : Store → ℕ → ℕ
value_at Environment k = environment_at + pair_words * k + 1
value_at (Attributes a) k = attributes_at a + pair_words * k + 1
value_at (Entries a) k = entries_at a + entry_words * k

abbrev pub writer_at : ℕ → ℕ → ℕ
writer_at a k = entries_at a + entry_words * k + 2

-- WHAT STANDS THERE
abbrev pub mark_of : List ℕ → Store → ℕ → ℕ
mark_of s store k = get_or s (mark_at store k) 0

abbrev pub word_of : List ℕ → Store → ℕ → ℕ
word_of s store k = get_or s (value_at store k) 0

abbrev pub stamp_of : List ℕ → ℕ → ℕ → ℕ
stamp_of s a k = mark_of s (Entries a) k

abbrev pub writer_of : List ℕ → ℕ → ℕ → ℕ
writer_of s a k = get_or s (writer_at a k) 0

abbrev pub zc_of : List ℕ → ℕ → ℕ
zc_of s a = get_or s (zc_at a) 0

abbrev pub zp_of : List ℕ → ℕ → ℕ
zp_of s a = get_or s (zp_at a) 0

abbrev pub length_of : List ℕ → ℕ → ℕ
length_of s a = get_or s (length_at a) 0

abbrev pub residual_of : List ℕ → ℕ → List ℕ
residual_of s a = take residual_words (drop (residual_at a) s)

-- what is left of agent a's process
abbrev pub term_in : List ℕ → ℕ → Term
term_in s a = term_of (take (length_of s a) (residual_of s a))

-- the value of a key in a store: absent where the mark is 0
unfoldable pub value_in : List ℕ → Store → ℕ → Value
value_in s store k =
    cond (ltb k key_limit)
    (cond (eqb (mark_of s store k) 0) None (Some (word_of s store k)))
    None

-- CHANGES. A key of a store gets a value and a mark; the set of keys at place i gets key k, or loses it
unfoldable pub put : Store → ℕ → ℕ → ℕ → List ℕ → List ℕ
put store k v mark s = set (set s (value_at store k) v) (mark_at store k) mark

unfoldable pub add_key : ℕ → ℕ → List ℕ → List ℕ
add_key i k s = set s i (plus (get_or s i 0) k)

unfoldable pub drop_key : ℕ → ℕ → List ℕ → List ℕ
drop_key i k s = set s i (minus (get_or s i 0) k)
