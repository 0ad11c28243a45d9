-- The layout's numbers, and refusal 9, case by case: the state that load leaves of the paper's table, with a change or two.
-- Assumes nothing.
use Prim.Native.Nat.{ℕ, ◌+◌}
use mathlib.Core.Bool.{true, false}
use mathlib.Core.Path.{◌≡◌, refl}
use mathlib.Core.List.{List, [], ◌∷◌, map}
use lib.ListN.{set}
use Rattle.basis.specs.Numbers.{every, for_each}
use Rattle.basis.specs.KeySets.{has, plus}
use Rattle.table.specs.Tables.{Table, table_of}
use Rattle.table.proofs.Examples.{rehearsed}
use Rattle.term.specs.Terms.{are_terms}
use Rattle.state.specs.declared.Store.TheVariants.{Environment, Attributes, Entries}
use Rattle.state.specs.Layout.{block_words, state_words, mark_at, value_at, writer_at, agents_at, block_at, zc_at, zp_at, length_at, residual_at, put, add_key}
use Rattle.state.specs.Entries.{entry, put_entry, set_clock}
use Rattle.state.specs.WellFormed.{all_zero, writer_formed, pair_formed, pending_formed, entry_formed, residual_formed, agent_formed, well_formed, loaded}

-- the words of a block, and of a state
pub paper_words : (block_words ≡ 146) × (state_words ≡ 4706)
paper_words = (refl, refl)

-- an entry's three words, in their order
pub paper_entry : (value_at (Entries 0) 0 ≡ 66) × (mark_at (Entries 0) 0 ≡ 67) × (writer_at 0 0 ≡ 68) × (value_at (Entries 0) 1 ≡ 69)
paper_entry = (refl, refl, refl, refl)

-- two agents, one attribute, one stigmergy key, no environment key; agent 0 starts as node 1, agent 1 as node 3
abbrev t : Table
t = table_of rehearsed

-- agent 0 has the entry (7, stamp 3) of a writer; or that of agent 1, at a clock
abbrev written_by : ℕ → List ℕ
written_by writer = set_clock 3 (put_entry 0 0 (entry 7 3 writer) (loaded t))

abbrev with_entry : ℕ → List ℕ
with_entry clock = set_clock clock (written_by 1)

abbrev formed : List (List ℕ)
formed =
    loaded t
    ∷ with_entry 3  -- a stamp as high as the clock
    ∷ with_entry 65535  -- the highest clock
    ∷ written_by 0  -- the first agent's own entry
    ∷ add_key (zc_at 0) 0 (add_key (zp_at 0) 0 (with_entry 3))  -- a key that is pending and has an entry
    ∷ put (Attributes 1) 0 0 1 (loaded t)  -- an attribute that is 0
    ∷ set (set (set (set (loaded t) (length_at 1) 3) (residual_at 1) 65535) (residual_at 1 + 1) 65533) (residual_at 1 + 2) 3  -- tick ; node 3
    ∷ []

abbrev faulty : List (List ℕ)
faulty =
    set (loaded t) agents_at 3  -- A is not the table's
    ∷ with_entry 65536  -- the clock is over 65,535
    ∷ with_entry 2  -- a stamp above the clock
    ∷ put (Entries 0) 0 7 0 (loaded t)  -- no entry, and a value
    ∷ written_by 2  -- a writer that is no agent: A
    ∷ put_entry 0 0 (entry 0 0 1) (loaded t)  -- no entry, and a writer
    ∷ put_entry 1 15 (entry 0 0 1) (loaded t)  -- the writer of a key that the table doesn't have
    ∷ put (Attributes 1) 0 0 2 (loaded t)  -- neither present nor absent
    ∷ put Environment 0 5 1 (loaded t)  -- a key that the table doesn't have
    ∷ add_key (zc_at 1) 0 (with_entry 3)  -- a key to confirm without an entry
    ∷ add_key (zp_at 1) 0 (with_entry 3)  -- a key to propagate without an entry
    ∷ set (loaded t) (residual_at 1) 4  -- node 4 is no process
    ∷ set (loaded t) (length_at 1) 2  -- a word too many
    ∷ set (loaded t) (length_at 1) 0  -- none
    ∷ set (loaded t) (residual_at 1 + 1) 3  -- a word after the residual
    ∷ set (loaded t) (block_at 2) 1  -- a word of an agent past the last
    ∷ []

pub formed_pass : map (well_formed t) formed ≡ map (λ (s : List ℕ). true) formed
unfolding every for_each has plus are_terms put add_key all_zero writer_formed pair_formed pending_formed entry_formed residual_formed agent_formed well_formed loaded
formed_pass = refl

pub faulty_fail : map (well_formed t) faulty ≡ map (λ (s : List ℕ). false) faulty
unfolding every for_each has plus are_terms put add_key all_zero writer_formed pair_formed pending_formed entry_formed residual_formed agent_formed well_formed loaded
faulty_fail = refl
