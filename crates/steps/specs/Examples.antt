-- The rehearsed examples (a) to (j), over one table of bytes.
use Rattle.std.specs.Prelude.{ℕ, Bool, cond, ◌≡◌, List, [], ◌∷◌, ◌++◌, length, replicate}
use Rattle.value.specs.Values.{Value}
use Rattle.std.specs.Prelude.{None, Some}
use Rattle.table.specs.Checks.{number_of}
use Rattle.table.specs.Tables.{Table, table_of}
use Rattle.term.specs.Terms.{Node, par_word, tick_word, words}
use Rattle.term.specs.Processes.{Derivation, derivations, process}
use Rattle.state.specs.declared.Store.TheVariants.{Attributes, Entries}
use Rattle.state.specs.declared.Entry.{Entry}
use Rattle.state.specs.Layout.{state_words, zc_at, zp_at, word_of, stamp_of, writer_of, zc_of, zp_of, put, add_key}
use Rattle.state.specs.Entries.{entry, put_entry, set_clock}
use Rattle.state.specs.Evaluation.{value_of, holds}
use Rattle.state.specs.WellFormed.{loaded}
use Rattle.steps.specs.Steps.{Outcome, load_of, step_of}

-- sizes 32, 1, 2, 1, 1, 0. 0 to 5: not (1 = attribute 0), or true. 6 to 8: tick|tick. 9 to 12: action|tick. 13 to 17: a|b. 18 calls
-- definition 0. 19 to 21: the sender's attribute 0 = 1. 22 to 24: 2,147,483,647 + 1. 25 to 27: -7 remainder 3.
-- Roots: definition 0 is 12, the link is 21, the agents start as 18 and 8
abbrev pub example : List ℕ
example =
    32 ∷ 0 ∷ 1 ∷ 0 ∷ 2 ∷ 0 ∷ 1 ∷ 0 ∷ 1 ∷ 0 ∷ 0 ∷ 0
    ∷ 32 ∷ 33 ∷ 17 ∷ 20 ∷ 16 ∷ 22 ∷ 1 ∷ 1 ∷ 8 ∷ 32 ∷ 2 ∷ 1 ∷ 8 ∷ 32 ∷ 2 ∷ 32 ∷ 3 ∷ 8 ∷ 9 ∷ 33 ∷ 32 ∷ 17 ∷ 32 ∷ 32 ∷ 36 ∷ 32 ∷ 32 ∷ 40 ∷ 64 ∷ 64 ∷ 64 ∷ 64
    ∷ 1 ∷ 0 ∷ 0 ∷ 0 ∷ 0 ∷ 0 ∷ 0 ∷ 0 ∷ 0 ∷ 0 ∷ 1 ∷ 0 ∷ 2 ∷ 0 ∷ 0 ∷ 0 ∷ 0 ∷ 0 ∷ 0 ∷ 0 ∷ 3 ∷ 0 ∷ 4 ∷ 0
    ∷ 0 ∷ 0 ∷ 0 ∷ 0 ∷ 0 ∷ 0 ∷ 0 ∷ 0 ∷ 6 ∷ 0 ∷ 7 ∷ 0 ∷ 7 ∷ 0 ∷ 0 ∷ 0 ∷ 0 ∷ 0 ∷ 9 ∷ 0 ∷ 0 ∷ 0 ∷ 0 ∷ 0
    ∷ 10 ∷ 0 ∷ 11 ∷ 0 ∷ 8 ∷ 0 ∷ 0 ∷ 0 ∷ 0 ∷ 0 ∷ 13 ∷ 0 ∷ 9 ∷ 0 ∷ 0 ∷ 0 ∷ 0 ∷ 0 ∷ 15 ∷ 0 ∷ 14 ∷ 0 ∷ 16 ∷ 0
    ∷ 0 ∷ 0 ∷ 0 ∷ 0 ∷ 0 ∷ 0 ∷ 1 ∷ 0 ∷ 1 ∷ 0 ∷ 0 ∷ 0 ∷ 19 ∷ 0 ∷ 20 ∷ 0 ∷ 255 ∷ 255 ∷ 255 ∷ 127 ∷ 1 ∷ 0 ∷ 0 ∷ 0
    ∷ 22 ∷ 0 ∷ 23 ∷ 0 ∷ 249 ∷ 255 ∷ 255 ∷ 255 ∷ 3 ∷ 0 ∷ 0 ∷ 0 ∷ 25 ∷ 0 ∷ 26 ∷ 0 ∷ 12 ∷ 0 ∷ 0 ∷ 0 ∷ 21 ∷ 0 ∷ 0 ∷ 0
    ∷ 18 ∷ 0 ∷ 0 ∷ 0 ∷ 8 ∷ 0 ∷ 0 ∷ 0 ∷ []

abbrev pub t : Table
t = table_of example

abbrev pub scratch : ℕ
scratch = 64

-- the loaded state at clock 4, where agent 0 has attribute 0 = 1, so that its link to agent 1 holds and the other way doesn't,
-- agent 0 holds e and agent 1 holds f for key 0, which is in agent 0's set that stands at a place
abbrev pub holding : ℕ → Entry → Entry → List ℕ
holding at e f = set_clock 4 (add_key at 0 (put_entry 1 0 f (put_entry 0 0 e (put (Attributes 0) 0 1 1 (loaded t)))))

abbrev pub bit : Bool → ℕ
bit b = cond b 1 0

-- what a step comes to: refusal, added, replaced, then for each agent value, stamp and writer of key 0, Zc, Zp
abbrev pub shown : Outcome → List ℕ
shown o =
    number_of o.check ∷ o.tally.added ∷ o.tally.replaced
    ∷ word_of o.state (Entries 0) 0 ∷ stamp_of o.state 0 0 ∷ writer_of o.state 0 0 ∷ zc_of o.state 0 ∷ zp_of o.state 0
    ∷ word_of o.state (Entries 1) 0 ∷ stamp_of o.state 1 0 ∷ writer_of o.state 1 0 ∷ zc_of o.state 1 ∷ zp_of o.state 1 ∷ []

-- agent 0, holding e, propagates, or confirms, key 0 to agent 1, holding f
abbrev pub propagating : Entry → Entry → List ℕ
propagating e f = shown (step_of example (holding (zp_at 0) e f) scratch 1 0 0)

abbrev pub confirming : Entry → Entry → List ℕ
confirming e f = shown (step_of example (holding (zc_at 0) e f) scratch 2 0 0)

-- the words that each choice of node n leaves, one list after another, each with its length first
unfoldable pub left_by : List Derivation → List ℕ
left_by [] = []
left_by (d ∷ ds) = length (words d.leaving) ∷ (words d.leaving ++ left_by ds)

abbrev pub leaving : ℕ → List ℕ
leaving n = left_by (derivations (process t (Node n)))

-- in the loaded state: whether guard n holds; expression n's value as two words, present and the word
abbrev pub guard_bit : ℕ → ℕ
guard_bit n = bit (holds t (loaded t) 0 0 n)

abbrev pub value_words : Value → List ℕ
value_words None = 0 ∷ 0 ∷ []
value_words (Some v) = 1 ∷ v ∷ []

abbrev pub value : ℕ → List ℕ
value n = value_words (value_of t (loaded t) 0 0 n)

pub record Example : Type 0 where
  pub computed : List ℕ
  pub expected : List ℕ

abbrev pub ◌gives◌ : List ℕ → List ℕ → Example
◌gives◌ c e = record { computed = c; expected = e }

infix 10 ◌gives◌
-- Columns of a step: refusal, added, replaced; value, stamp, writer, Zc, Zp of agent 0; the same of agent 1. The paper's entries have no writers: in (b)
-- what is taken was written by the agent that takes it, in (c) by the sender.
-- Columns of `leaving`: for each choice the number of words that it leaves, and the words. Of `value`: present, word
abbrev pub examples : List Example
examples =
    (number_of (load_of example (replicate state_words 0) scratch).check ∷ [] gives 0 ∷ [])  -- the table is accepted
    ∷ (propagating (entry 9 3 1) (entry 5 3 0) gives 0 ∷ 0 ∷ 0 ∷ 9 ∷ 3 ∷ 1 ∷ 0 ∷ 0 ∷ 5 ∷ 3 ∷ 0 ∷ 0 ∷ 0 ∷ [])  -- (a) stored (5, stamp 3), offered (9, 3): stays
    ∷ (propagating (entry 9 4 1) (entry 5 3 0) gives 0 ∷ 0 ∷ 1 ∷ 9 ∷ 4 ∷ 1 ∷ 0 ∷ 0 ∷ 9 ∷ 4 ∷ 1 ∷ 0 ∷ 1 ∷ [])  -- (b) offered (9, 4): replaced, with its writer
    ∷ (propagating (entry 5 3 0) (entry 0 0 0) gives 0 ∷ 1 ∷ 0 ∷ 5 ∷ 3 ∷ 0 ∷ 0 ∷ 0 ∷ 5 ∷ 3 ∷ 0 ∷ 0 ∷ 1 ∷ [])  -- (c) none stored, offered (5, 3): added
    ∷ (length (derivations (process t (Node 8))) ∷ [] gives 2 ∷ [])  -- (d) tick|tick has 2 choices
    ∷ (leaving 12 gives 3 ∷ par_word ∷ tick_word ∷ 11 ∷ 1 ∷ tick_word ∷ [])  -- (e) action|tick has 2, leaving 3 words and 1 word
    ∷ (leaving 17 gives 3 ∷ par_word ∷ tick_word ∷ 16 ∷ 3 ∷ par_word ∷ 14 ∷ tick_word ∷ [])  -- (f) a|b leaves tick|b, then a|tick
    ∷ (guard_bit 3 ∷ guard_bit 5 ∷ [] gives 0 ∷ 1 ∷ [])  -- (g) not (attribute = 1), attribute absent: doesn't hold; the same or true: holds
    ∷ (value 24 gives 0 ∷ 0 ∷ [])  -- (h) 2,147,483,647 + 1 is absent
    ∷ (value 27 gives 1 ∷ 2 ∷ [])  -- (i) -7 remainder 3 is 2
    ∷ (confirming (entry 5 3 1) (entry 9 4 0) gives 0 ∷ 0 ∷ 0 ∷ 5 ∷ 3 ∷ 1 ∷ 0 ∷ 0 ∷ 9 ∷ 4 ∷ 0 ∷ 0 ∷ 1 ∷ [])  -- (j) asker (5, 3), other (9, 4): nobody's entry changes, the other gains the key in Zp
    ∷ []

-- every example gives what it should
abbrev pub AllGiven : List Example → Type 0
AllGiven [] = Unit {0}
AllGiven (e ∷ es) = (e.computed ≡ e.expected) × AllGiven es
