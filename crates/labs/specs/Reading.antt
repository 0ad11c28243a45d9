-- The system that a state's words stand for, and the one that a table starts with.
use Rattle.std.specs.Prelude.{ℕ, false, cond, List, ltb, eqb}
use Rattle.std.proofs.Math.Option.{Option, none, some}
use Rattle.basis.specs.KeySets.{has}
use Rattle.std.specs.Prelude.{None}
use Rattle.table.specs.Tables.{Table}
use Rattle.term.specs.Terms.{Node}
use Rattle.state.specs.declared.Store.TheVariants.{Environment, Attributes, Entries}
use Rattle.state.specs.Layout.{key_limit, word_of, stamp_of, writer_of, zc_of, zp_of, term_in, value_in}
use Rattle.state.specs.Entries.{clock_of}
use Rattle.labs.specs.Agents.{⟨◌⸴◌⸴◌⸴◌⸴◌⟩, Agent, Entry, System}
use Rattle.labs.specs.Roots.{start_of}

-- a stamp of 0 is no entry
abbrev pub entry_of : List ℕ → ℕ → ℕ → Option Entry
entry_of s a x =
    cond (ltb x key_limit)
    (cond (eqb (stamp_of s a x) 0) none (some (record { value = word_of s (Entries a) x; time = stamp_of s a x; writer = writer_of s a x })))
    none

abbrev pub agent_of : List ℕ → ℕ → Agent
agent_of s a = ⟨ (λ x. value_in s (Attributes a) x) ⸴ (λ x. entry_of s a x) ⸴ term_in s a ⸴ (λ x. has (zc_of s a) x) ⸴ (λ x. has (zp_of s a) x) ⟩

abbrev pub system_of : List ℕ → System
system_of s = record { E = λ x. value_in s Environment x; clock = clock_of s; agent = λ a. agent_of s a }

-- at the start: clock 0, no value, no entry, no pending key, and each agent's process the node that its root names
abbrev pub initial : Table → System
initial t = record {
  E = λ x. None;
  clock = 0;
  agent = λ a. ⟨ (λ x. None) ⸴ (λ x. none) ⸴ Node (start_of t a) ⸴ (λ x. false) ⸴ (λ x. false) ⟩;
}
