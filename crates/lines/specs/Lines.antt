-- What labs_show prints: the paper's lines, in its order.
use Rattle.std.specs.Prelude.{ℕ, cond, List, [], ◌∷◌, ◌++◌, get_or}
use Rattle.basis.specs.KeySets.{has}
use Rattle.std.specs.Prelude.{None, Some}
use Rattle.value.specs.Values.{signed_of}
use Rattle.table.specs.Checks.{passes, refuses}
use Rattle.state.specs.declared.Store.{Store}
use Rattle.state.specs.declared.Store.TheVariants.{Environment, Attributes, Entries}
use Rattle.state.specs.declared.Entry.{Entry}
use Rattle.state.specs.Layout.{key_limit, agents_at, value_in, zc_of, zp_of}
use Rattle.state.specs.Entries.{entry_of, clock_of}
use Rattle.steps.specs.declared.Tally.{Tally}
use Rattle.steps.specs.Tallies.{taken}
use Rattle.steps.specs.Runs.{Rehearsal}
use Rattle.machine.specs.declared.Totals.{Totals}
use Rattle.machine.specs.Answers.{totals_of}
use Rattle.lines.specs.Text.{ascii, decimal, signed_decimal, line, each_below}

-- the number that a word holds in two's complement
abbrev pub value : ℕ → List ℕ
value word = signed_decimal (signed_of word)

-- `taken T added M replaced R`, at the end of the first line
abbrev pub tally_parts : Tally → List (List ℕ)
tally_parts c = ascii "taken" ∷ decimal (taken c) ∷ ascii "added" ∷ decimal c.added ∷ ascii "replaced" ∷ decimal c.replaced ∷ []

-- `done D refused R`, and then what the steps count
unfoldable pub totals_line : Totals → List ℕ
totals_line t = line (ascii "done") (decimal t.done ∷ ascii "refused" ∷ decimal t.refused ∷ tally_parts t.tally)

-- `refused number place`
unfoldable pub refused_line : ℕ → ℕ → List ℕ
refused_line number place = line (ascii "refused") (decimal number ∷ decimal place ∷ [])

-- `clock C`
unfoldable pub clock_line : ℕ → List ℕ
clock_line clock = line (ascii "clock") (decimal clock ∷ [])

-- `e key value`
unfoldable pub environment_line : ℕ → ℕ → List ℕ
environment_line key word = line (ascii "e") (decimal key ∷ value word ∷ [])

-- `a agent key value`
unfoldable pub attribute_line : ℕ → ℕ → ℕ → List ℕ
attribute_line agent key word = line (ascii "a") (decimal agent ∷ decimal key ∷ value word ∷ [])

-- `s agent key value stamp writer`
unfoldable pub entry_line : ℕ → ℕ → Entry → List ℕ
entry_line agent key e = line (ascii "s") (decimal agent ∷ decimal key ∷ value e.value ∷ decimal e.stamp ∷ decimal e.writer ∷ [])

-- `c agent key`, and `p agent key`
unfoldable pub pending_line : List ℕ → ℕ → ℕ → List ℕ
pending_line name agent key = line name (decimal agent ∷ decimal key ∷ [])

-- a store's values that are present; an entry's value is that word, and its line has its stamp and its writer too
unfoldable pub value_line : List ℕ → Store → ℕ → ℕ → List ℕ
value_line s Environment key word = environment_line key word
value_line s (Attributes a) key word = attribute_line a key word
value_line s (Entries a) key word = entry_line a key (entry_of s a key)

unfoldable pub key_line : List ℕ → Store → ℕ → List ℕ
key_line s store key = elim (value_in s store key) [ None ↦ [] | Some word ↦ value_line s store key word ]

abbrev pub store_lines : List ℕ → Store → List ℕ
store_lines s store = each_below (key_line s store) key_limit

-- an agent's pending keys
unfoldable pub member_line : List ℕ → ℕ → ℕ → ℕ → List ℕ
member_line name agent keys key = cond (has keys key) (pending_line name agent key) []

abbrev pub pending_lines : List ℕ → ℕ → ℕ → List ℕ
pending_lines name agent keys = each_below (member_line name agent keys) key_limit

-- an agent: attributes, entries, keys to confirm, keys to propagate
unfoldable pub agent_lines : List ℕ → ℕ → List ℕ
agent_lines s a =
    store_lines s (Attributes a)
    ++ store_lines s (Entries a)
    ++ pending_lines (ascii "c") a (zc_of s a)
    ++ pending_lines (ascii "p") a (zp_of s a)

-- the agents below A
abbrev pub fleet_lines : List ℕ → List ℕ
fleet_lines s = each_below (agent_lines s) (get_or s agents_at 0)

-- a state: the clock, the environment, and its agents
unfoldable pub state_lines : List ℕ → List ℕ
state_lines s = clock_line (clock_of s) ++ store_lines s Environment ++ fleet_lines s

-- a rehearsal: the run's totals and the state after it; of a refused load or run the refusal, and nothing else
unfoldable pub shown : Rehearsal → List ℕ
shown o =
    elim o.check [
      | passes ↦ totals_line (totals_of o.progress) ++ state_lines o.progress.state
      | refuses number place ↦ refused_line number place
    ]
