-- How many bytes suffice for what is printed.
use Rattle.std.specs.Prelude.{ℕ, ◌+◌, ◌*◌}
use Rattle.state.specs.Layout.{agent_limit, key_limit}

-- a space and the digits of a word, or of the sum of two; of a value, which may have a sign
abbrev pub word_bytes : ℕ
word_bytes = 1 + 10

abbrev pub value_bytes : ℕ
value_bytes = 1 + 11

-- lines: their names, numbers and newline
abbrev pub totals_bytes : ℕ
totals_bytes = 4 + word_bytes + 8 + word_bytes + 6 + word_bytes + 6 + word_bytes + 9 + word_bytes + 1

abbrev pub clock_bytes : ℕ
clock_bytes = 5 + word_bytes + 1

abbrev pub environment_bytes : ℕ
environment_bytes = 1 + word_bytes + value_bytes + 1

abbrev pub attribute_bytes : ℕ
attribute_bytes = 1 + 2 * word_bytes + value_bytes + 1

abbrev pub entry_bytes : ℕ
entry_bytes = 1 + 2 * word_bytes + value_bytes + 2 * word_bytes + 1

abbrev pub pending_bytes : ℕ
pending_bytes = 1 + 2 * word_bytes + 1

-- all of an agent, and all that is printed
abbrev pub agent_bytes : ℕ
agent_bytes = key_limit * attribute_bytes + key_limit * entry_bytes + key_limit * pending_bytes + key_limit * pending_bytes

abbrev pub shown_bytes : ℕ
shown_bytes = totals_bytes + (clock_bytes + key_limit * environment_bytes + agent_limit * agent_bytes)
