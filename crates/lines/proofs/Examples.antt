-- Numbers and lines, computed from the definitions.
-- Assumes nothing.
use Prim.Native.Nat.{ℕ, ◌-◌, ◌^◌}
use mathlib.Core.Path.{◌≡◌, refl}
use mathlib.Core.List.{List, [], ◌∷◌}
use lib.ListN.{set, replicate}
use Rattle.basis.specs.KeySets.{has, plus}
use Rattle.table.specs.Checks.{passes, refuses}
use Rattle.state.specs.declared.Store.TheVariants.{Environment, Attributes}
use Rattle.state.specs.Layout.{state_words, agents_at, zc_at, zp_at, value_in, put, add_key}
use Rattle.state.specs.Entries.{entry, put_entry, set_clock}
use Rattle.steps.specs.Tallies.{tally}
use Rattle.steps.specs.Runs.{begun}
use Rattle.lines.specs.Text.{ascii, digits_of, decimal, signed_decimal, spaced, line, each_below}
use Rattle.lines.specs.Lines.{value, totals_line, refused_line, clock_line, environment_line, attribute_line, entry_line, pending_line, value_line, key_line, member_line, agent_lines, state_lines, shown}

-- what the examples compute with
unfoldable computing : Unit {0}
unfolding has plus value_in put add_key digits_of decimal signed_decimal spaced line each_below
    totals_line refused_line clock_line environment_line attribute_line entry_line pending_line value_line key_line member_line agent_lines state_lines shown
computing = tt

-- NUMBERS, as bytes
pub numbers : (decimal 0 ≡ 48 ∷ []) × (decimal 7 ≡ 55 ∷ []) × (decimal 10 ≡ 49 ∷ 48 ∷ []) × (decimal 65535 ≡ 54 ∷ 53 ∷ 53 ∷ 51 ∷ 53 ∷ [])
unfolding computing
numbers = (refl, refl, refl, refl)

-- -1, the least number and the greatest
pub values : (value (2 ^ 32 - 1) ≡ ascii "-1") × (value (2 ^ 31) ≡ ascii "-2147483648") × (value (2 ^ 31 - 1) ≡ ascii "2147483647")
unfolding computing
values = (refl, refl, refl)

-- TEXT, as bytes
pub bytes : line (ascii "c") (decimal 31 ∷ decimal 15 ∷ []) ≡ 99 ∷ 32 ∷ 51 ∷ 49 ∷ 32 ∷ 49 ∷ 53 ∷ 10 ∷ []
unfolding computing
bytes = refl

-- A REFUSAL
pub refusal : (state answers : List ℕ) → shown (record { check = refuses 19 0; progress = begun state answers }) ≡ ascii "refused 19 0\n"
unfolding computing
refusal state answers = refl

-- A STATE of two agents: the paper's, and one with a line of each kind
abbrev fleet : ℕ → List ℕ
fleet clock = set_clock clock (set (replicate state_words 0) agents_at 2)

abbrev paper : List ℕ
paper = put_entry 0 0 (entry 7 1 0) (put (Attributes 1) 0 7 1 (put_entry 1 0 (entry 7 1 0) (fleet 1)))

pub papers : shown (record { check = passes; progress = record { state = paper; answers = []; done = 5; refused = 2; tally = tally 1 0 } })
    ≡ ascii "done 5 refused 2 taken 1 added 1 replaced 0\nclock 1\ns 0 0 7 1 0\na 1 0 7\ns 1 0 7 1 0\n"
unfolding computing
papers = refl

abbrev full : List ℕ
full =
    put Environment 3 (2 ^ 32 - 2) 1
    (put (Attributes 0) 9 40 1
    (put_entry 0 2 (entry (2 ^ 31) 6 1)
    (add_key (zc_at 0) 2
    (add_key (zc_at 0) 11
    (add_key (zp_at 0) 2
    (put (Attributes 1) 15 0 1 (fleet 65535)))))))

pub each_kind : state_lines full ≡ ascii "clock 65535\ne 3 -2\na 0 9 40\ns 0 2 -2147483648 6 1\nc 0 2\nc 0 11\np 0 2\na 1 15 0\n"
unfolding computing
each_kind = refl
