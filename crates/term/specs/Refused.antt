-- Tables with two faults of one number, 6 or 7, and one with none: which refusal they have, and where.
use Rattle.std.specs.Prelude.{ℕ, true, ◌≡◌, List, [], ◌∷◌, set}
use Rattle.table.specs.Checks.{Check, passes, refuses, first_of}
use Rattle.term.specs.Acceptance.{table_checks}

-- with buffers that fit, and 100 words of scratch
abbrev pub judge : List ℕ → Check
judge bytes = first_of (table_checks bytes true 100)

-- three definitions: 0 is a tick (node 0), 1 is call 1 (node 2), 2 is call 2 (node 1)
abbrev pub call_themselves : List ℕ
call_themselves =
    7 ∷ 0 ∷ 3 ∷ 0 ∷ 1 ∷ 0 ∷ 0 ∷ 0 ∷ 0 ∷ 0 ∷ 0 ∷ 0
    ∷ 1 ∷ 9 ∷ 9 ∷ 64 ∷ 64 ∷ 64 ∷ 64
    ∷ 0 ∷ 0 ∷ 0 ∷ 0 ∷ 2 ∷ 0 ∷ 0 ∷ 0 ∷ 1 ∷ 0 ∷ 0 ∷ 0 ∷ 0 ∷ 0 ∷ 0 ∷ 0 ∷ 2 ∷ 0 ∷ 0 ∷ 0 ∷ 1 ∷ 0 ∷ 0 ∷ 0 ∷ 0 ∷ 0 ∷ 0 ∷ 0 ∷ []

-- two definitions: 0 is a tick (node 0, its kind at byte 12), 1 is call 0 ; call 1
abbrev pub call_after : List ℕ
call_after =
    7 ∷ 0 ∷ 2 ∷ 0 ∷ 1 ∷ 0 ∷ 0 ∷ 0 ∷ 0 ∷ 0 ∷ 0 ∷ 0
    ∷ 1 ∷ 9 ∷ 9 ∷ 5 ∷ 64 ∷ 64 ∷ 64
    ∷ 0 ∷ 0 ∷ 0 ∷ 0 ∷ 0 ∷ 0 ∷ 0 ∷ 0 ∷ 1 ∷ 0 ∷ 0 ∷ 0 ∷ 1 ∷ 0 ∷ 2 ∷ 0 ∷ 0 ∷ 0 ∷ 0 ∷ 0 ∷ 3 ∷ 0 ∷ 0 ∷ 0 ∷ 3 ∷ 0 ∷ 0 ∷ 0 ∷ []

pub record CallsRefused : Type 0 where
  -- the bodies of 1 and of 2 expose calls of themselves: the place is the lower definition, though its body has the higher number
  pub lowest_definition : judge call_themselves ≡ refuses 6 1
  -- the right of a sequence is exposed if its left can tick, by a call too; with idle for the tick it is not
  pub right_exposed : judge call_after ≡ refuses 6 1
  pub right_hidden : judge (set call_after 12 0) ≡ passes

-- five definitions: 0 is tick + tick (node 3), and k is call (k - 1) ; call (k - 1) (nodes 6, 9, 12 and 15), with 2, 4, 16, 256 and 65,536 derivations;
-- node 1 is call 4
abbrev pub doubled : List ℕ
doubled =
    22 ∷ 0 ∷ 5 ∷ 0 ∷ 1 ∷ 0 ∷ 0 ∷ 0 ∷ 0 ∷ 0 ∷ 0 ∷ 0
    ∷ 1 ∷ 9 ∷ 1 ∷ 6 ∷ 9 ∷ 9 ∷ 5 ∷ 9 ∷ 9 ∷ 5 ∷ 9 ∷ 9 ∷ 5 ∷ 9 ∷ 9 ∷ 5 ∷ 64 ∷ 64 ∷ 64 ∷ 64 ∷ 64 ∷ 64
    ∷ 0 ∷ 0 ∷ 0 ∷ 0 ∷ 4 ∷ 0 ∷ 0 ∷ 0 ∷ 0 ∷ 0 ∷ 0 ∷ 0 ∷ 0 ∷ 0 ∷ 2 ∷ 0
    ∷ 0 ∷ 0 ∷ 0 ∷ 0 ∷ 0 ∷ 0 ∷ 0 ∷ 0 ∷ 4 ∷ 0 ∷ 5 ∷ 0
    ∷ 1 ∷ 0 ∷ 0 ∷ 0 ∷ 1 ∷ 0 ∷ 0 ∷ 0 ∷ 7 ∷ 0 ∷ 8 ∷ 0
    ∷ 2 ∷ 0 ∷ 0 ∷ 0 ∷ 2 ∷ 0 ∷ 0 ∷ 0 ∷ 10 ∷ 0 ∷ 11 ∷ 0
    ∷ 3 ∷ 0 ∷ 0 ∷ 0 ∷ 3 ∷ 0 ∷ 0 ∷ 0 ∷ 13 ∷ 0 ∷ 14 ∷ 0
    ∷ 3 ∷ 0 ∷ 0 ∷ 0 ∷ 6 ∷ 0 ∷ 0 ∷ 0 ∷ 9 ∷ 0 ∷ 0 ∷ 0 ∷ 12 ∷ 0 ∷ 0 ∷ 0 ∷ 15 ∷ 0 ∷ 0 ∷ 0 ∷ 1 ∷ 0 ∷ 0 ∷ 0 ∷ []

pub record CountsRefused : Type 0 where
  -- nodes 1 and 15 are over-full: the place is the lower node, a call, though the body that makes it so has a higher number
  pub lowest_node : judge doubled ≡ refuses 7 1
