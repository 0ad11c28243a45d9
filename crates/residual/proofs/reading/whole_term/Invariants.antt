-- `whole_term` meets its contract. Assumes nothing.
use Prim.Native.Nat.{◌+◌, ◌-◌, ◌≤◌}
use mathlib.Core.Path.{◌≡◌}
use lib.ListN.{length, drop}
use Rattle.table.specs.Tables.{Table, first_root}
use Rattle.term.specs.Terms.{are_terms}
use Rattle.residual.proofs.reading.whole_term.Given as goal

-- so many terms are to come in what is left of the words
abbrev pub invariant-loop-word : goal.invariant-loop-word
invariant-loop-word l =
    (l.cursor.at ≤ length l.words) × (l.more ≤ l.cursor.at + 1) ×
    ((t : Table) → first_root t ≡ l.roots → t.kinds ≡ l.kinds → are_terms t 1 l.words ≡ are_terms t l.more (drop l.cursor.at l.words))

abbrev pub decreases-loop-word : goal.decreases-loop-word
decreases-loop-word l = length l.words - l.cursor.at
