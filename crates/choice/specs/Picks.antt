-- Which part of a sequence or a parallel a choice is of.
use Rattle.std.specs.Prelude.{ℕ, ◌+◌, ◌*◌, ◌-◌, ◌/◌, ◌%◌, cond, ltb}
use Rattle.term.specs.declared.Mode.{Mode}
use Rattle.term.specs.declared.Mode.TheVariants.{Any, Actions, Ticks}
use Rattle.accept.specs.declared.Counts.{Counts}
use Rattle.choice.specs.declared.Pick.{Pick}
use Rattle.choice.specs.declared.Pick.TheVariants.{LeftActs, RightActs, LeftTicks, RightTicks}

-- the actions among the derivations of a mode, and all of these
abbrev pub acting_of : Mode → Counts → ℕ
acting_of Any c = c.actions
acting_of Actions c = c.actions
acting_of Ticks c = 0

abbrev pub total_of : Mode → Counts → ℕ
total_of Any c = c.actions + c.ticks
total_of Actions c = c.actions
total_of Ticks c = c.ticks

-- The left part's actions come first; then so many actions of the right part; then for each tick of the left part each derivation of the
-- right; then for each tick of the right part each derivation of the left.
unfoldable pub pick_of : Mode → ℕ → ℕ → Counts → Counts → Pick
pick_of m c beside P Q =
    let second = c - acting_of m P in
    let third = second - beside in
    let joined = P.ticks * total_of m Q in
    let fourth = third - joined in
    cond (ltb c (acting_of m P)) (LeftActs c)
    (cond (ltb second beside) (RightActs second)
    (cond (ltb third joined) (LeftTicks (third / total_of m Q) (third % total_of m Q))
    (RightTicks (fourth / total_of m P) (fourth % total_of m P))))
