-- `mark_side` and `mark_tick` meet their contracts. Assumes nothing.
use Prim.Native.Nat.{ℕ}
use mathlib.Core.Bool.{true}
use mathlib.Core.Path.{◌≡◌, sym, ap, subst, ◌∙◌}
use mathlib.Core.List.{List}
use native.Mathlib.Omega.{arith}
use Rattle.table.specs.Tables.{Table}
use Rattle.accept.specs.Accepted.{accepted_table}
use Rattle.term.specs.declared.Mode.TheVariants.{Ticks}
use Rattle.term.specs.Processes.{Derivation, node_process}
use Rattle.choice.specs.Chosen.{chosen_in}
use Rattle.choice.specs.Turns.{chosen_at, Sided}
use Rattle.choice.specs.Marking.{WithMark, Marked}
use Rattle.choice.proofs.Collecting.{reached_process, only_first, marked_none, marked_guard_lem, marked_join, marked_before, marked_after, marked_same}
use Rattle.choice.proofs.marking.+mark.Goals as goal
use Rattle.choice.proofs.marking.+mark.Goals.{mark_tick-After-only_tick-once, mark_tick-Joined-turn_at, mark_tick-in-On, mark_tick-in_default}

pub mark_side-returns-in-Alone : goal.mark_side-returns-in-Alone
mark_side-returns-in-Alone t c = rw c.in-Alone.is (marked_none _ _ c.requires.walk_marks)

pub mark_side-returns-in-Under : goal.mark_side-returns-in-Under
mark_side-returns-in-Under t c =
    rw c.in-Under.is (marked_guard_lem _ _ c.requires.walk_marks _ (subst (Sided (accepted_table c.args.accepted.now)) c.in-Under.is c.requires.sided) c.mark.ensures)

abbrev tb : (t : ℕ) → mark_tick-After-only_tick-once t → Table
tb t c = accepted_table c.args.accepted.now

-- the guards of the goal, and of the only tick
abbrev guards : (t : ℕ) → mark_tick-After-only_tick-once t → List ℕ
guards t c = (chosen_at (tb t c) c.args.goal).guards

only : (t : ℕ) → (c : mark_tick-After-only_tick-once t) → c.only_tick-once.result ≡ true → guards t c ≡ (chosen_in Ticks (node_process (tb t c) c.args.goal.from) 0).guards
only t c e =
    let a = c.args in
    let r = c.requires.reached in
    ap (λ (d : Derivation). d.guards)
    (only_first a.goal.mode c.counts_at.result (node_process (tb t c) a.goal.from) a.goal.choice (sym c.only_tick-once.ensures ∙ e)
    (c.counts_at.ensures ∙ a.accepted.now.prepared.counted.nodes a.goal.from r.low) r.choice)

noted : (t : ℕ) → (c : mark_tick-After-only_tick-once t) → c.only_tick-once.result ≡ true → {mid vs : List ℕ} → Marked (tb t c) (guards t c) c.args.marks.now mid
    → WithMark mid c.args.goal.from vs → Marked (tb t c) (guards t c) c.args.marks.now vs
noted t c e m f =
    let r = c.requires.reached in
    marked_same (only t c e) (marked_after (tb t c) c.args.marks.now c.requires.walk_marks c.args.goal.from (reached_process (tb t c) c.args.goal r) (omega (arith, r.low)) (marked_same (sym (only t c e)) m) f)

-- the walk is done
walked : (t : ℕ) → (c : mark_tick-Joined-turn_at t)
    → Marked (accepted_table c.args.accepted.now) (chosen_at (accepted_table c.args.accepted.now) c.args.goal).guards c.args.marks.now c.match-turn_at.marks
walked t c =
    elim c.match-turn_at.branch [
      | mark_tick-in-On w ↦ rw w.marks-is (marked_same w.in-On.ensures.around.guards (marked_join _ _ c.requires.walk_marks _ _ _ _ w.mark_side.ensures w.mark_tick.ensures))
      | mark_tick-in_default w ↦ rw w.marks-is (marked_same w.in_default.ensures.guards (marked_none _ _ c.requires.walk_marks))
    ]

pub mark_tick-returns-then-has_mark : goal.mark_tick-returns-then-has_mark
mark_tick-returns-then-has_mark t c =
    let a = (goal.at.mark_tick-returns-then-has_mark t c).After-only_tick-once in
    let r = c.requires.reached in
    marked_same (only t a c.if-once.true)
    (marked_before (tb t a) c.args.marks.now c.requires.walk_marks c.args.goal.from (reached_process (tb t a) c.args.goal r) (sym c.has_mark.ensures ∙ c.if-has_mark.true))

pub mark_tick-returns-then-once-2 : goal.mark_tick-returns-then-once-2
mark_tick-returns-then-once-2 t c =
    let i = goal.at.mark_tick-returns-then-once-2 t c in
    noted t i.After-only_tick-once c.if-once-2.true (walked t i.Joined-turn_at) c.mark.ensures

pub mark_tick-returns-else-once-2 : goal.mark_tick-returns-else-once-2
mark_tick-returns-else-once-2 t c = walked t (goal.at.mark_tick-returns-else-once-2 t c).Joined-turn_at
