-- `mark_tick_at` meets its contract. Assumes nothing.
use Prim.Native.Nat.{ℕ, ◌<◌, ◌-◌}
use native.Mathlib.Omega.{arith}
use lib.ListN.{length}
use Rattle.accept.specs.Accepted.{accepted_table}
use Rattle.term.specs.Terms.{Term}
use Rattle.choice.specs.declared.Goal.{Goal}
use Rattle.residual.specs.declared.Cursor.{Cursor}
use Rattle.residual.specs.Steps.{Part, Stands}
use Rattle.choice.proofs.Collecting.{marked_none, marked_join, marked_same}
use Rattle.residual.proofs.Standing.{stands_here, part_stands}
use Rattle.residual.proofs.marking.+mark_tick_at.Goals as goal
use Rattle.residual.proofs.marking.+mark_tick_at.Goals.{After-step_at}

-- a part of the term that stands there
module _ (t : ℕ) (c : After-step_at t) {T X : Term} {h : Goal Cursor} (st : Stands (accepted_table c.args.accepted.now) T c.args.target c.args.words.now)
    (p : Part (accepted_table c.args.accepted.now) T c.args.target X h) where
  stands : Stands (accepted_table c.args.accepted.now) X h c.args.words.now
  stands = part_stands (accepted_table c.args.accepted.now) T c.args.target c.args.words.now st p

  nearer : length c.args.words.now - h.from.at < t
  nearer = omega (arith, c.decreases, stands_here (accepted_table c.args.accepted.now) T c.args.target c.args.words.now st, p.place, p.some)

pub mark_tick_at-requires : goal.mark_tick_at-requires
mark_tick_at-requires t c =
    let a = (goal.at.mark_tick_at-requires t c).After-step_at in
    let (T, st) = c.requires.stands in
    let e = c.in-Acts.ensures T st in
    (nearer t a st e.part, ((e.term, stands t a st e.part), c.requires.walk_marks))

pub mark_tick_at-requires-in-Joins : goal.mark_tick_at-requires-in-Joins
mark_tick_at-requires-in-Joins t c =
    let a = (goal.at.mark_tick_at-requires-in-Joins t c).After-step_at in
    let (T, st) = c.requires.stands in
    let e = c.in-Joins.ensures T st in
    (nearer t a st e.tick, ((e.ticking, stands t a st e.tick), c.requires.walk_marks))

pub mark_tick_at-requires-in-Joins-2 : goal.mark_tick_at-requires-in-Joins-2
mark_tick_at-requires-in-Joins-2 t c =
    let a = (goal.at.mark_tick_at-requires-in-Joins-2 t c).After-step_at in
    let (T, st) = c.requires.stands in
    let e = c.in-Joins.ensures T st in
    (nearer t a st e.part, ((e.term, stands t a st e.part), (c.mark_tick_at-in-Joins.ensures e.ticking (stands t a st e.tick)).marks))

pub returns-in-Ticked : goal.returns-in-Ticked
returns-in-Ticked t c T st = marked_same (c.in-Ticked.ensures T st).1.guards (marked_none _ _ c.requires.walk_marks)

pub returns-in-Acts : goal.returns-in-Acts
returns-in-Acts t c T st =
    let e = c.in-Acts.ensures T st in
    marked_same e.around.guards (c.mark_tick_at.ensures e.term (stands t (goal.at.returns-in-Acts t c).After-step_at st e.part))

pub returns-in-Joins : goal.returns-in-Joins
returns-in-Joins t c T st =
    let a = (goal.at.returns-in-Joins t c).After-step_at in
    let e = c.in-Joins.ensures T st in
    marked_same e.around.guards
    (marked_join _ _ c.requires.walk_marks _ _ _ _ (c.mark_tick_at-in-Joins.ensures e.ticking (stands t a st e.tick)) (c.mark_tick_at-in-Joins-2.ensures e.term (stands t a st e.part)))
