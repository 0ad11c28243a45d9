-- `judging::guards::ask_guards` meets its contract.
-- Assumes nothing.
use Rattle.std.proofs.Common.{ℕ, ◌<◌, Bool, not, refl, sym, ap, ◌∙◌, arith}
use borrow.Author.Tests.{not-true, not-false}
use Rattle.basis.specs.Numbers.{some_below}
use Rattle.basis.proofs.Numbers.{some_at}
use Rattle.basis.proofs.Tests.{and_both}
use Rattle.table.specs.Fleets.{table_in}
use Rattle.state.specs.Evaluation.{holds}
use Rattle.choice.specs.Marking.{marked_guard}
use Rattle.choice.proofs.Searching.{Passed, some_skip, some_next}
use Rattle.evaluation.proofs.Adding.{adds_none}
use Rattle.judging.proofs.Asking.{passed, all_held, reads_more, reads_all, asked_hold, asked_fails}
use Rattle.judging.proofs.guards.ask_guards.Goals as goal
use Rattle.judging.proofs.guards.ask_guards.Goals.{Start}

-- a guard does not hold
abbrev fails : Start → ℕ → Bool
fails a b = not (holds (table_in a.args.fleet.now) a.args.state.now a.args.agent a.args.agent b)

pub loop-n-init : goal.loop-n-init
unfolding some_below
loop-n-init c = record { within = omega arith; held = refl; read = adds_none (λ k l. refl) }

pub returns-then-not-holds : goal.returns-then-not-holds
returns-then-not-holds c gs m =
    let low = c.in-Some.ensures in
    let l : c.in-Some.n < c.args.fleet.now.sizes.nodes = omega (arith, c.args.fleet.now.shaped.kinds, low.below) in
    asked_fails (table_in c.args.fleet.now) c.args.state.now c.args.agent gs
    (not-true _ (sym (all_held (table_in c.args.fleet.now) c.args.state.now c.args.agent m c.args.fleet.now.sizes.nodes (omega arith))
    ∙ some_at _ _ c.in-Some.n l (and_both _ _ low.is (rw (← c.holds.ensures) (ap not c.if-not-holds.true)))))

pub loop-n-preserved : goal.loop-n-preserved
loop-n-preserved c =
    let low = c.in-Some.ensures in
    let so = c.loop-n.invariant in
    record {
      within = omega (arith, c.args.fleet.now.shaped.kinds, low.below);
      held = some_next (passed low) (fails (goal.at.loop-n-preserved c).Start) low.is ∙ rw (so.held, ← c.holds.ensures) (ap not c.if-not-holds.false);
      read = reads_more (table_in c.args.fleet.now) c.args.marks.now so.read low c.keys_read-keys.ensures;
    }

pub returns : goal.returns
returns c gs m =
    let so = c.loop-n.invariant in
    let last : Passed (marked_guard c.args.fleet.now.kinds.now c.args.marks.now) c.loop-n.from c.args.fleet.now.sizes.nodes = record {
      ahead = so.within;
      none = λ k h l. c.in_default.ensures k h (omega (arith, c.args.fleet.now.shaped.kinds));
    } in
    asked_hold (table_in c.args.fleet.now) c.args.state.now c.args.agent gs
    (not-false _ (sym (all_held (table_in c.args.fleet.now) c.args.state.now c.args.agent m c.args.fleet.now.sizes.nodes (omega arith))
    ∙ some_skip last (fails (goal.at.returns c).Start) ∙ so.held)) (reads_all (table_in c.args.fleet.now) c.args.marks.now so.read last m)
