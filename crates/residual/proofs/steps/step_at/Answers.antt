-- `step_at` meets its contract. Assumes nothing.
use Prim.Native.Nat.{ℕ}
use mathlib.Core.Path.{refl, sym, ap, subst, ◌∙◌}
use Rattle.accept.specs.Accepted.{accepted_table}
use Rattle.choice.specs.Picks.{pick_of}
use Rattle.residual.specs.Measures.{Pairs}
use Rattle.residual.specs.Steps.{Stepped}
use Rattle.residual.proofs.Measures.{found_past, found_left, found_right}
use Rattle.residual.proofs.Standing.{pairs_ready}
use Rattle.residual.proofs.Stepping.{none_stands, on_operator, on_tick, on_leaf}
use Rattle.residual.proofs.steps.step_at.Goals as goal
use Rattle.residual.proofs.steps.step_at.Goals.{After-first_root-roots}

pairs : (c : After-first_root-roots) → Pairs c.first_root-roots.result c.args.accepted.now.counts.now
pairs c = let a = c.args.accepted.now in pairs_ready (accepted_table a) a.counts.now a.prepared _ c.first_root-roots.ensures

pub returns-in_default : goal.returns-in_default
returns-in_default c T st =
    let a = c.args.accepted.now in
    absurd (none_stands (accepted_table a) refl a.prepared.counted (found_past _ _ _ _ (sym c.in_default.ensures)) T st)

pub returns-in_default-measure : goal.returns-in_default-measure
returns-in_default-measure c T st =
    let a = c.args.accepted.now in
    absurd (none_stands (accepted_table a) (sym c.first_root-roots.ensures) a.prepared.counted
    (found_left _ _ _ _ (pairs (goal.at.returns-in_default-measure c).After-first_root-roots) _ _ (sym c.in-Some.ensures) (sym c.is_operator.ensures ∙ c.if-is_operator.true) c.in_default-measure.ensures) T st)

pub returns-in_default-measure-2 : goal.returns-in_default-measure-2
returns-in_default-measure-2 c T st =
    let a = c.args.accepted.now in
    absurd (none_stands (accepted_table a) (sym c.first_root-roots.ensures) a.prepared.counted
    (found_right _ _ _ _ (pairs (goal.at.returns-in_default-measure-2 c).After-first_root-roots) _ _ (sym c.in-Some.ensures) (sym c.is_operator.ensures ∙ c.if-is_operator.true) _ c.in-Some-measure.ensures c.in_default-measure-2.ensures) T st)

pub returns-then-is_operator : goal.returns-then-is_operator
returns-then-is_operator c T st =
    let a = c.args.accepted.now in
    let g = c.args.target in
    let l = c.in-Some-measure.left in
    let r = c.in-Some-measure-2.right in
    subst (Stepped (accepted_table a) T g) (sym c.toward.ensures)
    (on_operator (accepted_table a) _ (pairs (goal.at.returns-then-is_operator c).After-first_root-roots).nodes a.counts.now c.args.words.now g (sym c.first_root-roots.ensures) a.prepared.counted _ _ (sym c.in-Some.ensures) T st
    (sym c.is_operator.ensures ∙ c.if-is_operator.true) l r c.in-Some-measure.ensures c.in-Some-measure-2.ensures c.pick-which.result
    (c.pick-which.ensures ∙ ap (λ (x : ℕ). pick_of g.mode g.choice x l.counts r.counts) c.beside-more.ensures))

pub returns-then-word-eq-TICK_WORD : goal.returns-then-word-eq-TICK_WORD
returns-then-word-eq-TICK_WORD c T st =
    let a = c.args.accepted.now in
    on_tick (accepted_table a) _ (pairs_ready _ _ a.prepared _ refl).nodes a.counts.now c.args.words.now c.args.target refl a.prepared.counted _ _ (sym c.in-Some.ensures) T st c.if-word-eq-TICK_WORD.true

pub returns : goal.returns
returns c T st =
    let a = c.args.accepted.now in
    rw c.new-goal.ensures (on_leaf (accepted_table a) _ (pairs_ready _ _ a.prepared _ refl).nodes a.counts.now c.args.words.now c.args.target refl a.prepared.counted _ _ (sym c.in-Some.ensures) T st
    (sym c.is_operator.ensures ∙ c.if-is_operator.false) c.if-word-eq-TICK_WORD.false)
