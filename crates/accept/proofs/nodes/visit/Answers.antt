-- `accept::nodes::visit` meets its contract.
-- Assumes nothing.
use Prim.Native.Nat.{ℕ, ◌≤◌, ◌<◌}
use mathlib.Core.Path.{◌≡◌, refl, sym, ap, ◌∙◌}
use native.Mathlib.Omega.{arith}
use Rattle.std.proofs.Common.{rules}
use Rattle.basis.specs.NodeKinds.{number_of}
use Rattle.basis.specs.declared.node_kinds.NodeKind.{NodeKind}
use Rattle.basis.specs.declared.node_kinds.NodeKind.TheVariants.{Tick, SetAttribute, SetStigmergy, SetEnvironment, Sequence, Choice, Guarded, Parallel, Call}
use Rattle.table.specs.Tables.{kind_at, first_root}
use Rattle.table.specs.Fleets.{table_in}
use Rattle.table.proofs.Promises.{call_operands, body_process}
use Rattle.accept.specs.Scratch.{is_counted}
use Rattle.accept.proofs.Cells.{found_there, not_found, node_room, held_small}
use Rattle.accept.proofs.Visiting.{lower_nodes, tick_found, act_found, none_found, joined_found, guarded_found, guarded_part, call_found, high_found}
use Rattle.accept.proofs.nodes.visit.Goals as goal
use Rattle.accept.proofs.nodes.visit.Goals.{After-node_kind}

-- no number from 1 to 9 is left
below_10 : (k : ℕ) → 1 ≤ k → k ≤ 9 → (k ≡ 1 → ⊥) → (k ≡ 2 → ⊥) → (k ≡ 3 → ⊥) → (k ≡ 4 → ⊥) → (k ≡ 5 → ⊥) → (k ≡ 6 → ⊥) → (k ≡ 7 → ⊥) → (k ≡ 8 → ⊥) → (k ≡ 9 → ⊥) → ⊥
below_10 k a b n1 n2 n3 n4 n5 n6 n7 n8 n9 = omega arith

abbrev K : After-node_kind → ℕ
K c = kind_at (table_in c.args.fleet.now) c.args.n

-- the operands of a sequence, choice, guarded or parallel node are nodes
lower : (c : After-node_kind) → 5 ≤ K c → K c ≤ 8
    → let t = table_in c.args.fleet.now in (c.p_at-p.result < first_root t) × (c.q_at-q.result < first_root t)
lower c a b =
    let f = c.p_at-p.ensures.is in
    let g = c.q_at-q.ensures.is in
    let l = c.requires.n_bound in
    let w = lower_nodes c.requires.held l _ refl a b in
    (omega arith, omega arith)

pub counted-requires : goal.counted-requires
counted-requires c =
    let e = rw c.in-Ok-Guarded.field-0-is at c.in-Ok-Guarded.ensures in
    node_room c.requires.held _ (lower (goal.at.counted-requires c).After-node_kind (omega arith) (omega arith)).1

pub pair-requires : goal.pair-requires
pair-requires c =
    let t = table_in c.args.fleet.now in
    let h = c.requires.held in
    let e = c.body_at.ensures in
    let f = c.p_at-p.ensures.is in
    let k = rw c.in-Ok-Call.field-0-is at c.in-Ok-Call.ensures in
    let b = (body_process t h.sound c.p_at-p.result (rw f (call_operands t h.sound c.args.n (sym k)).0)).0 in
    node_room h _ (omega arith)

pub visit_pair-requires-clause-p_in_bounds : goal.visit_pair-requires-clause-p_in_bounds
visit_pair-requires-clause-p_in_bounds c =
    let w = lower (goal.at.visit_pair-requires-clause-p_in_bounds c).After-node_kind (search rules) (search rules) in
    (node_room c.requires.held _ w.0, node_room c.requires.held _ w.1)

pub visit_pair-requires-clause-capped : goal.visit_pair-requires-clause-capped
visit_pair-requires-clause-capped c =
    held_small c.requires.held _ (lower (goal.at.visit_pair-requires-clause-capped c).After-node_kind (search rules) (search rules)).0

pub visit_pair-requires-clause-capped_2 : goal.visit_pair-requires-clause-capped_2
visit_pair-requires-clause-capped_2 c =
    held_small c.requires.held _ (lower (goal.at.visit_pair-requires-clause-capped_2 c).After-node_kind (search rules) (search rules)).1

pub returns-in-Ok-Tick : goal.returns-in-Ok-Tick
returns-in-Ok-Tick c = tick_found c.requires.held c.requires.n_bound (sym (rw c.in-Ok-Tick.field-0-is at c.in-Ok-Tick.ensures))

pub returns-in-Ok-SetAttribute : goal.returns-in-Ok-SetAttribute
returns-in-Ok-SetAttribute c =
    let k = K (goal.at.returns-in-Ok-SetAttribute c).After-node_kind in
    let a : 2 ≤ k = search rules in
    let b : k ≤ 4 = search rules in
    act_found c.requires.held c.requires.n_bound a b

pub returns-in-Some : goal.returns-in-Some
returns-in-Some c =
    let e = c.q_at-q.ensures.is in
    let w = found_there (is_counted c.args.scratch.now c.q_at-q.result) c.in-Some.ensures in
    rw (w.1, e) (guarded_found c.requires.held c.requires.n_bound (sym (rw c.in-Ok-Guarded.field-0-is at c.in-Ok-Guarded.ensures))
    (ap (is_counted c.args.scratch.now) (sym e) ∙ w.0))

pub returns-in-None : goal.returns-in-None
returns-in-None c =
    let e = c.q_at-q.ensures.is in
    rw e (guarded_part c.requires.held c.requires.n_bound (sym (rw c.in-Ok-Guarded.field-0-is at c.in-Ok-Guarded.ensures))
    (ap (is_counted c.args.scratch.now) (sym e) ∙ not_found (is_counted c.args.scratch.now c.q_at-q.result) _ c.in-None.ensures))

pub returns-in-Ok-Call : goal.returns-in-Ok-Call
returns-in-Ok-Call c =
    let f = c.p_at-p.ensures.is in
    rw (c.pair.ensures, c.body_at.ensures, f) (call_found c.requires.held c.requires.n_bound (sym (rw c.in-Ok-Call.field-0-is at c.in-Ok-Call.ensures)) (omega arith))

pub returns-in-Ok-Call-2 : goal.returns-in-Ok-Call-2
returns-in-Ok-Call-2 c =
    let f = c.p_at-p.ensures.is in
    high_found c.requires.held c.requires.n_bound (sym (rw c.in-Ok-Call.field-0-is at c.in-Ok-Call.ensures)) (omega arith)

pub returns-in_default : goal.returns-in_default
returns-in_default c =
    let k = K (goal.at.returns-in_default c).After-node_kind in
    let h : 1 ≤ k → k ≤ 9 → ⊥ = search rules in
    none_found c.requires.held c.requires.n_bound h

pub returns-in_default-2 : goal.returns-in_default-2
returns-in_default-2 c =
    let k = K (goal.at.returns-in_default-2 c).After-node_kind in
    let none : (j : NodeKind) → number_of j ≡ k → ⊥ = rw c.in_default.is at c.node_kind.ensures in
    none_found c.requires.held c.requires.n_bound
    (λ a b. below_10 k a b (λ e. none Tick (sym e)) (λ e. none SetAttribute (sym e)) (λ e. none SetStigmergy (sym e)) (λ e. none SetEnvironment (sym e))
    (λ e. none Sequence (sym e)) (λ e. none Choice (sym e)) (λ e. none Guarded (sym e)) (λ e. none Parallel (sym e)) (λ e. none Call (sym e)))

pub returns-in-Ok-Sequence : goal.returns-in-Ok-Sequence
returns-in-Ok-Sequence c =
    let k = K (goal.at.returns-in-Ok-Sequence c).After-node_kind in
    let e : number_of c.in-Ok-Sequence.kind ≡ k = search rules in
    let a : 5 ≤ k = search rules in
    let b : k ≤ 8 = search rules in
    let d : k ≡ 7 → ⊥ = search rules in
    rw (c.visit_pair.ensures, e, c.p_at-p.ensures.is, c.q_at-q.ensures.is) (joined_found c.requires.held c.requires.n_bound a b d)
