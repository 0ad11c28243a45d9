-- `turn_at` meets its contract. Assumes nothing.
use Prim.Native.Nat.{ℕ, ◌<◌, ◌≤◌}
use mathlib.Core.Path.{◌≡◌, sym, ap, ap₂, subst, ◌∙◌}
use native.Mathlib.Omega.{arith}
use Rattle.table.specs.Tables.{Table, kind_at}
use Rattle.accept.specs.Accepted.{accepted_table}
use Rattle.accept.specs.Counts.{Capped}
use Rattle.choice.specs.declared.Turn.{Turn}
use Rattle.choice.specs.Picks.{total_of, pick_of}
use Rattle.choice.specs.Turns.{Turned}
use Rattle.choice.proofs.Turning.{Here, lower_nodes, lower_small, lower_low, turned_tick, turned_act, turned_seq, turned_par, turned_choice, turned_guarded, call_definition, turned_call}
use Rattle.choice.proofs.turns.turn_at.Goals as goal
use Rattle.choice.proofs.turns.turn_at.Goals.{After-kind_at}

abbrev tb : After-kind_at → Table
tb c = accepted_table c.args.accepted.now

here : (c : After-kind_at) → Here (tb c) c.args.accepted.now.counts.now c.args.goal c.p_at-p.result c.q_at-q.result
here c = record { ready = c.args.accepted.now.prepared; reached = c.requires; p_is = c.p_at-p.ensures.is; q_is = c.q_at-q.ensures.is }

kind : (c : After-kind_at) (k : ℕ) → c.kind_at.result ≡ k → kind_at (tb c) c.args.goal.from ≡ k
kind c k e = sym c.kind_at.ensures ∙ e

-- at a sequence, a choice and a parallel p and q are lower
lower : (c : After-kind_at) (k : ℕ) → c.kind_at.result ≡ k → 5 ≤ k → k ≤ 8 → (c.p_at-p.result < c.args.goal.from) × (c.q_at-q.result < c.args.goal.from)
lower c k e l m = lower_nodes (here c) k (kind c k e) l m

abbrev Is : (c : After-kind_at) → Turn → Type 0
Is c r = Turned (tb c) c.args.goal r

pub counts_at-requires : goal.counts_at-requires
counts_at-requires c = let a = (goal.at.counts_at-requires c).After-kind_at in lower_low (here a) (lower a 5 c.in-5.is (omega arith) (omega arith)).0

pub counts_at-requires-in-5 : goal.counts_at-requires-in-5
counts_at-requires-in-5 c = let a = (goal.at.counts_at-requires-in-5 c).After-kind_at in lower_low (here a) (lower a 5 c.in-5.is (omega arith) (omega arith)).1

pub pick-which-requires : goal.pick-which-requires
pick-which-requires c =
    let a = (goal.at.pick-which-requires c).After-kind_at in
    let w = lower a 5 c.in-5.is (omega arith) (omega arith) in
    record { left = subst Capped (sym c.counts_at.ensures) (lower_small (here a) _ w.0); right = subst Capped (sym c.counts_at-in-5.ensures) (lower_small (here a) _ w.1) }

pub counts_at-requires-in-6 : goal.counts_at-requires-in-6
counts_at-requires-in-6 c = let a = (goal.at.counts_at-requires-in-6 c).After-kind_at in lower_low (here a) (lower a 6 c.in-6.is (omega arith) (omega arith)).0

pub total-requires : goal.total-requires
total-requires c =
    let a = (goal.at.total-requires c).After-kind_at in
    subst Capped (sym c.counts_at-in-6.ensures) (lower_small (here a) _ (lower a 6 c.in-6.is (omega arith) (omega arith)).0)

pub counts_at-right-requires : goal.counts_at-right-requires
counts_at-right-requires c = let a = (goal.at.counts_at-right-requires c).After-kind_at in lower_low (here a) (lower a 8 c.in-8.is (omega arith) (omega arith)).1

pub counts_at-requires-in-8 : goal.counts_at-requires-in-8
counts_at-requires-in-8 c = let a = (goal.at.counts_at-requires-in-8 c).After-kind_at in lower_low (here a) (lower a 8 c.in-8.is (omega arith) (omega arith)).0

pub pick-which-requires-in-8 : goal.pick-which-requires-in-8
pick-which-requires-in-8 c =
    let a = (goal.at.pick-which-requires-in-8 c).After-kind_at in
    let w = lower a 8 c.in-8.is (omega arith) (omega arith) in
    record { left = subst Capped (sym c.counts_at-in-8.ensures) (lower_small (here a) _ w.0); right = subst Capped (sym c.counts_at-right.ensures) (lower_small (here a) _ w.1) }

pub body_at-requires : goal.body_at-requires
body_at-requires c = let a = (goal.at.body_at-requires c).After-kind_at in call_definition (here a) (kind a 9 c.in-9.is)

pub returns-in-1 : goal.returns-in-1
returns-in-1 c = let a = (goal.at.returns-in-1 c).After-kind_at in turned_tick (here a) (kind a 1 c.in-1.is)

pub returns-in-5 : goal.returns-in-5
returns-in-5 c =
    let a = (goal.at.returns-in-5 c).After-kind_at in
    subst (Is a) (sym c.part.ensures)
    (turned_seq (here a) (kind a 5 c.in-5.is) _ (c.pick-which.ensures ∙ ap₂ (pick_of _ _ 0) c.counts_at.ensures c.counts_at-in-5.ensures))

pub returns-in-6 : goal.returns-in-6
returns-in-6 c =
    let a = (goal.at.returns-in-6 c).After-kind_at in
    subst (Is a) (sym c.either.ensures)
    (turned_choice (here a) (kind a 6 c.in-6.is) _ (c.total.ensures.0 ∙ ap (total_of c.args.goal.mode) c.counts_at-in-6.ensures))

pub returns-in-7 : goal.returns-in-7
returns-in-7 c =
    let a = (goal.at.returns-in-7 c).After-kind_at in
    subst (Is a) (sym c.on_to.ensures) (turned_guarded (here a) (kind a 7 c.in-7.is))

pub returns-in-8 : goal.returns-in-8
returns-in-8 c =
    let a = (goal.at.returns-in-8 c).After-kind_at in
    subst (Is a) (sym c.part-in-8.ensures)
    (turned_par (here a) (kind a 8 c.in-8.is) _ (rw (c.acting.ensures, c.counts_at-right.ensures, c.counts_at-in-8.ensures) at c.pick-which-in-8.ensures))

pub returns-in-9 : goal.returns-in-9
returns-in-9 c =
    let a = (goal.at.returns-in-9 c).After-kind_at in
    subst (Is a) (sym c.on_to-in-9.ensures) (rw c.body_at.ensures (turned_call (here a) (kind a 9 c.in-9.is)))

pub returns-in_default : goal.returns-in_default
returns-in_default c =
    let a = (goal.at.returns-in_default c).After-kind_at in
    turned_act (here a) (λ e. omega arith) (λ e. omega arith) (λ e. omega arith) (λ e. omega arith) (λ e. omega arith) (λ e. omega arith)
