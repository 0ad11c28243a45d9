-- The derivations of a term over a sound table's process nodes: what they leave is such a term again, their actions are at action
-- nodes, and their guards at guard nodes.
-- Assumes nothing.
use Prim.Native.Nat.{ℕ, zero, suc, ◌<◌}
use mathlib.Core.Bool.{Bool, true, false}
use mathlib.Core.Path.{◌≡◌, refl}
use mathlib.Core.List.{List, [], ◌∷◌, ◌++◌, map}
use native.Mathlib.Omega.{arith}
use lib.ListN.{get_or}
use Rattle.basis.specs.Below.{below}
use Rattle.basis.proofs.Below.{below_induct}
use Rattle.table.specs.Tables.{Table, kind_at, p_at, q_at, first_root, body_at}
use Rattle.table.specs.Sound.{Sound}
use Rattle.table.specs.Sound.{LowerProcess}
use Rattle.table.proofs.Promises.{sequence_operands, guarded_operands, parallel_operands}
use Rattle.term.specs.Terms.{Term, Seq, Par, Tick, Idle, Node}
use Rattle.term.specs.Accepted.{Over}
use Rattle.term.specs.Processes.{Process, idle, tick, act, choice, guarded, call, seq, par}
use Rattle.term.specs.Processes.{Derivation, derivations, keep, is_tick, is_action, under, before, beside_right, beside_left, join, joins}
use Rattle.term.specs.Processes.{by_kind, node_step, node_with, defined, node_process, process}
use Rattle.term.specs.Accepted.{ActionNode, GuardNode, Labelled}
use Rattle.term.proofs.Each.{Each, each_in, each_append, each_map}
use Rattle.term.proofs.Members.{In}

pub record Inside (t : Table) (d : Derivation) : Type 0 where
  pub label : Labelled t d.label
  pub guards : Each (GuardNode t) d.guards
  pub leaving : Over t d.leaving

-- the same of a process: its actions, its guards, and the terms that may be left standing
abbrev AllInside : Table → Process → Type 0
AllInside t idle = Unit {0}
AllInside t tick = Unit {0}
AllInside t (act n) = ActionNode t n
AllInside t (choice P Q) = AllInside t P × AllInside t Q
AllInside t (guarded g P) = GuardNode t g × AllInside t P
AllInside t (call d P) = AllInside t P
AllInside t (seq P Q q) = AllInside t P × AllInside t Q × Over t q
AllInside t (par P p Q q) = AllInside t P × Over t p × AllInside t Q × Over t q

module _ (t : Table) where
  inside_under : (g : ℕ) → GuardNode t g → (d : Derivation) → Inside t d → Inside t (under g d)
  inside_under g h d i = record { label = i.label; guards = (h, i.guards); leaving = i.leaving }

  inside_before : (q : Term) → Over t q → (d : Derivation) → Inside t d → Inside t (before q d)
  inside_before q o d i = record { label = i.label; guards = i.guards; leaving = (i.leaving, o) }

  inside_right : (q : Term) → Over t q → (d : Derivation) → Inside t d → Inside t (beside_right q d)
  inside_right q o d i = record { label = i.label; guards = i.guards; leaving = (i.leaving, o) }

  inside_left : (p : Term) → Over t p → (d : Derivation) → Inside t d → Inside t (beside_left p d)
  inside_left p o d i = record { label = i.label; guards = i.guards; leaving = (o, i.leaving) }

  inside_join : (u : Derivation) → Inside t u → (d : Derivation) → Inside t d → Inside t (join u d)
  inside_join u h d i = record { label = i.label; guards = each_append (GuardNode t) u.guards d.guards h.guards i.guards; leaving = i.leaving }

  each_keep : (f : Derivation → Bool) (ds : List Derivation) → Each (Inside t) ds → Each (Inside t) (keep f ds)
  unfolding keep
  each_keep f [] e = tt
  each_keep f (d ∷ ds) e = by (f d) (each_keep f ds e.1)
    where
      by : (b : Bool) → Each (Inside t) (keep f ds) → Each (Inside t) (elim b [ true ↦ d ∷ keep f ds | false ↦ keep f ds ])
      by true r = (e.0, r)
      by false r = r

  each_joins : (ts ds : List Derivation) → Each (Inside t) ts → Each (Inside t) ds → Each (Inside t) (joins ts ds)
  unfolding joins
  each_joins [] ds e f = tt
  each_joins (u ∷ ts) ds e f =
      each_append (Inside t) (map (join u) ds) (joins ts ds) (each_map (Inside t) (join u) (inside_join u e.0) ds f) (each_joins ts ds e.1 f)

  within_inside : (P : Process) → AllInside t P → Each (Inside t) (derivations P)
  unfolding derivations
  within_inside idle w = tt
  within_inside tick w = (record { label = tt; guards = tt; leaving = tt }, tt)
  within_inside (act n) w = (record { label = w; guards = tt; leaving = tt }, tt)
  within_inside (choice P Q) w = each_append (Inside t) (derivations P) (derivations Q) (within_inside P w.0) (within_inside Q w.1)
  within_inside (guarded g P) w = each_map (Inside t) (under g) (inside_under g w.0) (derivations P) (within_inside P w.1)
  within_inside (call d P) w = within_inside P w
  within_inside (seq P Q q) w =
      let p = within_inside P w.0 in
      each_append (Inside t) (map (before q) (keep is_action (derivations P))) (joins (keep is_tick (derivations P)) (derivations Q))
      (each_map (Inside t) (before q) (inside_before q w.2) (keep is_action (derivations P)) (each_keep is_action (derivations P) p))
      (each_joins (keep is_tick (derivations P)) (derivations Q) (each_keep is_tick (derivations P) p) (within_inside Q w.1))
  within_inside (par P p Q q) w =
      let a = within_inside P w.0 in
      let b = within_inside Q w.2 in
      let PQ = joins (keep is_tick (derivations P)) (derivations Q) in
      let QP = joins (keep is_tick (derivations Q)) (derivations P) in
      let left = map (beside_left p) (keep is_action (derivations Q)) in
      each_append (Inside t) (map (beside_right q) (keep is_action (derivations P))) (left ++ (PQ ++ QP))
      (each_map (Inside t) (beside_right q) (inside_right q w.3) (keep is_action (derivations P)) (each_keep is_action (derivations P) a))
      (each_append (Inside t) left (PQ ++ QP)
      (each_map (Inside t) (beside_left p) (inside_left p w.1) (keep is_action (derivations Q)) (each_keep is_action (derivations Q) b))
      (each_append (Inside t) PQ QP
      (each_joins (keep is_tick (derivations P)) (derivations Q) (each_keep is_tick (derivations P) a) b)
      (each_joins (keep is_tick (derivations Q)) (derivations P) (each_keep is_tick (derivations Q) b) a)))

  module _ (sound : Sound t) where
    inner : (n x : ℕ) → n < first_root t → LowerProcess t n x → Over t (Node x)
    inner n x h l = (omega arith, l.1)

    within_kind : (calls lower : ℕ → Process) → ((d : ℕ) → AllInside t (calls d)) → ((k : ℕ) → AllInside t (lower k)) → (n : ℕ) → n < first_root t
        → (k : ℕ) → kind_at t n ≡ k → AllInside t (get_or (by_kind calls lower n (p_at t n) (q_at t n)) k idle)
    within_kind calls lower c l n h zero e = tt
    within_kind calls lower c l n h (suc zero) e = tt
    within_kind calls lower c l n h (suc (suc zero)) e = (h, omega arith, omega arith)
    within_kind calls lower c l n h (suc (suc (suc zero))) e = (h, omega arith, omega arith)
    within_kind calls lower c l n h (suc (suc (suc (suc zero)))) e = (h, omega arith, omega arith)
    within_kind calls lower c l n h (suc (suc (suc (suc (suc zero))))) e =
        (l (p_at t n), l (q_at t n), inner n (q_at t n) h (sequence_operands t sound n e).1)
    within_kind calls lower c l n h (suc (suc (suc (suc (suc (suc zero)))))) e = (l (p_at t n), l (q_at t n))
    within_kind calls lower c l n h (suc (suc (suc (suc (suc (suc (suc zero))))))) e =
        let g = (guarded_operands t sound n e).0 in
        ((omega arith, g.1), l (q_at t n))
    within_kind calls lower c l n h (suc (suc (suc (suc (suc (suc (suc (suc zero)))))))) e =
        let o = parallel_operands t sound n e in
        (l (p_at t n), inner n (p_at t n) h o.0, l (q_at t n), inner n (q_at t n) h o.1)
    within_kind calls lower c l n h (suc (suc (suc (suc (suc (suc (suc (suc (suc zero))))))))) e = c (p_at t n)
    within_kind calls lower c l n h (suc (suc (suc (suc (suc (suc (suc (suc (suc (suc k)))))))))) e = tt

    within_node : (calls : ℕ → Process) → ((d : ℕ) → AllInside t (calls d)) → (n : ℕ) → AllInside t (node_with t calls n)
    unfolding node_with node_step
    within_node calls c =
        below_induct (node_step t calls) idle (λ (k : ℕ) (P : Process). AllInside t P) (first_root t) (λ k. tt)
        (λ n h r. within_kind calls (below (node_step t calls) idle n) c r n h (kind_at t n) refl)

    within_defined : (level d : ℕ) → AllInside t (defined t level d)
    unfolding defined
    within_defined level =
        below_induct (λ lower e. node_with t lower (body_at t e)) idle (λ (k : ℕ) (P : Process). AllInside t P) level (λ k. tt)
        (λ d h r. within_node (below (λ lower e. node_with t lower (body_at t e)) idle d) r (body_at t d))

    within_process : (T : Term) → Over t T → AllInside t (process t T)
    unfolding process node_process
    within_process (Seq P Q) o = (within_process P o.0, within_process Q o.1, o.1)
    within_process (Par P Q) o = (within_process P o.0, o.0, within_process Q o.1, o.1)
    within_process Tick o = tt
    within_process Idle o = tt
    within_process (Node n) o = within_node (defined t t.sizes.definitions) (within_defined t.sizes.definitions) n

    pub derivation_inside : (T : Term) → Over t T → {d : Derivation} → In d (derivations (process t T)) → Inside t d
    derivation_inside T o m = each_in (Inside t) m (within_inside (process t T) (within_process T o))
