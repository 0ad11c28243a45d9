-- Where each definition exposes calls of lower ones only, a call has the derivations of its definition's body.
-- Assumes nothing.
use Prim.Native.Nat.{ℕ, zero, suc, ◌<◌, ◌≤◌}
use mathlib.Core.Bool.{Bool, true, false, not, ◌||◌}
use mathlib.Core.Path.{◌≡◌, refl, sym, ap, ap₂, ◌∙◌}
use mathlib.Core.List.{List, ◌++◌, map}
use native.Mathlib.Omega.{arith}
use lib.Dec.{eqb}
use lib.ListN.{get_or}
use borrow.Author.Tests.{ltb-true, not-false}
use Rattle.basis.specs.Below.{below}
use Rattle.basis.proofs.Below.{below_at}
use Rattle.basis.proofs.Tests.{or_implies, and_left, and_right, and_both}
use Rattle.table.specs.Tables.{Table, kind_at, p_at, q_at, first_root, body_at}
use Rattle.term.specs.Terms.{Term, Node}
use Rattle.term.specs.Processes.{Process, idle, choice, guarded, call, seq, par}
use Rattle.term.specs.Processes.{Derivation, derivations, keep, is_tick, is_action, under, before, joins}
use Rattle.term.specs.Processes.{by_kind, node_step, node_with, defined, process_at, node_process}
use Rattle.term.specs.Exposure.{can_tick, calls_below}
use Rattle.term.specs.Accepted.{CallsLower}
use Rattle.term.proofs.Counting.{no_ticks, same_tick}
use Rattle.term.proofs.Opened.{process_opened}

-- P has the derivations of R where its exposed calls are below d, and then so are R's
abbrev Like : ℕ → Process → Process → Type 0
Like d P R = calls_below d P ≡ true → (derivations P ≡ derivations R) × (calls_below d R ≡ true)

or_alike : (a b c d : Bool) → a ≡ b → (c ≡ true → d ≡ true) → (not a || c) ≡ true → (not b || d) ≡ true
or_alike true b c d e f g = rw (← e) (f g)
or_alike false b c d e f g = rw (← e)

module _ (d : ℕ) where
  like_choice : (P R Q S : Process) → Like d P R → Like d Q S → Like d (choice P Q) (choice R S)
  unfolding calls_below derivations
  like_choice P R Q S e f t =
      let x = e (and_left (calls_below d P) (calls_below d Q) t) in
      let y = f (and_right (calls_below d P) (calls_below d Q) t) in
      (ap₂ (λ u v. u ++ v) x.0 y.0, and_both (calls_below d R) (calls_below d S) x.1 y.1)

  like_guarded : (g : ℕ) (P R : Process) → Like d P R → Like d (guarded g P) (guarded g R)
  unfolding calls_below derivations
  like_guarded g P R e t = (ap (map (under g)) (e t).0, (e t).1)

  -- a sequence has the right's derivations only if the left ticks
  joins_like : (P Q S : Process) → (can_tick P ≡ true → derivations Q ≡ derivations S) → (b : Bool) → can_tick P ≡ b
      → joins (keep is_tick (derivations P)) (derivations Q) ≡ joins (keep is_tick (derivations P)) (derivations S)
  unfolding joins
  joins_like P Q S f true c = rw (f c)
  joins_like P Q S f false c = rw (no_ticks P c)

  like_seq : (P R Q S : Process) (q : Term) → Like d P R → Like d Q S → Like d (seq P Q q) (seq R S q)
  unfolding calls_below derivations
  like_seq P R Q S q e f t =
      let x : (derivations P ≡ derivations R) × (calls_below d R ≡ true) = e (and_left (calls_below d P) (not (can_tick P) || calls_below d Q) t) in
      let g : (not (can_tick P) || calls_below d Q) ≡ true = and_right (calls_below d P) (not (can_tick P) || calls_below d Q) t in (
        rw (← x.0)
            (ap (λ (ds : List Derivation). map (before q) (keep is_action (derivations P)) ++ ds)
            (joins_like P Q S (λ b. (f (or_implies (can_tick P) (calls_below d Q) b g)).0) (can_tick P) refl)),
        and_both (calls_below d R) (not (can_tick R) || calls_below d S) x.1
            (or_alike (can_tick P) (can_tick R) (calls_below d Q) (calls_below d S) (same_tick P R x.0) (λ k. (f k).1) g),
      )

  like_par : (P R : Process) (p : Term) (Q S : Process) (q : Term) → Like d P R → Like d Q S → Like d (par P p Q q) (par R p S q)
  unfolding calls_below derivations
  like_par P R p Q S q e f t =
      let x = e (and_left (calls_below d P) (calls_below d Q) t) in
      let y = f (and_right (calls_below d P) (calls_below d Q) t) in
      (rw (x.0, y.0), and_both (calls_below d R) (calls_below d S) x.1 y.1)

  module _ (t : Table) (calls more : ℕ → Process) (same : (e : ℕ) → e < d → calls e ≡ more e) where
    like_call : (e : ℕ) → Like d (call e (calls e)) (call e (more e))
    unfolding calls_below derivations
    like_call e u = (rw (same e (ltb-true e d u)), u)

    like_kind : (l m : ℕ → Process) → ((j : ℕ) → Like d (l j) (m j)) → (n p q k : ℕ)
        → Like d (get_or (by_kind calls l n p q) k idle) (get_or (by_kind more m n p q) k idle)
    like_kind l m r n p q zero u = (refl, u)
    like_kind l m r n p q (suc zero) u = (refl, u)
    like_kind l m r n p q (suc (suc zero)) u = (refl, u)
    like_kind l m r n p q (suc (suc (suc zero))) u = (refl, u)
    like_kind l m r n p q (suc (suc (suc (suc zero)))) u = (refl, u)
    like_kind l m r n p q (suc (suc (suc (suc (suc zero))))) u = like_seq (l p) (m p) (l q) (m q) (Node q) (r p) (r q) u
    like_kind l m r n p q (suc (suc (suc (suc (suc (suc zero)))))) u = like_choice (l p) (m p) (l q) (m q) (r p) (r q) u
    like_kind l m r n p q (suc (suc (suc (suc (suc (suc (suc zero))))))) u = like_guarded p (l q) (m q) (r q) u
    like_kind l m r n p q (suc (suc (suc (suc (suc (suc (suc (suc zero)))))))) u = like_par (l p) (m p) (Node p) (l q) (m q) (Node q) (r p) (r q) u
    like_kind l m r n p q (suc (suc (suc (suc (suc (suc (suc (suc (suc zero))))))))) u = like_call p u
    like_kind l m r n p q (suc (suc (suc (suc (suc (suc (suc (suc (suc (suc k)))))))))) u = (refl, u)

    like_below : (limit n : ℕ) → Like d (below (node_step t calls) idle limit n) (below (node_step t more) idle limit n)
    unfolding below node_step
    like_below zero n = λ u. (refl, u)
    like_below (suc limit) n = by (eqb n limit) (like_below limit)
      where
        by : (b : Bool) → ((j : ℕ) → Like d (below (node_step t calls) idle limit j) (below (node_step t more) idle limit j))
            → Like d (elim b [ true ↦ node_step t calls (below (node_step t calls) idle limit) limit | false ↦ below (node_step t calls) idle limit n ])
            (elim b [ true ↦ node_step t more (below (node_step t more) idle limit) limit | false ↦ below (node_step t more) idle limit n ])
        by true r = like_kind (below (node_step t calls) idle limit) (below (node_step t more) idle limit) r limit (p_at t limit) (q_at t limit) (kind_at t limit)
        by false r = r n

module _ (t : Table) where
  -- a definition below a level stands for its body
  pub defined_body : (level d : ℕ) → d < level → defined t level d ≡ process_at t d (body_at t d)
  unfolding defined
  defined_body level d h = below_at (λ lower e. node_with t lower (body_at t e)) idle level d h

  -- a node that exposes calls of definitions below d only is the same at any two levels from d on
  pub level_same : (d a b : ℕ) → d ≤ a → d ≤ b → (n : ℕ) → calls_below d (node_with t (defined t a) n) ≡ true
      → (derivations (node_with t (defined t a) n) ≡ derivations (node_with t (defined t b) n)) × (calls_below d (node_with t (defined t b) n) ≡ true)
  unfolding node_with
  level_same d a b h g n = like_below d t (defined t a) (defined t b) (λ e l. defined_body a e (omega arith) ∙ sym (defined_body b e (omega arith))) (first_root t) n

  -- so is a definition's body
  pub body_same : CallsLower t → (d : ℕ) → d < t.sizes.definitions
      → (derivations (process_at t d (body_at t d)) ≡ derivations (node_process t (body_at t d))) × (calls_below d (node_process t (body_at t d)) ≡ true)
  unfolding node_process
  body_same c d h = level_same d d t.sizes.definitions (omega arith) (omega arith) (body_at t d) (not-false (calls_below d (process_at t d (body_at t d))) (c d h))

  pub call_same : CallsLower t → (d : ℕ) → d < t.sizes.definitions
      → derivations (call d (defined t t.sizes.definitions d)) ≡ derivations (node_process t (body_at t d))
  unfolding derivations
  call_same c d h = ap derivations (defined_body t.sizes.definitions d h) ∙ (body_same c d h).0

  -- a call node has the derivations of the body that it names
  pub call_opened : CallsLower t → (n : ℕ) → n < first_root t → kind_at t n ≡ 9 → p_at t n < t.sizes.definitions
      → derivations (node_process t n) ≡ derivations (node_process t (body_at t (p_at t n)))
  call_opened c n h e l = ap derivations (process_opened t n 9 h (λ a b. absurd (omega arith)) e) ∙ call_same c (p_at t n) l
