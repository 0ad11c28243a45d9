-- Refusal 6 in two readings: the trees of a table tick and expose calls as its nodes do.
-- Assumes nothing.
use Prim.Native.Nat.{ℕ, zero, suc, ◌<◌, ◌≤◌}
use mathlib.Core.Bool.{Bool, true, false, not, ◌&&◌, ◌||◌}
use mathlib.Core.Logic.{◌↔◌, ⊎_elim}
use mathlib.Core.Path.{◌≡◌, refl, sym, ap, ◌∙◌}
use native.Mathlib.Omega.{arith}
use lib.ListN.{get_or}
use borrow.Author.Tests.{ltb-true, ltb-false, not-false}
use Rattle.basis.specs.Below.{below}
use Rattle.basis.proofs.Below.{below_induct}
use Rattle.basis.proofs.Tests.{not_both, is_false, and_left, and_right, and_both, and_fails, or_left, or_right, or_either, or_neither, or_implies}
use Rattle.table.specs.Tables.{Table, kind_at, p_at, q_at, first_root, body_at}
use Rattle.table.specs.Sound.{Sound}
use Rattle.table.proofs.Promises.{kind_inside, kind_inner}
use Rattle.term.specs.Processes.{Process, idle, by_kind, node_step, node_with, defined, process_at}
use Rattle.term.specs.Exposure.{can_tick, calls_below, bad_call}
use Rattle.term.specs.Rules.{CanTick, Exposes, NotLower}
use Rattle.term.proofs.Opened.{node_opened, sound_lower}
use Rattle.term.proofs.Calls.{defined_body}

module _ (t : Table) where
  -- a tree that can tick is of a node that can, whatever the table
  ticks_kind : (calls lower : ℕ → Process) → ((e : ℕ) → can_tick (calls e) ≡ true → CanTick t (body_at t e)) → ((k : ℕ) → can_tick (lower k) ≡ true → CanTick t k)
      → (n k : ℕ) → kind_at t n ≡ k → can_tick (get_or (by_kind calls lower n (p_at t n) (q_at t n)) k idle) ≡ true → CanTick t n
  unfolding can_tick
  ticks_kind calls lower c l n zero e h = absurd (not_both h refl)
  ticks_kind calls lower c l n (suc zero) e h = CanTick.tick e
  ticks_kind calls lower c l n (suc (suc zero)) e h = absurd (not_both h refl)
  ticks_kind calls lower c l n (suc (suc (suc zero))) e h = absurd (not_both h refl)
  ticks_kind calls lower c l n (suc (suc (suc (suc zero)))) e h = absurd (not_both h refl)
  ticks_kind calls lower c l n (suc (suc (suc (suc (suc zero))))) e h =
      let P = lower (p_at t n) in
      let Q = lower (q_at t n) in
      CanTick.sequence e (l (p_at t n) (and_left (can_tick P) (can_tick Q) h)) (l (q_at t n) (and_right (can_tick P) (can_tick Q) h))
  ticks_kind calls lower c l n (suc (suc (suc (suc (suc (suc zero)))))) e h =
      ⊎_elim (λ a. CanTick.choice_left e (l (p_at t n) a)) (λ a. CanTick.choice_right e (l (q_at t n) a))
      (or_either (can_tick (lower (p_at t n))) (can_tick (lower (q_at t n))) h)
  ticks_kind calls lower c l n (suc (suc (suc (suc (suc (suc (suc zero))))))) e h = CanTick.guarded e (l (q_at t n) h)
  ticks_kind calls lower c l n (suc (suc (suc (suc (suc (suc (suc (suc zero)))))))) e h =
      let P = lower (p_at t n) in
      let Q = lower (q_at t n) in
      CanTick.parallel e (l (p_at t n) (and_left (can_tick P) (can_tick Q) h)) (l (q_at t n) (and_right (can_tick P) (can_tick Q) h))
  ticks_kind calls lower c l n (suc (suc (suc (suc (suc (suc (suc (suc (suc zero))))))))) e h = CanTick.call e (c (p_at t n) h)
  ticks_kind calls lower c l n (suc (suc (suc (suc (suc (suc (suc (suc (suc (suc k)))))))))) e h = absurd (not_both h refl)

  ticks_below : (calls : ℕ → Process) → ((e : ℕ) → can_tick (calls e) ≡ true → CanTick t (body_at t e))
      → (limit n : ℕ) → can_tick (below (node_step t calls) idle limit n) ≡ true → CanTick t n
  unfolding node_step can_tick
  ticks_below calls c limit =
      below_induct (node_step t calls) idle (λ (k : ℕ) (P : Process). can_tick P ≡ true → CanTick t k) limit (λ k h. absurd (not_both h refl))
      (λ n h r. ticks_kind calls (below (node_step t calls) idle n) c r n (kind_at t n) refl)

  ticks_defined : (level e : ℕ) → can_tick (defined t level e) ≡ true → CanTick t (body_at t e)
  unfolding defined node_with can_tick
  ticks_defined level =
      below_induct (λ lower e. node_with t lower (body_at t e)) idle (λ (e : ℕ) (P : Process). can_tick P ≡ true → CanTick t (body_at t e)) level
      (λ k h. absurd (not_both h refl)) (λ d h r. ticks_below (below (λ lower e. node_with t lower (body_at t e)) idle d) r (first_root t) (body_at t d))

  -- a tree with a call that is not below d is of a node that exposes one
  module _ (d : ℕ) where
    abbrev High : ℕ → Type 0
    High n = (e : ℕ) × Exposes t n e × (d ≤ e)

    high_kind : (lower : ℕ → Process) → ((k : ℕ) → can_tick (lower k) ≡ true → CanTick t k) → ((k : ℕ) → calls_below d (lower k) ≡ false → High k)
        → (n k : ℕ) → kind_at t n ≡ k → calls_below d (get_or (by_kind (defined t d) lower n (p_at t n) (q_at t n)) k idle) ≡ false → High n
    unfolding calls_below
    high_kind lower c l n zero e h = absurd (not_both refl h)
    high_kind lower c l n (suc zero) e h = absurd (not_both refl h)
    high_kind lower c l n (suc (suc zero)) e h = absurd (not_both refl h)
    high_kind lower c l n (suc (suc (suc zero))) e h = absurd (not_both refl h)
    high_kind lower c l n (suc (suc (suc (suc zero)))) e h = absurd (not_both refl h)
    high_kind lower c l n (suc (suc (suc (suc (suc zero))))) e h =
        let P = lower (p_at t n) in
        let Q = lower (q_at t n) in
        ⊎_elim (λ (a : calls_below d P ≡ false). let w = l (p_at t n) a in (w.0, Exposes.sequence_left e w.1, w.2))
        (λ (a : (not (can_tick P) || calls_below d Q) ≡ false).
        let b = or_neither (not (can_tick P)) (calls_below d Q) a in
        let w = l (q_at t n) b.1 in
        (w.0, Exposes.sequence_right e (c (p_at t n) (not-false (can_tick P) b.0)) w.1, w.2))
        (and_fails (calls_below d P) (not (can_tick P) || calls_below d Q) h)
    high_kind lower c l n (suc (suc (suc (suc (suc (suc zero)))))) e h =
        ⊎_elim (λ a. let w = l (p_at t n) a in (w.0, Exposes.choice_left e w.1, w.2))
        (λ a. let w = l (q_at t n) a in (w.0, Exposes.choice_right e w.1, w.2))
        (and_fails (calls_below d (lower (p_at t n))) (calls_below d (lower (q_at t n))) h)
    high_kind lower c l n (suc (suc (suc (suc (suc (suc (suc zero))))))) e h = let w = l (q_at t n) h in (w.0, Exposes.guarded e w.1, w.2)
    high_kind lower c l n (suc (suc (suc (suc (suc (suc (suc (suc zero)))))))) e h =
        ⊎_elim (λ a. let w = l (p_at t n) a in (w.0, Exposes.parallel_left e w.1, w.2))
        (λ a. let w = l (q_at t n) a in (w.0, Exposes.parallel_right e w.1, w.2))
        (and_fails (calls_below d (lower (p_at t n))) (calls_below d (lower (q_at t n))) h)
    high_kind lower c l n (suc (suc (suc (suc (suc (suc (suc (suc (suc zero))))))))) e h = (p_at t n, Exposes.itself e, ltb-false (p_at t n) d h)
    high_kind lower c l n (suc (suc (suc (suc (suc (suc (suc (suc (suc (suc k)))))))))) e h = absurd (not_both refl h)

    high_node : (n : ℕ) → calls_below d (process_at t d n) ≡ false → High n
    unfolding node_with node_step calls_below
    high_node =
        below_induct (node_step t (defined t d)) idle (λ (k : ℕ) (P : Process). calls_below d P ≡ false → High k) (first_root t) (λ k h. absurd (not_both refl h))
        (λ n h r. high_kind (below (node_step t (defined t d)) idle n) (ticks_below (defined t d) (ticks_defined d) n) r n (kind_at t n) refl)

  -- in a sound table, where the definitions below d expose lower calls only, a tree with calls below d ticks as its node does, and its node exposes no
  -- other call
  module _ (sound : Sound t) where
    opened : (d n k : ℕ) → kind_at t n ≡ k → 0 < k → k < 10 → process_at t d n ≡ get_or (by_kind (defined t d) (process_at t d) n (p_at t n) (q_at t n)) k idle
    opened d n k e a b =
        node_opened t (defined t d) n k (kind_inner t sound n (kind_inside t sound n (omega arith)) (omega arith)) (sound_lower t sound n) e

    module _ (d : ℕ) where
      abbrev ticks : ℕ → Bool
      ticks n = can_tick (process_at t d n)

      abbrev low : ℕ → Bool
      low n = calls_below d (process_at t d n)

      abbrev Low : ℕ → Type 0
      Low n = low n ≡ true

      module _ (n : ℕ) where
        low_sequence : kind_at t n ≡ 5 → Low n → Low (p_at t n) × (ticks (p_at t n) ≡ true → Low (q_at t n))
        unfolding calls_below
        low_sequence e c =
            let x = ap (calls_below d) (sym (opened d n 5 e (omega arith) (omega arith))) ∙ c in
            let right = not (ticks (p_at t n)) || low (q_at t n) in
            (and_left (low (p_at t n)) right x, λ h. or_implies (ticks (p_at t n)) (low (q_at t n)) h (and_right (low (p_at t n)) right x))

        low_both : (low (p_at t n) && low (q_at t n)) ≡ true → Low (p_at t n) × Low (q_at t n)
        low_both x = (and_left (low (p_at t n)) (low (q_at t n)) x, and_right (low (p_at t n)) (low (q_at t n)) x)

        low_choice : kind_at t n ≡ 6 → Low n → Low (p_at t n) × Low (q_at t n)
        unfolding calls_below
        low_choice e c = low_both (ap (calls_below d) (sym (opened d n 6 e (omega arith) (omega arith))) ∙ c)

        low_guarded : kind_at t n ≡ 7 → Low n → Low (q_at t n)
        unfolding calls_below
        low_guarded e c = ap (calls_below d) (sym (opened d n 7 e (omega arith) (omega arith))) ∙ c

        low_parallel : kind_at t n ≡ 8 → Low n → Low (p_at t n) × Low (q_at t n)
        unfolding calls_below
        low_parallel e c = low_both (ap (calls_below d) (sym (opened d n 8 e (omega arith) (omega arith))) ∙ c)

        low_call : kind_at t n ≡ 9 → Low n → p_at t n < d
        unfolding calls_below
        low_call e c = ltb-true (p_at t n) d (ap (calls_below d) (sym (opened d n 9 e (omega arith) (omega arith))) ∙ c)

    abbrev GoodBelow : ℕ → Type 0
    GoodBelow d = (e : ℕ) → e < d → bad_call t e ≡ false

    node_ticks : {n : ℕ} → CanTick t n → (d : ℕ) → GoodBelow d → Low d n → ticks d n ≡ true
    unfolding can_tick
    node_ticks {n} (CanTick.tick e) d good c = ap can_tick (opened d n 1 e (omega arith) (omega arith))
    node_ticks {n} (CanTick.sequence e a b) d good c =
        let w = low_sequence d n e c in
        let h = node_ticks a d good w.0 in
        ap can_tick (opened d n 5 e (omega arith) (omega arith)) ∙ and_both (ticks d (p_at t n)) (ticks d (q_at t n)) h (node_ticks b d good (w.1 h))
    node_ticks {n} (CanTick.choice_left e a) d good c =
        ap can_tick (opened d n 6 e (omega arith) (omega arith)) ∙
        or_left (ticks d (p_at t n)) (ticks d (q_at t n)) (node_ticks a d good (low_choice d n e c).0)
    node_ticks {n} (CanTick.choice_right e a) d good c =
        ap can_tick (opened d n 6 e (omega arith) (omega arith)) ∙
        or_right (ticks d (p_at t n)) (ticks d (q_at t n)) (node_ticks a d good (low_choice d n e c).1)
    node_ticks {n} (CanTick.guarded e a) d good c = ap can_tick (opened d n 7 e (omega arith) (omega arith)) ∙ node_ticks a d good (low_guarded d n e c)
    node_ticks {n} (CanTick.parallel e a b) d good c =
        let w = low_parallel d n e c in
        ap can_tick (opened d n 8 e (omega arith) (omega arith)) ∙
        and_both (ticks d (p_at t n)) (ticks d (q_at t n)) (node_ticks a d good w.0) (node_ticks b d good w.1)
    node_ticks {n} (CanTick.call e a) d good c =
        let p = p_at t n in
        let h = low_call d n e c in
        ap can_tick (opened d n 9 e (omega arith) (omega arith)) ∙ ap can_tick (defined_body t d p h) ∙
        node_ticks a p (λ f l. good f (omega arith)) (not-false (low p (body_at t p)) (good p h))

    module _ (d : ℕ) (good : GoodBelow d) where
      exposed_lower : {n e : ℕ} → Exposes t n e → Low d n → e < d
      exposed_lower {n} (Exposes.itself k) c = low_call d n k c
      exposed_lower {n} (Exposes.sequence_left k x) c = exposed_lower x (low_sequence d n k c).0
      exposed_lower {n} (Exposes.sequence_right k a x) c =
          let w = low_sequence d n k c in
          exposed_lower x (w.1 (node_ticks a d good w.0))
      exposed_lower {n} (Exposes.choice_left k x) c = exposed_lower x (low_choice d n k c).0
      exposed_lower {n} (Exposes.choice_right k x) c = exposed_lower x (low_choice d n k c).1
      exposed_lower {n} (Exposes.guarded k x) c = exposed_lower x (low_guarded d n k c)
      exposed_lower {n} (Exposes.parallel_left k x) c = exposed_lower x (low_parallel d n k c).0
      exposed_lower {n} (Exposes.parallel_right k x) c = exposed_lower x (low_parallel d n k c).1

      -- 6, where the lower definitions pass
      pub not_lower_iff : (bad_call t d ≡ true) ↔ NotLower t d
      not_lower_iff = (to, from)
        where
          to : bad_call t d ≡ true → NotLower t d
          to e =
              let w = high_node d (body_at t d) (is_false (low d (body_at t d)) (λ f. not_both e (ap not f))) in
              record { called = w.0; exposed = w.1; not_lower = w.2 }

          from : NotLower t d → bad_call t d ≡ true
          from w = ap not (is_false (low d (body_at t d)) (λ f. absurd (omega (arith, exposed_lower w.exposed f, w.not_lower))))
