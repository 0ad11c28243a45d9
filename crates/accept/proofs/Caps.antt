-- Counts that are held at 65,536: those of a process come from those of its parts.
-- Assumes nothing.
use Prim.Native.Nat.{ℕ, ◌+◌, ◌*◌, ◌≤◌, ◌<◌}
use mathlib.Core.Path.{◌≡◌, refl, sym, ap, ◌∙◌}
use mathlib.Core.Logic.{⊎_elim}
use native.Mathlib.Nat.{mul-le-mul_right, zero-mul, mul_comm, eq-zero-or-pos}
use native.Mathlib.Omega.{arith}
use Rattle.basis.proofs.Tests.{lt_or_le}
use Rattle.term.specs.Terms.{Term}
use Rattle.term.specs.Processes.{Process, idle, tick, act, choice, guarded, call, seq, par}
use Rattle.term.specs.Choices.{action_count, tick_count}
use Rattle.accept.specs.Counts.{capped, counts, Capped, choice_counts, seq_counts, par_counts, counts_of}

-- a sum and a product may be held before they are made or after
cap_cap : (x : ℕ) → capped (capped x) ≡ capped x
cap_cap x = omega arith

cap_add : (x x' y y' : ℕ) → capped x ≡ capped x' → capped y ≡ capped y' → capped (x + y) ≡ capped (x' + y')
cap_add x x' y y' e f = omega arith

cap_right : (x y : ℕ) → capped (x * y) ≡ capped (x * capped y)
cap_right x y = ⊎_elim below above (lt_or_le y 65536)
  where
    below : y < 65536 → capped (x * y) ≡ capped (x * capped y)
    below h = let e : capped y ≡ y = omega arith in rw e

    above : 65536 ≤ y → capped (x * y) ≡ capped (x * capped y)
    above h =
        let e : capped y ≡ 65536 = omega arith in
        rw e
        (⊎_elim (λ (z : x ≡ 0). rw z (rw zero-mul)) (λ (p : 0 < x). omega (arith, mul-le-mul_right y p)) (eq-zero-or-pos x))

cap_mul : (x y : ℕ) → capped (capped x * capped y) ≡ capped (x * y)
cap_mul x y = sym (cap_right x y ∙ ap capped (mul_comm x (capped y)) ∙ cap_right (capped y) x ∙ ap capped (mul_comm (capped y) (capped x)))

pub counts_small : (P : Process) → Capped (counts_of P)
unfolding counts_of
counts_small P = record { actions = omega arith; ticks = omega arith }

pub counts_idle : counts_of idle ≡ counts 0 0
unfolding counts_of action_count tick_count
counts_idle = refl

pub counts_tick : counts_of tick ≡ counts 0 1
unfolding counts_of action_count tick_count
counts_tick = refl

pub counts_act : (n : ℕ) → counts_of (act n) ≡ counts 1 0
unfolding counts_of action_count tick_count
counts_act n = refl

pub counts_guarded : (g : ℕ) (P : Process) → counts_of (guarded g P) ≡ counts_of P
unfolding counts_of action_count tick_count
counts_guarded g P = refl

pub counts_call : (d : ℕ) (P : Process) → counts_of (call d P) ≡ counts_of P
unfolding counts_of action_count tick_count
counts_call d P = refl

pub counts_choice : (P Q : Process) → choice_counts (counts_of P) (counts_of Q) ≡ counts_of (choice P Q)
unfolding choice_counts counts_of action_count tick_count
counts_choice P Q =
    λ i. record {
      actions = cap_add _ _ _ _ (cap_cap (action_count P)) (cap_cap (action_count Q)) i;
      ticks = cap_add _ _ _ _ (cap_cap (tick_count P)) (cap_cap (tick_count Q)) i;
    }

pub counts_seq : (P Q : Process) (q : Term) → seq_counts (counts_of P) (counts_of Q) ≡ counts_of (seq P Q q)
unfolding seq_counts counts_of action_count tick_count
counts_seq P Q q =
    λ i. record {
      actions = cap_add _ _ _ _ (cap_cap (action_count P)) (cap_mul (tick_count P) (action_count Q)) i;
      ticks = cap_mul (tick_count P) (tick_count Q) i;
    }

pub counts_par : (P : Process) (p : Term) (Q : Process) (q : Term) → par_counts (counts_of P) (counts_of Q) ≡ counts_of (par P p Q q)
unfolding par_counts counts_of action_count tick_count
counts_par P p Q q =
    λ i. record {
      actions =
          cap_add _ _ _ _ (cap_cap (action_count P))
          (cap_add _ _ _ _ (cap_cap (action_count Q)) (cap_add _ _ _ _ (cap_mul (tick_count P) (action_count Q)) (cap_mul (tick_count Q) (action_count P)))) i;
      ticks = cap_add _ _ _ _ (cap_mul (tick_count P) (tick_count Q)) (cap_mul (tick_count Q) (tick_count P)) i;
    }
