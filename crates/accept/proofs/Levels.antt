-- A node that is settled at a level is settled at every higher one.
-- Assumes nothing.
use Prim.Native.Nat.{ℕ, ◌+◌, ◌≤◌, ◌<◌}
use mathlib.Core.Bool.{Bool, true, false, not, ◌&&◌, ◌||◌}
use mathlib.Core.Path.{◌≡◌, refl, sym, ap, ◌∙◌}
use mathlib.Core.Logic.{⊎_elim}
use mathlib.Core.List.{List}
use native.Mathlib.Omega.{arith}
use borrow.Author.Tests.{ltb-true, lt-ltb, not-false}
use Rattle.basis.proofs.Tests.{and_left, and_right, and_both, or_either, or_left, or_right, below_or_last}
use Rattle.table.specs.Tables.{Table, first_root, body_at}
use Rattle.term.specs.Processes.{Process, idle, tick, act, choice, guarded, call, seq, par, derivations, defined, process_at}
use Rattle.term.specs.Exposure.{can_tick, calls_below, bad_call}
use Rattle.term.proofs.Counting.{length_actions, length_ticks}
use Rattle.term.proofs.Calls.{defined_body, level_same}
use Rattle.accept.specs.Counts.{counts_of}
use Rattle.accept.specs.Scratch.{pair_at, is_counted, Settled, Held}

-- processes with the same derivations have the same counts
counts_same : (P Q : Process) → derivations P ≡ derivations Q → counts_of P ≡ counts_of Q
unfolding counts_of
counts_same P Q e =
    rw (← (length_actions P), ← (length_ticks P), ← (length_actions Q), ← (length_ticks Q), e)

-- what is below a level is below a higher one
module _ (d e : ℕ) (h : d ≤ e) where
  and_more : (a b c f : Bool) → (a ≡ true → c ≡ true) → (b ≡ true → f ≡ true) → (a && b) ≡ true → (c && f) ≡ true
  and_more a b c f x y z = and_both c f (x (and_left a b z)) (y (and_right a b z))

  pub calls_more : (P : Process) → calls_below d P ≡ true → calls_below e P ≡ true
  unfolding calls_below
  calls_more idle x = refl
  calls_more tick x = refl
  calls_more (act n) x = refl
  calls_more (choice P Q) x = and_more (calls_below d P) (calls_below d Q) (calls_below e P) (calls_below e Q) (calls_more P) (calls_more Q) x
  calls_more (guarded g P) x = calls_more P x
  calls_more (call f P) x = lt-ltb f e (omega (arith, ltb-true f d x))
  calls_more (seq P Q q) x =
      and_more (calls_below d P) (not (can_tick P) || calls_below d Q) (calls_below e P) (not (can_tick P) || calls_below e Q) (calls_more P)
      (λ y.
      ⊎_elim (λ (z : not (can_tick P) ≡ true). or_left (not (can_tick P)) (calls_below e Q) z)
      (λ (z : calls_below d Q ≡ true). or_right (not (can_tick P)) (calls_below e Q) (calls_more Q z))
      (or_either (not (can_tick P)) (calls_below d Q) y))
      x
  calls_more (par P p Q q) x = and_more (calls_below d P) (calls_below d Q) (calls_below e P) (calls_below e Q) (calls_more P) (calls_more Q) x

module _ {t : Table} {level : ℕ} {s : List ℕ} (held : Held t level s) where
  -- a definition below the level has the counts of its body
  pub body_counts : (d : ℕ) → d < level → body_at t d < first_root t → pair_at s (body_at t d) ≡ counts_of (defined t level d)
  body_counts d h l =
      let w = level_same t d d level (omega arith) (omega arith) (body_at t d) (not-false (calls_below d (process_at t d (body_at t d))) (held.lower d h)) in
      (held.nodes (body_at t d) l (held.bodies d h)).counts
      ∙ sym (counts_same (process_at t d (body_at t d)) (process_at t level (body_at t d)) w.0)
      ∙ sym (ap counts_of (defined_body t level d h))

  -- one definition more
  pub held_next : level < t.sizes.definitions → bad_call t level ≡ false → is_counted s (body_at t level) ≡ true → Held t (level + 1) s
  held_next h e f =
      record {
        sound = held.sound;
        words = held.words;
        low = omega arith;
        lower = λ d l. ⊎_elim (λ (u : d < level). held.lower d u) (λ (u : d ≡ level). rw u e) (below_or_last d level (omega arith));
        bodies = λ d l. ⊎_elim (λ (u : d < level). held.bodies d u) (λ (u : d ≡ level). rw u f) (below_or_last d level (omega arith));
        nodes = nodes;
      }
    where
      nodes : (n : ℕ) → n < first_root t → is_counted s n ≡ true → Settled t (level + 1) s n
      nodes n l c =
          let x = held.nodes n l c in
          let w = level_same t level level (level + 1) (omega arith) (omega arith) n x.calls in
          record {
            calls = calls_more level (level + 1) (omega arith) (process_at t (level + 1) n) w.1;
            counts = x.counts ∙ counts_same (process_at t level n) (process_at t (level + 1) n) w.0;
          }
