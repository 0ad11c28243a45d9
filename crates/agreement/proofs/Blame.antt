-- Where an agent's entry is newer than another's and the key does not wait in it, a step is to blame.
use mathlib.Core.Bool.{Bool, true, false}
use mathlib.Core.List.{List, [], ◌∷◌}
use mathlib.Core.Logic.{◌⊎◌, inl, inr, ⊎_elim}
use mathlib.Core.Option.{some}
use mathlib.Core.Path.{◌≡◌, refl, sym, ◌∙◌, ap}
use native.Mathlib.Omega.{arith}
use Prim.Native.Nat.{ℕ, zero, suc, ◌≤◌, ◌<◌}
use lib.Dec.{T}
use lib.ListN.{length, get_elem?, take}
use lib.Seq.{take-nil}
use Rattle.agreement.specs.Order.{Order}
use Rattle.agreement.specs.View.{NewerWaits}
use Rattle.agreement.specs.Moves.{propagate}
use Rattle.agreement.specs.Turns.{after_turn}
use Rattle.agreement.specs.Machine.{after_steps, Machine, entry_after}
use Rattle.agreement.specs.Blame.{Blamed}
use Rattle.agreement.proofs.Moves.{is_propagate_lem, entry_moved, waits_moved, propagate_reaches}
use Rattle.agreement.proofs.Turns.{was_newer}
use Rattle.agreement.proofs.Machine.{view_step}

module _ {E : Type 0} {newer : E → E → Bool} (order : Order E newer) (M : Machine newer) (k a b : ℕ) where
  open M use {State, Step, next, view, turn, Invariant}

  abbrev Newer : State → Type 0
  Newer s = T (newer ((view s k).entry a) ((view s k).entry b))

  abbrev Silent : State → Type 0
  Silent s = T ((view s k).waits a) → ⊥

  -- in the steps xs from s a does not propagate the key and keeps its entry, which was the newer one, and the key did not wait
  record Quiet (s : State) (xs : List Step) : Type 0 where
    none : (j : ℕ) (y : Step) → get_elem? xs j ≡ some y → (turn (after_steps next s (take j xs)) y k).move ≡ propagate a → ⊥
    unchanged : (j : ℕ) → j ≤ length xs → entry_after M s (take j xs) k a ≡ entry_after M s xs k a
    was_newer : Newer s
    was_silent : Silent s

  -- one step before those
  later : (s : State) (x : Step) (xs : List Step) → Blamed M (next s x) xs k a b → Blamed M s (x ∷ xs) k a b
  later s x xs w = record {
    index = suc w.index;
    step = w.step;
    there = w.there;
    propagates = w.propagates;
    not_linked = w.not_linked;
    last = last;
    unchanged = unchanged;
  }
    where
      last : (j : ℕ) (y : Step) → suc w.index < j → get_elem? (x ∷ xs) j ≡ some y → (turn (after_steps next s (take j (x ∷ xs))) y k).move ≡ propagate a → ⊥
      last zero y h = absurd (omega arith)
      last (suc j) y h = w.last j y (omega arith)

      unchanged : (j : ℕ) → suc w.index ≤ j → j ≤ suc (length xs) → entry_after M s (take j (x ∷ xs)) k a ≡ entry_after M s (x ∷ xs) k a
      unchanged zero h l = absurd (omega arith)
      unchanged (suc j) h l = w.unchanged j (omega arith) (omega arith)

  module _ (s : State) (x : Step) (xs : List Step) (g : Invariant s) (q : Quiet (next s x) xs) where
    -- a kept its entry in step x: else the key would wait
    kept : (after_turn newer (turn s x k) (view s k)).entry a ≡ (view s k).entry a
    kept = ⊎_elim (λ e. e) (λ p. absurd (q.was_silent (rw (view_step M s x k g) p.1)))
        (entry_moved newer (turn s x k).link (turn s x k).move (view s k) a (M.fresh_next s x k g))

    -- a's entry was newer after step x
    there : T (newer ((after_turn newer (turn s x k) (view s k)).entry a) ((after_turn newer (turn s x k) (view s k)).entry b))
    there = rw (view_step M s x k g) at q.was_newer

    all_kept : (j : ℕ) → j ≤ suc (length xs) → entry_after M s (take j (x ∷ xs)) k a ≡ entry_after M s (x ∷ xs) k a
    all_kept zero l = sym kept ∙ sym (ap (λ v. v.entry a) (view_step M s x k g)) ∙ q.unchanged 0 (omega arith)
    all_kept (suc j) l = q.unchanged j (omega arith)

    -- x is a propagate, the last one
    blamed : (turn s x k).move ≡ propagate a → Blamed M s (x ∷ xs) k a b
    blamed e = record {
      index = 0;
      step = x;
      there = refl;
      propagates = e;
      not_linked = unlinked ((turn s x k).link a b) refl;
      last = last;
      unchanged = λ j h l. all_kept j l;
    }
      where
        unlinked : (c : Bool) → (turn s x k).link a b ≡ c → c ≡ false
        unlinked true f = absurd (propagate_reaches newer order (turn s x k).link (view s k) a b (rw f tt) (rw e at there))
        unlinked false f = refl

        last : (j : ℕ) (y : Step) → 0 < j → get_elem? (x ∷ xs) j ≡ some y → (turn (after_steps next s (take j (x ∷ xs))) y k).move ≡ propagate a → ⊥
        last zero y h = absurd (omega arith)
        last (suc j) y h = q.none j y

    -- x is none
    quieter : ((turn s x k).move ≡ propagate a → ⊥) → Quiet s (x ∷ xs)
    quieter d = record { none = none; unchanged = all_kept; was_newer = was_newer newer order (turn s x k) (view s k) b ((view s k).entry a) (M.fresh_next s x k g) (rw kept at there); was_silent = silent }
      where
        silent : Silent s
        silent w = ⊎_elim (λ u. q.was_silent (rw (view_step M s x k g) u)) d (waits_moved newer (turn s x k).link (turn s x k).move (view s k) a w)

        none : (j : ℕ) (y : Step) → get_elem? (x ∷ xs) j ≡ some y → (turn (after_steps next s (take j (x ∷ xs))) y k).move ≡ propagate a → ⊥
        none zero y f e = let z : y ≡ x = cc in d (rw z at e)
        none (suc j) y f e = q.none j y f e

  -- a step is to blame, or a was quiet
  find : (s : State) (xs : List Step) → Invariant s → Newer (after_steps next s xs) → Silent (after_steps next s xs) → Blamed M s xs k a b ⊎ Quiet s xs
  find s [] g n z = inr (record { none = λ j y e. let c : ◌≡◌ {A = ℕ} 0 1 = cc in absurd (omega arith); unchanged = λ j l. ap (λ (l : List Step). entry_after M s l k a) (take-nil j); was_newer = n; was_silent = z })
  find s (x ∷ xs) g n z = ⊎_elim (λ w. inl (later s x xs w)) (λ q. ⊎_elim (λ e. inl (blamed s x xs g q e)) (λ d. inr (quieter s x xs g q d)) (is_propagate_lem a (turn s x k).move))
      (find (next s x) xs (M.invariant_next s x g) n z)

  pub to_blame : (s : State) (xs : List Step) → Invariant s → NewerWaits newer (view s k) a b → Newer (after_steps next s xs) → Silent (after_steps next s xs) → Blamed M s xs k a b
  to_blame s xs g held n z = ⊎_elim (λ w. w) (λ q. absurd (q.was_silent (held q.was_newer))) (find s xs g n z)
