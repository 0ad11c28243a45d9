-- A list of steps is a list of turns to every key.
use mathlib.Core.Bool.{Bool}
use mathlib.Core.List.{List, [], ◌∷◌, ◌++◌}
use mathlib.Core.Path.{◌≡◌, refl, sym, ◌∙◌, ap}
use Prim.Native.Nat.{ℕ}
use lib.Dec.{T}
use Rattle.agreement.specs.View.{blank}
use Rattle.agreement.specs.Moves.{propagate}
use Rattle.agreement.specs.Turns.{Turn, after_turn, after_turns, AllFresh, PropagateLinked}
use Rattle.agreement.specs.Stamps.{by_stamp}
use Rattle.agreement.specs.History.{Numbered, entries_of}
use Rattle.agreement.specs.Machine.{after_steps, Before, turns_of, Machine, Start, Writes, history_of, all_writes}
use Rattle.agreement.proofs.History.{numbered_append, entries_append}

module _ {State Step : Type 0} (next : State → Step → State) where
  pub after_steps_append : (s : State) (xs ys : List Step) → after_steps next s (xs ++ ys) ≡ after_steps next (after_steps next s xs) ys
  after_steps_append s [] ys = refl
  after_steps_append s (x ∷ xs) ys = after_steps_append (next s x) xs ys

  pub before_map : (P Q : State → Step → Type 0) → ((s : State) (x : Step) → P s x → Q s x)
      → (s : State) (xs : List Step) → Before next P s xs → Before next Q s xs
  before_map P Q f s [] h = tt
  before_map P Q f s (x ∷ xs) h = (f s x h.0, before_map P Q f (next s x) xs h.1)

  -- what holds of any step in any state
  pub before_all : (P : State → Step → Type 0) → ((s : State) (x : Step) → P s x) → (s : State) (xs : List Step) → Before next P s xs
  before_all P f s [] = tt
  before_all P f s (x ∷ xs) = (f s x, before_all P f (next s x) xs)

  pub before_propagates : {E : Type 0} (turn : State → Step → ℕ → Turn E) (k a b : ℕ) (s : State) (xs : List Step)
      → Before next (λ s x. (turn s x k).move ≡ propagate a → T ((turn s x k).link a b)) s xs → PropagateLinked a b (turns_of next turn s xs k)
  before_propagates turn k a b s [] h = tt
  before_propagates turn k a b s (x ∷ xs) h = (h.0, before_propagates turn k a b (next s x) xs h.1)

module _ {E : Type 0} {newer : E → E → Bool} (M : Machine newer) where
  open M use {State, Step, next, view, turn, Invariant}

  pub invariant_steps : (s : State) (xs : List Step) → Invariant s → Invariant (after_steps next s xs)
  invariant_steps s [] g = g
  invariant_steps s (x ∷ xs) g = invariant_steps (next s x) xs (M.invariant_next s x g)

  pub view_step : (s : State) (x : Step) (k : ℕ) → Invariant s → view (next s x) k ≡ after_turn newer (turn s x k) (view s k)
  view_step s x k g = λ i. record { entry = λ a. M.entry_next s x k a g i; waits = λ a. M.waits_next s x k a g i }

  pub view_steps : (s : State) (xs : List Step) (k : ℕ) → Invariant s → view (after_steps next s xs) k ≡ after_turns newer (turns_of next turn s xs k) (view s k)
  view_steps s [] k g = refl
  view_steps s (x ∷ xs) k g =
      view_steps (next s x) xs k (M.invariant_next s x g) ∙ ap (after_turns newer (turns_of next turn (next s x) xs k)) (view_step s x k g)

  pub fresh_steps : (s : State) (xs : List Step) (k : ℕ) → Invariant s → AllFresh newer (turns_of next turn s xs k) (view s k)
  fresh_steps s [] k g = tt
  fresh_steps s (x ∷ xs) k g = (M.fresh_next s x k g, rw (← view_step s x k g) (fresh_steps (next s x) xs k (M.invariant_next s x g)))

  -- after more steps than `before`
  pub view_split : (s : State) (xs before since : List Step) → xs ≡ before ++ since → Invariant s → (k : ℕ)
      → view (after_steps next s xs) k ≡ after_turns newer (turns_of next turn (after_steps next s before) since k) (view (after_steps next s before) k)
  view_split s xs before since e g k =
      ap (λ (l : List Step). view (after_steps next s l) k) e ∙ ap (λ u. view u k) (after_steps_append next s before since)
      ∙ view_steps (after_steps next s before) since k (invariant_steps s before g)

  -- from a start
  module _ {absent : E} (s : State) (start : Start M absent s) where
    start_blank : (k : ℕ) → view s k ≡ blank absent
    start_blank k = λ i. record { entry = λ a. start.no_entry k a i; waits = λ a. start.no_waits k a i }

    pub start_fresh : (xs : List Step) (k : ℕ) → AllFresh newer (turns_of next turn s xs k) (blank absent)
    start_fresh xs k = rw (← start_blank k) (fresh_steps s xs k start.invariant)

    pub start_view : (xs : List Step) (k : ℕ) → view (after_steps next s xs) k ≡ after_turns newer (turns_of next turn s xs k) (blank absent)
    start_view xs k = rw (← start_blank k) (view_steps s xs k start.invariant)

module _ {E : Type 0} (stamp : E → ℕ) (M : Machine (by_stamp stamp)) (H : Writes stamp M) where
  -- the stamps of the writes count up from the clock
  pub writes_numbered : (s : M.State) (xs : List M.Step) → M.Invariant s → Numbered (λ w. stamp (H.entry w)) (H.clock s) (all_writes H s xs)
  writes_numbered s [] g = tt
  writes_numbered s (x ∷ xs) g =
      numbered_append (λ w. stamp (H.entry w)) (H.clock s) (H.clock (M.next s x)) (H.adds s x) (all_writes H (M.next s x) xs)
      (H.adds_numbered s x g) (H.clock_next s x g) (writes_numbered (M.next s x) xs (M.invariant_next s x g))

  -- the history of a key is the part of the writes that are to it
  pub history_entries : (s : M.State) (xs : List M.Step) (k : ℕ) → M.Invariant s → history_of M s xs k ≡ entries_of H.key H.entry k (all_writes H s xs)
  history_entries s [] k g = refl
  history_entries s (x ∷ xs) k g = rw (H.adds_entries s x k g, history_entries (M.next s x) xs k (M.invariant_next s x g))
      (sym (entries_append H.key H.entry k (H.adds s x) (all_writes H (M.next s x) xs)))
