-- The words of a shelf after a name or a state is put in a place.
-- Assumes nothing.
use Prim.Native.Nat.{ℕ, ◌+◌, ◌<◌, ◌≤◌}
use mathlib.Core.Path.{◌≡◌, ap, ◌∙◌}
use mathlib.Core.Logic.{⊎_elim}
use mathlib.Core.List.{List}
use native.Mathlib.Omega.{arith}
use lib.ListN.{length, take, length-set}
use lib.Seq.{get_or-set_same, get_or-set_other, drop-set-lt}
use Rattle.basis.proofs.Tests.{lt_or_le}
use Rattle.basis.proofs.Lists.{length_replaced, part_replaced, get_d_replaced, part_before, drop_after}
use Rattle.state.specs.Layout.{state_words}
use Rattle.steps.specs.Shelves.{place_limit, saved_at, shelf_words, name_of, saved_of, put_saved, put_name}
use Rattle.steps.specs.Kept.{OnlyAt}

module _ (shelf : List ℕ) (whole : length shelf ≡ shelf_words) (i : ℕ) (h : i < place_limit) where
  -- A NAME
  pub only_named : (name : ℕ) → OnlyAt shelf i name (saved_of shelf i) (put_name shelf i name)
  unfolding put_name
  only_named name =
      record {
        name = get_or-set_same shelf i name 0 (omega (arith, whole));
        state = states i;
        names = λ j l d. get_or-set_other shelf i j name 0 d;
        states = λ j l d. states j;
        words = length-set shelf i name;
      }
    where
      states : (j : ℕ) → saved_of (put_name shelf i name) j ≡ saved_of shelf j
      states j = ap (take state_words) (drop-set-lt (saved_at j) shelf i name (omega arith))

  -- A STATE
  module _ (state : List ℕ) (fits : length state ≡ state_words) where
    within : saved_at i + state_words ≤ length shelf
    within = omega (arith, whole)

    only_put : OnlyAt shelf i (name_of shelf i) state (put_saved shelf i state)
    unfolding put_saved
    only_put =
        record {
          name = get_d_replaced shelf state (saved_at i) state_words fits within i 0 (omega arith);
          state = part_replaced shelf state (saved_at i) state_words fits within;
          names = λ j l d. get_d_replaced shelf state (saved_at i) state_words fits within j 0 (omega arith);
          states = λ j l d. ⊎_elim (λ (b : j < i). part_before shelf state (saved_at i) state_words fits within (saved_at j) state_words (omega arith))
              (λ (b : i ≤ j). ap (take state_words) (drop_after shelf state (saved_at i) state_words fits within (saved_at j) (omega arith))) (lt_or_le j i);
          words = length_replaced shelf state (saved_at i) state_words fits within;
        }

-- both
pub only_saved : (shelf : List ℕ) → length shelf ≡ shelf_words → (i : ℕ) → i < place_limit → (state : List ℕ) → length state ≡ state_words → (name : ℕ)
    → OnlyAt shelf i name state (put_name (put_saved shelf i state) i name)
only_saved shelf whole i h state fits name =
    let p = only_put shelf whole i h state fits in
    let n = only_named (put_saved shelf i state) (p.words ∙ whole) i h name in
    record {
      name = n.name;
      state = n.state ∙ p.state;
      names = λ j l d. n.names j l d ∙ p.names j l d;
      states = λ j l d. n.states j l d ∙ p.states j l d;
      words = n.words ∙ p.words;
    }
