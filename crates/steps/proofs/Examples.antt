-- The rehearsed examples hold, by computing the definitions.
-- Assumes nothing.
use Prim.Native.Nat.{ℕ}
use mathlib.Core.Bool.{Bool, true}
use mathlib.Core.Path.{◌≡◌, refl, ap, ◌∙◌}
use mathlib.Core.List.{List, [], ◌∷◌}
use lib.ListN.{replicate}
use Rattle.table.specs.Checks.{first_of, passes, number_of}
use Rattle.term.specs.Acceptance.{table_checks}
use Rattle.term.proofs.Acceptance.{passes_accepted}
use Rattle.state.specs.Layout.{state_words, is_whole, zc_at, zp_at}
use Rattle.state.specs.Entries.{entry}
use Rattle.state.specs.WellFormed.{well_formed, loaded}
use Rattle.steps.specs.Tallies.{no_tally}
use Rattle.steps.specs.Steps.{outcome, step_in, step_of}
use Rattle.steps.specs.Examples.{example, t, scratch, holding, shown, left_by, examples, AllGiven}
use Rattle.steps.proofs.Steps.{outcome_check, state_checks_lem, step_in_lem}
use Rattle.steps.proofs.Computing.{computing}

-- the table is accepted
pub accepted : first_of (table_checks example true scratch) ≡ passes
unfolding computing
accepted = refl

loads : (s : List ℕ) → is_whole s ≡ true → number_of (outcome (first_of (table_checks example (is_whole s) scratch)) s no_tally (loaded t)).check ≡ 0
loads s e = ap number_of (outcome_check s no_tally (loaded t) (first_of (table_checks example (is_whole s) scratch)) ∙ ap (λ (b : Bool). first_of (table_checks example b scratch)) e ∙ accepted)

-- a step of a well-formed state is what it is of an accepted table
steps : (s : List ℕ) (kind : ℕ) → is_whole s ≡ true → well_formed t s ≡ true → shown (step_of example s scratch kind 0 0) ≡ shown (step_in t s kind 0 0)
steps s kind e w =
    ap shown (step_in_lem example s scratch kind 0 0 ((state_checks_lem example s scratch).1 (passes_accepted example (is_whole s) scratch (ap (λ (b : Bool). first_of (table_checks example b scratch)) e ∙ accepted), w)))

pub all_given : AllGiven examples
unfolding computing left_by
all_given = (
  ap (λ (n : ℕ). n ∷ []) (loads (replicate state_words 0) refl),
  (
    steps (holding (zp_at 0) (entry 9 3 1) (entry 5 3 0)) 1 refl refl,
    (
      steps (holding (zp_at 0) (entry 9 4 1) (entry 5 3 0)) 1 refl refl,
      (
        steps (holding (zp_at 0) (entry 5 3 0) (entry 0 0 0)) 1 refl refl,
        (
          refl,
          (
            refl,
            (
              refl,
              (
                refl,
                (
                  refl,
                  (
                    refl,
                    (steps (holding (zc_at 0) (entry 5 3 1) (entry 9 4 0)) 2 refl refl, tt),
                  ),
                ),
              ),
            ),
          ),
        ),
      ),
    ),
  ),
)
