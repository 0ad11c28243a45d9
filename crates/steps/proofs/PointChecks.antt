-- When the checks of a call with a shelf pass.
-- Assumes nothing.
use Prim.Native.Nat.{ℕ}
use mathlib.Core.Bool.{Bool, true, false, not, ◌&&◌, ◌||◌}
use mathlib.Core.Path.{◌≡◌, refl, ap, ◌∙◌}
use mathlib.Core.Logic.{◌↔◌, inl, inr, ⊎_elim}
use mathlib.Core.List.{List, [], ◌∷◌}
use lib.ListN.{length}
use borrow.Author.Tests.{eqb-true, not-false}
use Rattle.basis.proofs.Tests.{not_both, is_false, or_either, or_left, or_right, and_left, and_right, and_both}
use Rattle.table.specs.Checks.{passes, refuses, Refusal, refuse_if, first_of}
use Rattle.table.specs.Tables.{Table}
use Rattle.table.proofs.Checks.{first_passes, first_later, append_passes}
use Rattle.term.specs.Acceptance.{table_checks}
use Rattle.term.proofs.Acceptance.{passes_accepted}
use Rattle.state.specs.Layout.{state_words, is_whole}
use Rattle.steps.specs.Steps.{state_checks_with}
use Rattle.steps.specs.Shelves.{is_name, is_held, shelf_formed}
use Rattle.steps.specs.Points.{shelf_check, save_checks, held_checks}
use Rattle.steps.specs.Kept.{Held, Room, WellFormed, IsName}
use Rattle.steps.proofs.Steps.{state_checks_lem, checks_with}
use Rattle.steps.proofs.NameChecks.{save_passes, not_held, held_passes}
use Rattle.steps.proofs.Shelves.{is_name_lem, is_held_lem, is_well_formed}

-- the lengths of other buffers, which 8 judges with the state's
module _ (bytes : List ℕ) (scratch : ℕ) where
  pub fits_table : (fits : Bool) → (first_of (table_checks bytes fits scratch) ≡ passes) ↔ ((fits ≡ true) × (first_of (table_checks bytes true scratch) ≡ passes))
  fits_table true = (λ e. (refl, e), λ p. p.1)
  fits_table false = (λ e. absurd (not_both (passes_accepted bytes false scratch e).fit refl), λ p. absurd (not_both p.0 refl))

  pub fits_state : (state : List ℕ) (fits : Bool)
      → (first_of (state_checks_with fits bytes state scratch) ≡ passes) ↔ ((fits ≡ true) × (first_of (state_checks_with true bytes state scratch) ≡ passes))
  fits_state state true = (λ e. (refl, e), λ p. p.1)
  fits_state state false = (
    λ e. absurd (not_both (and_left false (is_whole state) ((checks_with false bytes state scratch).0 e).0.fit) refl),
    λ p. absurd (not_both p.0 refl),
  )

  pub state_table : (state : List ℕ) → first_of (state_checks_with true bytes state scratch) ≡ passes → first_of (table_checks bytes true scratch) ≡ passes
  state_table state e = ((fits_table (is_whole state)).0 (append_passes (table_checks bytes (is_whole state) scratch) _ e).0).1

  pub state_whole : (state : List ℕ) → first_of (state_checks_with true bytes state scratch) ≡ passes → length state ≡ state_words
  state_whole state e = eqb-true (length state) state_words ((state_checks_lem bytes state scratch).0 e).0.fit

-- a name is held, or a place is free
module _ (shelf : List ℕ) (name : ℕ) where
  pub has_room : ((is_held shelf name || is_held shelf 0) ≡ true) ↔ Room shelf name
  has_room = (
    λ e. ⊎_elim (λ (d : is_held shelf name ≡ true). inl ((is_held_lem shelf name).0 d)) (λ (d : is_held shelf 0 ≡ true). inr ((is_held_lem shelf 0).0 d))
        (or_either (is_held shelf name) (is_held shelf 0) e),
    ⊎_elim (λ w. or_left (is_held shelf name) (is_held shelf 0) ((is_held_lem shelf name).1 w)) (λ w. or_right (is_held shelf name) (is_held shelf 0) ((is_held_lem shelf 0).1 w)),
  )

-- the shelf's check and the name's
module _ (t : Table) (shelf : List ℕ) (name : ℕ) where
  abbrev roomy : Bool
  roomy = is_held shelf name || is_held shelf 0

  abbrev known : Bool
  known = is_name name && is_held shelf name

  -- where the shelf's does not refuse, the name's decide
  formed_first : WellFormed shelf t → (own : List Refusal) → first_of (shelf_check t shelf ∷ own) ≡ first_of own
  formed_first w own = first_later (shelf_check t shelf) own (ap not ((is_well_formed t shelf).1 w))

  -- A SAVE'S
  pub save_checks_lem : (first_of (shelf_check t shelf ∷ save_checks shelf name) ≡ passes) ↔ (WellFormed shelf t × IsName name × Room shelf name)
  save_checks_lem = (
    λ e.
        let e9 = first_passes (shelf_check t shelf) (save_checks shelf name) e in
        let e21 = first_passes (refuse_if 21 (not (is_name name))) _ e9.1 in
        let e22 = first_passes (refuse_if 22 (not roomy)) [] e21.1 in
        ((is_well_formed t shelf).0 (not-false (shelf_formed shelf t) e9.0), (is_name_lem name).0 (not-false (is_name name) e21.0), (has_room shelf name).0 (not-false roomy e22.0)),
    λ p.
        formed_first p.0 (save_checks shelf name) ∙ save_passes shelf name ((is_name_lem name).1 p.1) ((has_room shelf name).1 p.2),
  )

  -- A RESTORE'S AND A DROP'S
  pub held_checks_lem : (first_of (shelf_check t shelf ∷ held_checks shelf name) ≡ passes) ↔ (WellFormed shelf t × IsName name × Held shelf name)
  held_checks_lem = (
    λ e.
        let e9 = first_passes (shelf_check t shelf) (held_checks shelf name) e in
        let e21 = not-false known (first_passes (refuse_if 21 (not known)) [] e9.1).0 in (
          (is_well_formed t shelf).0 (not-false (shelf_formed shelf t) e9.0),
          (is_name_lem name).0 (and_left (is_name name) (is_held shelf name) e21),
          (is_held_lem shelf name).0 (and_right (is_name name) (is_held shelf name) e21),
        ),
    λ p.
        formed_first p.0 (held_checks shelf name)
        ∙ held_passes shelf name (and_both (is_name name) (is_held shelf name) ((is_name_lem name).1 p.1) ((is_held_lem shelf name).1 p.2)),
  )

  pub not_known : WellFormed shelf t → (IsName name × Held shelf name → ⊥) → first_of (shelf_check t shelf ∷ held_checks shelf name) ≡ refuses 21 0
  not_known w n =
      formed_first w (held_checks shelf name)
      ∙ not_held shelf name (is_false known
      (λ e. n ((is_name_lem name).0 (and_left (is_name name) (is_held shelf name) e), (is_held_lem shelf name).0 (and_right (is_name name) (is_held shelf name) e))))
