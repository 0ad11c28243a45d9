-- What the checks of a name come to: refusals 21 and 22.
-- Assumes nothing.
use Prim.Native.Nat.{ℕ}
use mathlib.Core.Bool.{true, false, not, ◌&&◌, ◌||◌}
use mathlib.Core.Path.{◌≡◌, ap, ◌∙◌}
use mathlib.Core.List.{List, [], ◌∷◌}
use Rattle.table.specs.Checks.{passes, refuses, refuse_if, first_of}
use Rattle.table.proofs.Checks.{first_later, first_refuses, none_passes}
use Rattle.steps.specs.Shelves.{is_name, is_held}
use Rattle.steps.specs.Points.{save_checks, held_checks}

module _ (shelf : List ℕ) (name : ℕ) where
  -- of a save
  pub save_no_name : is_name name ≡ false → first_of (save_checks shelf name) ≡ refuses 21 0
  save_no_name e = first_refuses (refuse_if 21 (not (is_name name))) _ (ap not e)

  module _ (e : is_name name ≡ true) where
    after_21 : first_of (save_checks shelf name) ≡ first_of (refuse_if 22 (not (is_held shelf name || is_held shelf 0)) ∷ [])
    after_21 = first_later (refuse_if 21 (not (is_name name))) _ (ap not e)

    pub save_no_place : (is_held shelf name || is_held shelf 0) ≡ false → first_of (save_checks shelf name) ≡ refuses 22 0
    save_no_place f = after_21 ∙ first_refuses (refuse_if 22 (not (is_held shelf name || is_held shelf 0))) [] (ap not f)

    pub save_passes : (is_held shelf name || is_held shelf 0) ≡ true → first_of (save_checks shelf name) ≡ passes
    save_passes f = after_21 ∙ first_later (refuse_if 22 (not (is_held shelf name || is_held shelf 0))) [] (ap not f) ∙ none_passes

  -- of a restore or a drop
  pub not_held : (is_name name && is_held shelf name) ≡ false → first_of (held_checks shelf name) ≡ refuses 21 0
  not_held e = first_refuses (refuse_if 21 (not (is_name name && is_held shelf name))) [] (ap not e)

  pub held_passes : (is_name name && is_held shelf name) ≡ true → first_of (held_checks shelf name) ≡ passes
  held_passes e = first_later (refuse_if 21 (not (is_name name && is_held shelf name))) [] (ap not e) ∙ none_passes
