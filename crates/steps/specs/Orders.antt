-- The order of the checks: the numbers of each call's list, for every input.
use Rattle.std.specs.Prelude.{ℕ, Bool, ◌≡◌, List, [], ◌∷◌, ◌++◌, map}
use Rattle.table.specs.Checks.{Refusal, first_of}
use Rattle.table.specs.Tables.{Table, table_of}
use Rattle.term.specs.Acceptance.{table_checks}
use Rattle.state.specs.Layout.{is_whole}
use Rattle.steps.specs.Steps.{step_checks, state_checks_with, state_checks, load_of, step_of}
use Rattle.steps.specs.Previews.{preview_of}
use Rattle.steps.specs.Runs.{schedule_checks, run_of}
use Rattle.steps.specs.Shelves.{is_whole_shelf}
use Rattle.steps.specs.Points.{shelf_check, save_checks, held_checks, save_of, restore_of, drop_of}

abbrev pub numbers : List Refusal → List ℕ
numbers rs = map (λ (r : Refusal). r.number) rs

pub record Numbered : Type 0 where
  pub load : (bytes : List ℕ) (fits : Bool) (scratch : ℕ) → numbers (table_checks bytes fits scratch) ≡ 1 ∷ 2 ∷ 3 ∷ 8 ∷ 4 ∷ 5 ∷ 6 ∷ 7 ∷ []
  pub state : (othersFit : Bool) (bytes was : List ℕ) (scratch : ℕ) → numbers (state_checks_with othersFit bytes was scratch) ≡ 1 ∷ 2 ∷ 3 ∷ 8 ∷ 4 ∷ 5 ∷ 6 ∷ 7 ∷ 9 ∷ []
  pub act : (t : Table) (was : List ℕ) (x c : ℕ) → numbers (step_checks t was 0 x c) ≡ 10 ∷ 11 ∷ 12 ∷ 13 ∷ 14 ∷ 15 ∷ 16 ∷ 17 ∷ []
  pub propagate : (t : Table) (was : List ℕ) (x k : ℕ) → numbers (step_checks t was 1 x k) ≡ 10 ∷ 18 ∷ []
  pub confirm : (t : Table) (was : List ℕ) (x k : ℕ) → numbers (step_checks t was 2 x k) ≡ 10 ∷ 18 ∷ []
  pub run : (schedule answers : List ℕ) → numbers (schedule_checks schedule answers) ≡ 19 ∷ 20 ∷ []
  pub save : (t : Table) (shelf : List ℕ) (name : ℕ) → numbers (shelf_check t shelf ∷ save_checks shelf name) ≡ 9 ∷ 21 ∷ 22 ∷ []
  pub restore_drop : (t : Table) (shelf : List ℕ) (name : ℕ) → numbers (shelf_check t shelf ∷ held_checks shelf name) ≡ 9 ∷ 21 ∷ []

pub record InOrder : Type 0 where
  pub numbered : Numbered
  -- each call's checks are one list, and the first that refuses decides: load's, a step's, a preview's, run's, and those with a shelf
  pub of_load : (bytes was : List ℕ) (scratch : ℕ) → (load_of bytes was scratch).check ≡ first_of (table_checks bytes (is_whole was) scratch)
  pub of_step : (bytes was : List ℕ) (scratch kind x number : ℕ) →
      (step_of bytes was scratch kind x number).check ≡ first_of (state_checks bytes was scratch ++ step_checks (table_of bytes) was kind x number)
  pub of_preview : (bytes was : List ℕ) (scratch kind x number : ℕ) (next : List ℕ) →
      (preview_of bytes was scratch kind x number next).check
      ≡ first_of (state_checks_with (is_whole next) bytes was scratch ++ step_checks (table_of bytes) was kind x number)
  pub of_run : (bytes was : List ℕ) (scratch : ℕ) (schedule answers : List ℕ) →
      (run_of bytes was scratch schedule answers).check ≡ first_of (state_checks bytes was scratch ++ schedule_checks schedule answers)
  pub of_save : (bytes state : List ℕ) (scratch : ℕ) (shelf : List ℕ) (name : ℕ) →
      (save_of bytes state scratch shelf name).check
      ≡ first_of (state_checks_with (is_whole_shelf shelf) bytes state scratch ++ (shelf_check (table_of bytes) shelf ∷ save_checks shelf name))
  pub of_restore : (bytes state : List ℕ) (scratch : ℕ) (shelf : List ℕ) (name : ℕ) →
      (restore_of bytes state scratch shelf name).check
      ≡ first_of (state_checks_with (is_whole_shelf shelf) bytes state scratch ++ (shelf_check (table_of bytes) shelf ∷ held_checks shelf name))
  pub of_drop : (bytes : List ℕ) (scratch : ℕ) (shelf : List ℕ) (name : ℕ) →
      (drop_of bytes scratch shelf name).check
      ≡ first_of (table_checks bytes (is_whole_shelf shelf) scratch ++ (shelf_check (table_of bytes) shelf ∷ held_checks shelf name))
