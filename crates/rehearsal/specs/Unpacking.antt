-- What a caller reads off an answer and off the words of a run's totals, and that it is what was packed.
use Rattle.std.specs.Prelude.{ℕ, ◌/◌, ◌%◌, ◌^◌, ◌≤◌, cond, ◌≡◌, List, ltb, length, get_or}
use Rattle.table.specs.Checks.{Check, passes, refuses}
use Rattle.steps.specs.declared.Tally.{Tally}
use Rattle.steps.specs.Tallies.{tally}
use Rattle.steps.specs.Steps.{Outcome, load_of, step_of}
use Rattle.steps.specs.Previews.{preview_of}
use Rattle.steps.specs.Runs.{run_of}
use Rattle.steps.specs.Points.{Change, save_of, restore_of, drop_of}
use Rattle.machine.specs.declared.Totals.{Totals}
use Rattle.rehearsal.specs.Results.{written, total_numbers}
use Rattle.rehearsal.specs.Packing.{packed, packed_tally}

-- as include/rehearsal.h has it: LABS_IS_REFUSED, LABS_REFUSAL and LABS_PLACE
abbrev pub check_in : ℕ → Check
check_in n = cond (ltb n (2 ^ 63)) passes (refuses (n % 65536) (n % 2 ^ 63 / 65536))

-- LABS_STEP_ADDED and LABS_STEP_REPLACED
abbrev pub tally_in : ℕ → Tally
tally_in n = tally (n % 65536) (n / 65536 % 65536)

-- LABS_TOTAL_DONE, LABS_TOTAL_REFUSED, LABS_TOTAL_ADDED and LABS_TOTAL_REPLACED
abbrev pub totals_in : List ℕ → Totals
totals_in words = record { done = get_or words 0 0; refused = get_or words 1 0; tally = tally (get_or words 2 0) (get_or words 3 0) }

-- the number that a step answers tells its check, and both counts where it is done
pub record Told (o : Outcome) : Type 0 where
  pub check : check_in (packed o.check (packed_tally o.tally)) ≡ o.check
  pub counts : o.check ≡ passes → tally_in (packed o.check (packed_tally o.tally)) ≡ o.tally

-- the number that a save, restore or drop answers tells its check
abbrev pub ChangeTold : Change → Type 0
ChangeTold c = check_in (packed c.check 0) ≡ c.check

-- NOTHING IS LOST in packing
pub record NothingLost : Type 0 where
  pub of_load : (bytes was : List ℕ) (scratch : ℕ) → check_in (packed (load_of bytes was scratch).check 0) ≡ (load_of bytes was scratch).check
  pub of_step : (bytes was : List ℕ) (scratch kind x number : ℕ) → Told (step_of bytes was scratch kind x number)
  pub of_preview : (bytes was : List ℕ) (scratch kind x number : ℕ) (next : List ℕ) → Told (preview_of bytes was scratch kind x number next)
  pub of_run : (bytes was : List ℕ) (scratch : ℕ) (schedule answers : List ℕ) →
      check_in (packed (run_of bytes was scratch schedule answers).check 0) ≡ (run_of bytes was scratch schedule answers).check
  -- of its totals, where there is room for all four
  pub of_totals : (c : Totals) (lent : List ℕ) → 4 ≤ length lent → totals_in (written (total_numbers c) lent) ≡ c
  pub of_save : (bytes state : List ℕ) (scratch : ℕ) (shelf : List ℕ) (name : ℕ) → ChangeTold (save_of bytes state scratch shelf name)
  pub of_restore : (bytes state : List ℕ) (scratch : ℕ) (shelf : List ℕ) (name : ℕ) → ChangeTold (restore_of bytes state scratch shelf name)
  pub of_drop : (bytes : List ℕ) (scratch : ℕ) (shelf : List ℕ) (name : ℕ) → ChangeTold (drop_of bytes scratch shelf name)
