-- Nothing is lost in packing: what a caller reads off the number is what the call came to.
-- Assumes nothing.
use Prim.Native.Nat.{ℕ, ◌+◌, ◌*◌, ◌/◌, ◌%◌, ◌^◌, ◌<◌, ◌≤◌}
use mathlib.Core.Path.{◌≡◌, refl, ap, ◌∙◌}
use mathlib.Core.List.{List, [], ◌∷◌}
use native.Mathlib.Omega.{arith}
use lib.ListN.{length}
use borrow.Author.Tests.{lt-ltb, le-ltb}
use Rattle.table.specs.Checks.{Check, passes, refuses}
use Rattle.steps.specs.declared.Tally.{Tally}
use Rattle.steps.specs.Tallies.{tally}
use Rattle.steps.specs.Steps.{Outcome}
use Rattle.offering.specs.Passing.{TallyWithin}
use Rattle.machine.specs.declared.Totals.{Totals}
use Rattle.rehearsal.specs.Results.{written, total_numbers}
use Rattle.rehearsal.specs.Packing.{packed, packed_tally}
use Rattle.rehearsal.specs.Unpacking.{check_in, tally_in, totals_in, Told, NothingLost}
use Rattle.rehearsal.proofs.Places.{Near, load_near, step_near, preview_near, run_near, save_near, restore_near, drop_near}
use Rattle.rehearsal.proofs.Totals.{step_within, preview_within}

-- a check, with a report below 2^63
check_told : (c : Check) → Near c → (report : ℕ) → report < 2 ^ 63 → check_in (packed c report) ≡ c
check_told passes l report small = rw (lt-ltb report (2 ^ 63) small)
check_told (refuses number place) l report small =
    let n : ℕ = 2 ^ 63 + 65536 * place + number in
    let a : n % 65536 ≡ number = omega (arith, l.number, l.place) in
    let b : n % 2 ^ 63 / 65536 ≡ place = omega (arith, l.number, l.place) in
    rw (le-ltb n (2 ^ 63) (omega arith)) (λ i. refuses (a i) (b i))

-- both counts
tally_told : (c : Tally) → TallyWithin 1 c → tally_in (packed_tally c) ≡ c
tally_told c w =
    let a : packed_tally c % 65536 ≡ c.added = omega (arith, w.added, w.replaced) in
    let q : packed_tally c / 65536 ≡ c.replaced = omega (arith, w.added, w.replaced) in
    let r : c.replaced % 65536 ≡ c.replaced = omega (arith, w.replaced) in
    let b : packed_tally c / 65536 % 65536 ≡ c.replaced = ap (λ (n : ℕ). n % 65536) q ∙ r in
    (λ i. tally (a i) (b i))

-- a step, or its preview
step_told : (o : Outcome) → Near o.check → TallyWithin 1 o.tally → Told o
step_told o l w =
    record {
      check = check_told o.check l (packed_tally o.tally) (omega (arith, w.added, w.replaced));
      counts = λ e. ap (λ (c : Check). tally_in (packed c (packed_tally o.tally))) e ∙ tally_told o.tally w;
    }

-- the totals of a run
totals_told : (c : Totals) (lent : List ℕ) → 4 ≤ length lent → totals_in (written (total_numbers c) lent) ≡ c
totals_told c [] h = absurd (omega arith)
totals_told c (a ∷ []) h = absurd (omega arith)
totals_told c (a ∷ b ∷ []) h = absurd (omega arith)
totals_told c (a ∷ b ∷ d ∷ []) h = absurd (omega arith)
totals_told c (a ∷ b ∷ d ∷ e ∷ lent) h = refl

pub nothing_lost : NothingLost
nothing_lost =
    record {
      of_load = λ bytes was scratch. check_told _ (load_near bytes was scratch) 0 (omega arith);
      of_step = λ bytes was scratch kind x number. step_told _ (step_near bytes was scratch kind x number) (step_within bytes was scratch kind x number);
      of_preview = λ bytes was scratch kind x number next.
          step_told _ (preview_near bytes was scratch kind x number next) (preview_within bytes was scratch kind x number next);
      of_run = λ bytes was scratch schedule answers. check_told _ (run_near bytes was scratch schedule answers) 0 (omega arith);
      of_totals = totals_told;
      of_save = λ bytes state scratch shelf name. check_told _ (save_near bytes scratch shelf name state) 0 (omega arith);
      of_restore = λ bytes state scratch shelf name. check_told _ (restore_near bytes scratch shelf name state) 0 (omega arith);
      of_drop = λ bytes scratch shelf name. check_told _ (drop_near bytes scratch shelf name) 0 (omega arith);
    }
