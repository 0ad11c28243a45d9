-- What the machine answers, packed.
-- Assumes nothing.
use Prim.Native.Nat.{ℕ, ◌≤◌}
use mathlib.Core.Path.{◌≡◌, refl, sym, ap, ◌∙◌}
use mathlib.Core.List.{List}
use native.Mathlib.Omega.{arith}
use Rattle.std.specs.Prelude.{Result, Ok, Err, MatchResult}
use Rattle.std.specs.Result.{ResultUnwrapsOrElse}
use Rattle.table.specs.declared.refusals.Refused.{Refused}
use Rattle.table.specs.Checks.{Check, place_of}
use Rattle.table.specs.Refusals.{check_of, result_check}
use Rattle.steps.specs.declared.Tally.{Tally}
use Rattle.steps.specs.Tallies.{no_tally}
use Rattle.steps.specs.Steps.{Outcome}
use Rattle.steps.specs.Runs.{Rehearsal}
use Rattle.opening.specs.Answers.{Answers}
use Rattle.machine.specs.declared.Totals.{Totals}
use Rattle.machine.specs.Answers.{step_tally, totals, run_totals, Steps, Runs}
use Rattle.rehearsal.specs.Results.{written, total_numbers}
use Rattle.rehearsal.specs.Packing.{packed, packed_tally, AnswerPacked, StepPacked, RunPacked}
use Rattle.rehearsal.proofs.Places.{Near}

-- the place of what is answered
pub place_near : {answered check : Check} → answered ≡ check → Near check → place_of answered ≤ 4096
place_near e l = omega (arith, ap place_of e, l.place)

-- n is the number of answer r, by what P says of it where r is done
abbrev pub Packs : {A : Type 0} → (A → Type 0) → Result A Refused → ℕ → Type 0
Packs P r n = MatchResult r P (λ e. (report : ℕ) → n ≡ packed (check_of e) report)

packs : {A : Type 0} (P : A → Type 0) (r : Result A Refused) {check : Check} (n report : ℕ) → result_check r ≡ check
    → Packs P r n → ((x : A) → r ≡ Ok x → P x → n ≡ report) → n ≡ packed check report
packs P (Ok x) n report e m h = h x refl m ∙ ap (λ (c : Check). packed c report) e
packs P (Err f) n report e m h = m report ∙ ap (λ (c : Check). packed c report) e

-- the totals of a run, or those that stand by default
pub default_totals : {D : Totals → Type 0} → ((x : Totals) → D x → x ≡ totals 0 0 no_tally) → (r : Result Totals Refused) {counts : Totals}
    → ResultUnwrapsOrElse r D counts → counts ≡ run_totals r
default_totals d (Ok x) h = h
default_totals d (Err e) h = d _ h

module _ {n : ℕ} where
  -- a call that reports 0
  pub answer_packs : {P : Unit {0} → Type 0} {check : Check} {words : List ℕ} {r : Result (Unit {0}) Refused} {after : List ℕ}
      → Answers check words r after → Packs P r n → ((x : Unit {0}) → P x → n ≡ 0) → AnswerPacked check words n after
  answer_packs {P} {r = r} a m h = record { answer = packs P r n 0 a.check m (λ x e p. h x p); words = a.words }

  -- a step, or its preview
  pub step_packs : {P : Tally → Type 0} {o : Outcome} {r : Result Tally Refused} {after : List ℕ}
      → Steps o r after → Packs P r n → ((x : Tally) → P x → n ≡ packed_tally x) → StepPacked o n after
  step_packs {P} {o} {r} a m h =
      record {
        answer = packs P r n (packed_tally o.tally) a.check m (λ x e p. h x p ∙ ap packed_tally (sym (ap step_tally e) ∙ a.tally));
        state = a.state;
      }

  pub run_packs : {P : Totals → Type 0} {o : Rehearsal} {r : Result Totals Refused} {after bytes lent results : List ℕ} {counts : Totals}
      → Runs o r after bytes → counts ≡ run_totals r → results ≡ written (total_numbers counts) lent
      → Packs P r n → ((x : Totals) → P x → n ≡ 0) → RunPacked o lent n after bytes results
  run_packs {P} {r = r} {lent = lent} a t w m h =
      record {
        answer = packs P r n 0 a.check m (λ x e p. h x p);
        state = a.reports.state;
        answers = a.reports.answers;
        totals = w ∙ ap (λ (c : Totals). written (total_numbers c) lent) (t ∙ a.reports.totals);
      }
