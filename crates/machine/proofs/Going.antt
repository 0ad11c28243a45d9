-- The steps of a run, one after another.
-- Assumes nothing.
use Prim.Native.Nat.{ℕ, ◌+◌, ◌<◌, ◌≤◌}
use mathlib.Core.Path.{◌≡◌, refl, sym, ap, subst, ◌∙◌}
use mathlib.Core.Bool.{cond}
use mathlib.Core.List.{List}
use lib.ListN.{length, get_or, set, length-set}
use Rattle.basis.specs.Numbers.{for_each}
use Rattle.basis.proofs.Numbers.{for_each_more}
use Rattle.table.specs.Checks.{passed, number_of}
use Rattle.table.specs.Tables.{Table, agent_limit}
use Rattle.table.specs.Sound.{Sound}
use Rattle.state.specs.WellFormed.{Proper}
use Rattle.state.proofs.Formed.{proper_facts, facts_proper}
use Rattle.steps.specs.declared.Tally.{Tally}
use Rattle.steps.specs.Tallies.{no_tally, add_tally}
use Rattle.steps.specs.Steps.{Outcome, step_in}
use Rattle.steps.specs.Runs.{Progress, begun, ran, kind_in, agent_in, number_in, added, step_limit}
use Rattle.steps.proofs.Proper.{step_proper}
use Rattle.table.specs.declared.refusals.Refused.{Refused}
use Rattle.table.specs.Refusals.{result_check}
use Rattle.std.specs.Prelude.{Result}
use Rattle.machine.specs.declared.Totals.{Totals}
use Rattle.machine.specs.Answers.{step_tally, totals, totals_of, Steps, Reports}
use Rattle.machine.specs.Running.{tallied, TotalsWithin}
use Rattle.machine.proofs.Sums.{ran_within, within_more}

-- i steps of a schedule are done
pub record Halfway (t : Table) (schedule was bytes : List ℕ) (i : ℕ) (s out : List ℕ) (c : Totals) : Type 0 where
  pub reports : Reports (ran t schedule i (begun was bytes)) c s out
  pub proper : Proper t s
  pub same : length out ≡ length bytes

module _ (t : Table) (schedule was bytes : List ℕ) where
  pub none_done : Proper t was → {n : Totals} → n ≡ totals 0 0 no_tally → Halfway t schedule was bytes 0 was bytes n
  unfolding ran for_each
  none_done p e =
      record {
        reports = record { totals = e; state = refl; answers = refl };
        proper = p;
        same = refl;
      }

  module _ (i : ℕ) (s out : List ℕ) (c : Totals) (h : Halfway t schedule was bytes i s out c) where
    abbrev p : Progress
    p = ran t schedule i (begun was bytes)

    abbrev stepped : List ℕ → Outcome
    stepped u = step_in t u (kind_in schedule i) (agent_in schedule i) (number_in schedule i)

    one_more : ran t schedule (i + 1) (begun was bytes) ≡ added i p (stepped p.state)
    unfolding ran
    one_more = for_each_more (λ (j : ℕ) (q : Progress). added j q (step_in t q.state (kind_in schedule j) (agent_in schedule j) (number_in schedule j))) i (begun was bytes)

    same_step : stepped s ≡ stepped p.state
    same_step = ap (λ (u : List ℕ). stepped u) h.reports.state

    pub totals_within : t.sizes.agents ≤ agent_limit → i ≤ step_limit → TotalsWithin step_limit c
    totals_within few l = rw h.reports.totals (within_more (totals_of p) i step_limit l (ran_within t few schedule was bytes i))

    module _ (r : Result Tally Refused) (u : List ℕ) (e : Steps (step_in t s (kind_in schedule i) (agent_in schedule i) (number_in schedule i)) r u) where
      check_is : result_check r ≡ (stepped p.state).check
      check_is = e.check ∙ ap (λ (o : Outcome). o.check) same_step

      tally_is : step_tally r ≡ (stepped p.state).tally
      tally_is = e.tally ∙ ap (λ (o : Outcome). o.tally) same_step

      totals_is : tallied c r ≡ totals_of (added i p (stepped p.state))
      totals_is =
          ap (λ (d : Totals). tallied d r) h.reports.totals
          ∙ (λ j. totals (p.done + cond (passed (check_is j)) 1 0) (p.refused + cond (passed (check_is j)) 0 1) (add_tally p.tally (tally_is j)))

      pub next_done : Sound t → ((j : ℕ) → get_or t.operands j 0 < 256)
          → Halfway t schedule was bytes (i + 1) u (set out i (number_of (result_check r))) (tallied c r)
      next_done sound narrow =
          record {
            reports = subst (λ (q : Progress). Reports q (tallied c r) u (set out i (number_of (result_check r)))) (sym one_more) (record {
              totals = totals_is;
              state = e.state ∙ ap (λ (o : Outcome). o.state) same_step;
              answers = (λ j. set (h.reports.answers j) i (number_of (check_is j)));
            });
            proper = subst (λ (v : List ℕ). Proper t v) (sym e.state) (facts_proper t sound.shaped.limits (stepped s).state
                (step_proper t sound narrow s (proper_facts t sound.shaped.limits s h.proper) (kind_in schedule i) (agent_in schedule i) (number_in schedule i)));
            same = length-set out i (number_of (result_check r)) ∙ h.same;
          }
