-- The totals of a run.
-- Assumes nothing.
use Prim.Native.Nat.{ℕ, zero, suc, ◌≤◌}
use mathlib.Core.Bool.{true}
use mathlib.Core.List.{List}
use native.Mathlib.Omega.{arith}
use Rattle.basis.specs.Numbers.{for_each}
use Rattle.basis.proofs.Numbers.{how_many_bound}
use Rattle.table.specs.Checks.{Check, passes, refuses, first_of}
use Rattle.table.specs.Tables.{Table, agent_limit}
use Rattle.state.specs.declared.Insertion.{Insertion}
use Rattle.state.specs.Entries.{is_add, is_update}
use Rattle.steps.specs.declared.Tally.{Tally}
use Rattle.steps.specs.Tallies.{no_tally, add_tally}
use Rattle.steps.specs.Offers.{inserts}
use Rattle.steps.specs.Steps.{Outcome, outcome, tally_of, after, step_checks, step_in}
use Rattle.steps.specs.Runs.{Progress, begun, added, ran, kind_in, agent_in, number_in}
use Rattle.offering.specs.Passing.{TallyWithin}
use Rattle.machine.specs.declared.Totals.{Totals}
use Rattle.machine.specs.Answers.{totals_of}
use Rattle.machine.specs.Running.{TotalsWithin}

-- WHAT IS REPORTED IS SMALL, with one step more
added_within : (n i : ℕ) (p : Progress) (o : Outcome) → TotalsWithin n (totals_of p) → TallyWithin 1 o.tally → TotalsWithin (suc n) (totals_of (added i p o))
added_within n i p o w l = by o.check
  where
    sums : TallyWithin (suc n) (add_tally p.tally o.tally)
    sums = record { added = omega (arith, w.tally.added, l.added); replaced = omega (arith, w.tally.replaced, l.replaced) }

    by : (c : Check) → TotalsWithin (suc n) (totals_of (added i p (record { check = c; tally = o.tally; state = o.state })))
    by passes = record { done = omega (arith, w.done); refused = omega (arith, w.refused); tally = sums }
    by (refuses number place) = record { done = omega (arith, w.done); refused = omega (arith, w.refused); tally = sums }

-- what a refused call counts, and a done one
pub none_within : {n : ℕ} → TallyWithin n no_tally
none_within = record { added = omega arith; replaced = omega arith }

pub outcome_within : (was : List ℕ) (counted : Tally) (s : List ℕ) → TallyWithin 1 counted → (c : Check) → TallyWithin 1 (outcome c was counted s).tally
unfolding outcome
outcome_within was counted s w passes = w
outcome_within was counted s w (refuses n place) = none_within

-- a step counts each agent at most once
module _ (t : Table) (few : t.sizes.agents ≤ agent_limit) where
  pub tally_within : (was : List ℕ) (kind x number : ℕ) → TallyWithin 1 (tally_of t was kind x number)
  tally_within was zero x number = none_within
  tally_within was (suc kind) x number =
      let rule : ℕ → Insertion = inserts t was x number true in
      record {
        added = omega (arith, how_many_bound (λ (y : ℕ). is_add (rule y)) t.sizes.agents);
        replaced = omega (arith, how_many_bound (λ (y : ℕ). is_update (rule y)) t.sizes.agents);
      }

  pub step_within : (was : List ℕ) (kind x number : ℕ) → TallyWithin 1 (step_in t was kind x number).tally
  unfolding step_in
  step_within was kind x number = outcome_within was _ (after t was kind x number) (tally_within was kind x number) (first_of (step_checks t was kind x number))

  -- and a run counts each step once
  pub ran_within : (schedule was answers : List ℕ) (n : ℕ) → TotalsWithin n (totals_of (ran t schedule n (begun was answers)))
  unfolding ran for_each
  ran_within schedule was answers zero = record { done = omega arith; refused = omega arith; tally = none_within }
  ran_within schedule was answers (suc n) =
      let p : Progress = ran t schedule n (begun was answers) in
      added_within n n p (step_in t p.state (kind_in schedule n) (agent_in schedule n) (number_in schedule n)) (ran_within schedule was answers n)
      (step_within p.state (kind_in schedule n) (agent_in schedule n) (number_in schedule n))

-- totals of fewer steps
pub within_more : (c : Totals) (m n : ℕ) → m ≤ n → TotalsWithin m c → TotalsWithin n c
within_more c m n l w =
    record {
      done = omega (arith, w.done);
      refused = omega (arith, w.refused);
      tally = record { added = omega (arith, w.tally.added); replaced = omega (arith, w.tally.replaced) };
    }
