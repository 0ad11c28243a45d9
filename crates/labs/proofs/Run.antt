-- A RUN comes to what its steps come to as single calls: table and state are checked once, and every step leaves a state that passes again.
-- Assumes nothing.
use Prim.Native.Nat.{ℕ, zero, suc, ◌+◌, ◌<◌, ◌≤◌}
use mathlib.Core.Bool.{cond, not}
use mathlib.Core.Logic.{⊎_elim}
use mathlib.Core.Path.{◌≡◌, refl, sym, ap, subst, ◌∙◌}
use mathlib.Core.List.{List, [], ◌∷◌}
use native.Mathlib.Omega.{arith}
use lib.ListN.{length, length-set}
use lib.Seq.{get_or-set_same, get_or-set_other}
use Rattle.basis.specs.Numbers.{how_many, for_each}
use Rattle.basis.proofs.Tests.{same_or_other}
use Rattle.agreement.proofs.Machine.{after_steps_append}
use Rattle.table.specs.Checks.{Check, passes, refuses, passed, first_of, number_of}
use Rattle.table.specs.Tables.{Table, table_of}
use Rattle.table.proofs.Checks.{append_passes, append_both}
use Rattle.state.specs.Layout.{is_whole}
use Rattle.state.specs.WellFormed.{Words}
use Rattle.state.specs.Formed.{ProperFacts}
use Rattle.steps.specs.Steps.{Outcome, state_checks, step_in}
use Rattle.steps.specs.Runs.{Progress, begun, added, ran, kind_in, agent_in, number_in, steps_of, schedule_checks, run_of}
use Rattle.steps.proofs.Steps.{step_in_lem}
use Rattle.steps.proofs.Schedules.{schedule_checks_lem}
use Rattle.steps.proofs.Proper.{checks_accepted, checks_proper, step_checked, proper_passes}
use Rattle.labs.specs.Demand2.{Bytes}
use Rattle.labs.specs.Lists.{next}
use Rattle.labs.specs.Run.{step_at, first_steps, state_before, outcome_at, InTurn, Run}

-- a step is done or refused
one_counted : (c : Check) → cond (passed c) 1 0 + cond (passed c) 0 1 ≡ 1
one_counted passes = refl
one_counted (refuses number place) = refl

refused_counted : (c : Check) → ◌≡◌ {A = ℕ} (cond (passed c) 0 1) (cond (not (passed c)) 1 0)
refused_counted passes = refl
refused_counted (refuses number place) = refl

module _ (bytes s : List ℕ) (scratch : ℕ) (schedule answers : List ℕ) where
  abbrev t : Table
  t = table_of bytes

  abbrev before : ℕ → List ℕ
  before n = state_before bytes s scratch schedule n

  abbrev at : ℕ → Outcome
  at n = outcome_at bytes s scratch schedule n

  before_next : (n : ℕ) → (at n).state ≡ before (suc n)
  before_next n = sym (after_steps_append (next bytes) s (first_steps schedule scratch n) (step_at schedule scratch n ∷ []))

  -- one step more
  runs_more : (n : ℕ) (p : Progress) → n < length answers → InTurn bytes s scratch schedule answers n p → InTurn bytes s scratch schedule answers (suc n) (added n p (at n))
  unfolding how_many for_each
  runs_more n p l r = record {
    state = before_next n;
    answered = λ i h.
        ⊎_elim (λ (e : i ≡ n). rw e (get_or-set_same p.answers n byte 0 (omega (arith, r.same_length))))
        (λ (e : i ≡ n → ⊥). get_or-set_other p.answers n i byte 0 e ∙ r.answered i (omega (arith, e))) (same_or_other i n);
    past = λ i h. get_or-set_other p.answers n i byte 0 (λ e. omega arith) ∙ r.past i (omega arith);
    same_length = length-set p.answers n byte ∙ r.same_length;
    done = ap (λ (m : ℕ). m + cond (passed (at n).check) 1 0) r.done;
    refused = ap (λ (m : ℕ). p.refused + m) (refused_counted (at n).check) ∙ ap (λ (m : ℕ). m + cond (not (passed (at n).check)) 1 0) r.refused;
    added = ap (λ (m : ℕ). m + (at n).tally.added) r.added;
    replaced = ap (λ (m : ℕ). m + (at n).tally.replaced) r.replaced;
    total = omega (arith, r.total, one_counted (at n).check);
  }
    where
      byte : ℕ
      byte = number_of (at n).check

  module _ (small : Bytes bytes) (narrow : Words s) (pass : first_of (state_checks bytes s scratch) ≡ passes) where
    -- the checks that have passed pass of every proper state, and every step leaves one
    passing : (u : List ℕ) → ProperFacts (table_of bytes) u → first_of (state_checks bytes u scratch) ≡ passes
    passing = proper_passes bytes (is_whole s) scratch (checks_accepted bytes small s narrow scratch pass)

    step_at_lem : (n : ℕ) → ProperFacts (table_of bytes) (before n) → at n ≡ step_in (table_of bytes) (before n) (kind_in schedule n) (agent_in schedule n) (number_in schedule n)
    step_at_lem n h = step_in_lem bytes (before n) scratch (kind_in schedule n) (agent_in schedule n) (number_in schedule n) (passing (before n) h)

    proper : (n : ℕ) → ProperFacts (table_of bytes) (before n)
    proper zero = checks_proper bytes small s narrow scratch pass
    proper (suc n) =
        let h = proper n in
        subst (ProperFacts t) (ap (λ (o : Outcome). o.state) (sym (step_at_lem n h)) ∙ before_next n)
        (step_checked bytes small (before n) h.small scratch (passing (before n) h) (kind_in schedule n) (agent_in schedule n) (number_in schedule n))

    runs : (n : ℕ) → n ≤ length answers → InTurn bytes s scratch schedule answers n (ran t schedule n (begun s answers))
    unfolding ran for_each how_many
    runs zero l = record {
      state = refl;
      answered = λ i h. absurd (omega arith);
      past = λ i h. refl;
      same_length = refl;
      done = refl;
      refused = refl;
      added = refl;
      replaced = refl;
      total = refl;
    }
    runs (suc n) l =
        let r = runs n (omega arith) in
        let p : Progress = ran t schedule n (begun s answers) in
        let e : at n ≡ step_in t p.state (kind_in schedule n) (agent_in schedule n) (number_in schedule n) =
        step_at_lem n (proper n) ∙ ap (λ (u : List ℕ). step_in t u (kind_in schedule n) (agent_in schedule n) (number_in schedule n)) (sym r.state) in
        subst (λ (o : Outcome). InTurn bytes s scratch schedule answers (suc n) (added n p o)) e (runs_more n p (omega arith) r)

  pub run_is : Bytes bytes → Words s → Run bytes s scratch schedule answers
  unfolding run_of
  run_is small narrow = record {
    run_when = (
      λ e. let w = append_passes (state_checks bytes s scratch) (schedule_checks schedule answers) e in
          let c = (schedule_checks_lem schedule answers).0 w.1 in (w.0, c.0, c.1, c.2),
      λ p. append_both (state_checks bytes s scratch) (schedule_checks schedule answers) p.0 ((schedule_checks_lem schedule answers).1 (p.1, p.2, p.3)),
    );
    run_done = λ e.
        let w = append_passes (state_checks bytes s scratch) (schedule_checks schedule answers) e in
        rw (run_of, e) (runs small narrow w.0 (steps_of schedule) ((schedule_checks_lem schedule answers).0 w.1).2);
    run_refused = λ number place e. rw (run_of, e);
  }
