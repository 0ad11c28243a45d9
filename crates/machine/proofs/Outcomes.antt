-- What is found of a step, by its checks, and what is then answered.
-- Assumes nothing.
use Rattle.std.proofs.Common.{ℕ, ◌<◌, Bool, true, false, not, cond, ◌≡◌, refl, sym, ap, subst, ◌∙◌, List, [], ◌∷◌, Result, Ok, Err, get_or}
use Rattle.std.specs.Prelude.{MatchResult, IsOkAnd}
use Rattle.basis.specs.KeySets.{has}
use Rattle.table.specs.declared.refusals.Refused.{Refused}
use Rattle.table.specs.declared.refusals.Refused.TheVariants.{StepOutOfRange, KeyNotInSet}
use Rattle.table.specs.Checks.{Check, passes, refuses, refuse_if, first_of, number_of, place_of}
use Rattle.table.specs.Tables.{Table}
use Rattle.table.specs.Refusals.{check_of}
use Rattle.table.proofs.Checks.{first_refuses, first_later, first_both, none_passes}
use Rattle.table.proofs.Refusing.{refuses_so}
use Rattle.state.specs.Layout.{zc_at, zp_at}
use Rattle.state.specs.WellFormed.{Proper}
use Rattle.steps.specs.Acts.{act_checks, chosen, acted}
use Rattle.steps.specs.declared.Tally.{Tally}
use Rattle.steps.specs.Tallies.{no_tally}
use Rattle.steps.specs.Steps.{Outcome, refused, outcome, out_of_range, own_checks, tally_of, after, step_in}
use Rattle.steps.proofs.Steps.{outcome_done, outcome_refused}
use Rattle.judging.specs.declared.Allowed.{Allowed}
use Rattle.judging.specs.Judging.{Judges}
use Rattle.offering.specs.Passing.{Passing}
use Rattle.machine.specs.declared.checking.Planned.{Planned}
use Rattle.machine.specs.declared.checking.Planned.TheVariants.{Act, Offer}
use Rattle.machine.specs.declared.requests.Kind.{Kind}
use Rattle.machine.specs.declared.requests.Request.{Request}
use Rattle.machine.specs.Answers.{Steps}
use Rattle.machine.specs.Requests.{byte_of, InRange, step_asked}
use Rattle.machine.specs.Stepping.{own_step, stopped, into, offer_kind, judged_offer, finished, Finishes, StepJudged}

-- REFUSED
pub refused_so : (e : Refused) (was : List ℕ) → refused (number_of (check_of e)) (place_of (check_of e)) was ≡ stopped e was
refused_so e was = ap (λ (c : Check). record { check = c; tally = no_tally; state = was }) (sym (refuses_so e))

pub outcome_stopped : (was : List ℕ) (tally : Tally) (s : List ℕ) (c : Check) (e : Refused) → c ≡ check_of e → outcome c was tally s ≡ stopped e was
outcome_stopped was tally s c e h = outcome_refused was tally s c (h ∙ refuses_so e) ∙ refused_so e was

-- JUDGED
module _ (t : Table) (was : List ℕ) (q : Request) where
  abbrev own : ℕ → Outcome
  own kind = own_step t was kind q.agent q.number

  pub act_judged : Proper t was → q.agent < t.sizes.agents → (r : Result Allowed Refused) → Judges t was q.agent q.number r
      → (s : Result Planned Refused) → MatchResult r (λ a. IsOkAnd s (λ p. p ≡ Act a)) (λ e. s ≡ Err e) → StepJudged t was q (own 0) s
  act_judged proper there (Ok a) j (Ok p) e =
      rw e (outcome_done was no_tally (acted t was q.agent (chosen t was q.agent q.number)) (first_of (act_checks t was q.agent q.number)) j.0, (proper, there, j))
  act_judged proper there (Ok a) j (Err d) e = absurd e
  act_judged proper there (Err d) j s e =
      rw e (outcome_stopped was no_tally (acted t was q.agent (chosen t was q.agent q.number)) (first_of (act_checks t was q.agent q.number)) d j)

  module _ (confirming : Bool) where
    abbrev waits : Bool
    waits = has (get_or was (cond confirming (zc_at q.agent) (zp_at q.agent)) 0) q.number

    offer_own : own (offer_kind confirming)
        ≡ outcome (first_of (refuse_if 18 (not waits) ∷ [])) was (tally_of t was (offer_kind confirming) q.agent q.number) (after t was (offer_kind confirming) q.agent q.number)
    offer_own = by confirming
      where
        by : (b : Bool) → own (offer_kind b)
            ≡ outcome (first_of (refuse_if 18 (not (has (get_or was (cond b (zc_at q.agent) (zp_at q.agent)) 0) q.number)) ∷ [])) was
            (tally_of t was (offer_kind b) q.agent q.number) (after t was (offer_kind b) q.agent q.number)
        by true = refl
        by false = refl

    pub offer_judged : Passing t was q.agent q.number → {s : Result Planned Refused} → s ≡ judged_offer was q.agent q.number confirming → StepJudged t was q (own (offer_kind confirming)) s
    offer_judged p e = rw e (by waits refl)
      where
        by : (b : Bool) → waits ≡ b → StepJudged t was q (own (offer_kind confirming)) (cond b (Ok (Offer confirming)) (Err KeyNotInSet))
        by true h = (offer_own ∙ outcome_done was _ _ _ (first_both (refuse_if 18 (not waits)) [] (ap not h) none_passes), p)
        by false h = offer_own ∙ outcome_stopped was _ _ _ KeyNotInSet (first_refuses (refuse_if 18 (not waits)) [] (ap not h))

  -- by 10, and then as its kind is
  abbrev out : Bool
  out = out_of_range t q.kind q.agent q.number

  pub step_out : out ≡ true → StepJudged t was q (step_asked t was q) (Err StepOutOfRange)
  unfolding step_in
  step_out e =
      outcome_stopped was (tally_of t was q.kind q.agent q.number) (after t was q.kind q.agent q.number) _ StepOutOfRange
      (first_refuses (refuse_if 10 out) (own_checks t was q.kind q.agent q.number) e)

  own_kind : (kind : Kind) → InRange t q (Ok kind) → step_asked t was q ≡ own (byte_of kind)
  unfolding step_in
  own_kind kind r =
      ap (λ c. outcome c was (tally_of t was q.kind q.agent q.number) (after t was q.kind q.agent q.number))
      (first_later (refuse_if 10 out) (own_checks t was q.kind q.agent q.number) r.0)
      ∙ ap own (sym r.1)

  pub step_own : (kind : Kind) → InRange t q (Ok kind) → (s : Result Planned Refused) → StepJudged t was q (own (byte_of kind)) s → StepJudged t was q (step_asked t was q) s
  step_own kind r s j = subst (λ (o : Outcome). StepJudged t was q o s) (sym (own_kind kind r)) j

-- DONE, on the state that was judged or on a copy of it
finished_passes : (t : Table) (s : List ℕ) (q : Request) (p : Planned) → (finished t s q p).check ≡ passes
finished_passes t s q (Act allowed) = refl
finished_passes t s q (Offer confirming) = refl

pub steps_finished : (t : Table) (s : List ℕ) (q : Request) (p : Planned) {o : Outcome} → o ≡ finished t s q p
    → {n : Tally} {u : List ℕ} → Finishes t s q p n u → Steps o (Ok n) u
steps_finished t s q p e f = rw e (record { check = sym (finished_passes t s q p); tally = f.tally; state = f.state })

pub into_finished : (t : Table) (s came : List ℕ) (q : Request) (p : Planned) {o : Outcome} → o ≡ finished t s q p → into came o ≡ finished t s q p
unfolding outcome
into_finished t s came q p e = rw (e, outcome_done came (finished t s q p).tally (finished t s q p).state _ (finished_passes t s q p)) (by p)
  where
    by : (p : Planned) → record { check = passes; tally = (finished t s q p).tally; state = (finished t s q p).state } ≡ finished t s q p
    by (Act allowed) = refl
    by (Offer confirming) = refl

-- REFUSED, nothing is written
pub steps_stopped : {o : Outcome} (e : Refused) (was : List ℕ) → o ≡ stopped e was → Steps o (Err e) was
steps_stopped e was h = rw h (record { check = refl; tally = refl; state = refl })

pub into_stopped : (e : Refused) (was came : List ℕ) {o : Outcome} → o ≡ stopped e was → into came o ≡ stopped e came
into_stopped e was came h = rw h (outcome_stopped came no_tally was (check_of e) e refl)

-- INTO A SECOND BUFFER goes what is into the first, by the same check
pub into_outcome : (next was : List ℕ) (tally : Tally) (s : List ℕ) (c : Check) → into next (outcome c was tally s) ≡ outcome c next tally s
unfolding outcome
into_outcome next was tally s passes = refl
into_outcome next was tally s (refuses number place) = refl
