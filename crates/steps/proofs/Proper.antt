-- Load, step and run keep states well formed, of the right length, and of words of 32 bits: checks that have passed pass of every state after.
-- Assumes nothing.
use Prim.Native.Nat.{ℕ, zero, suc, ◌+◌, ◌<◌}
use mathlib.Core.Bool.{Bool, true, false}
use mathlib.Core.Path.{◌≡◌, refl}
use mathlib.Core.List.{List, ◌∷◌}
use native.Mathlib.Omega.{arith}
use lib.ListN.{length, get_or}
use borrow.Author.Tests.{eqb-true, eq-eqb}
use lib.Seq.{get_or-drop}
use Rattle.basis.specs.KeySets.{has}
use Rattle.basis.proofs.Numbers.{for_each_keeps}
use Rattle.table.specs.Checks.{Check, passes, refuses, refuse_if, first_of}
use Rattle.table.specs.Tables.{Table, sizes_of, table_of}
use Rattle.table.specs.Sound.{Limits, Sound}
use Rattle.table.proofs.Checks.{first_passes}
use Rattle.table.proofs.Promises.{start_process}
use Rattle.term.specs.Accepted.{Acceptable}
use Rattle.term.proofs.Acceptance.{passes_accepted}
use Rattle.state.specs.Layout.{state_words, is_whole, drop_key}
use Rattle.state.specs.WellFormed.{loaded, Words}
use Rattle.state.specs.Entries.{clock_of}
use Rattle.state.proofs.Places.{KeySet, Zc, Zp, Waits, place_at}
use Rattle.state.proofs.Frames.{word_at}
use Rattle.state.specs.Formed.{ProperFacts}
use Rattle.state.proofs.Formed.{sets_of, well_formed_read, well_formed_test}
use Rattle.state.proofs.Load.{loaded_proper}
use Rattle.steps.specs.Acts.{chosen, act_checks, acted}
use Rattle.steps.specs.Offers.{offered}
use Rattle.steps.specs.Runs.{Progress, ran, kind_in, agent_in, number_in, added}
use Rattle.term.specs.Acceptance.{table_checks}
use Rattle.steps.specs.Steps.{outcome, out_of_range, own_checks, after, tally_of, step_in, state_checks}
use Rattle.steps.specs.Refusals.{InRange}
use Rattle.steps.proofs.Steps.{in_range_lem, act_able, propagates, confirms, state_checks_lem}
use Rattle.steps.proofs.Acts.{chosen_inside}
use Rattle.steps.proofs.Keep.{dropped_proper, acted_proper}

-- STEPS
module _ (t : Table) (sound : Sound t) (bytes : (i : ℕ) → get_or t.operands i 0 < 256) (was : List ℕ) (proper : ProperFacts t was) where
  bounds : Limits t.sizes
  bounds = sound.shaped.limits

  act_proper : (x c : ℕ) → x < t.sizes.agents → first_of (act_checks t was x c) ≡ passes → ProperFacts t (acted t was x (chosen t was x c))
  act_proper x c there e =
      let a = (act_able t was x c).0 e in
      acted_proper t sound bytes was proper x there (chosen t was x c)
      (chosen_inside t was x sound (proper.formed.formed.residuals x there).over c a.there) a.room a.short

  -- an offer of a key in one of x's sets
  offer_proper : (z : KeySet) (counts confirming : Bool) (x k : ℕ) → x < t.sizes.agents → k < t.sizes.stigmergy → has (word_at was (Waits z x)) k ≡ true
      → ProperFacts t (drop_key (place_at (Waits z x)) k (offered t was x k counts confirming t.sizes.agents))
  offer_proper z counts confirming x k there key e = dropped_proper t bounds was proper x k there key ((sets_of t (clock_of was) was proper.formed.formed z x there).entered k (omega arith) e) counts confirming z

  after_proper : (kind x number : ℕ) → InRange t kind x number → first_of (own_checks t was kind x number) ≡ passes → ProperFacts t (after t was kind x number)
  after_proper zero x c r e = act_proper x c r.agent_below e
  after_proper (suc zero) x k r e = offer_proper Zp true false x k r.agent_below (r.key_below (omega arith)) ((propagates t was x k).0 e)
  after_proper (suc (suc kind)) x k r e = offer_proper Zc true true x k r.agent_below (r.key_below (omega arith)) ((confirms t was x k).0 e)

  -- a step, done or refused
  pub step_proper : (kind x number : ℕ) → ProperFacts t (step_in t was kind x number).state
  unfolding step_in outcome
  step_proper kind x number = by (first_of (refuse_if 10 (out_of_range t kind x number) ∷ own_checks t was kind x number)) refl
    where
      by : (c : Check) → first_of (refuse_if 10 (out_of_range t kind x number) ∷ own_checks t was kind x number) ≡ c
          → ProperFacts t (outcome c was (tally_of t was kind x number) (after t was kind x number)).state
      by passes e = let r = first_passes (refuse_if 10 (out_of_range t kind x number)) (own_checks t was kind x number) e in
          after_proper kind x number ((in_range_lem t was kind x number).0 (r.0)) r.1
      by (refuses n place) e = proper

-- THE STEPS OF A RUN
pub ran_proper : (t : Table) → Sound t → ((i : ℕ) → get_or t.operands i 0 < 256) → (schedule : List ℕ) (n : ℕ) (start : Progress)
    → ProperFacts t start.state → ProperFacts t (ran t schedule n start).state
unfolding ran
ran_proper t sound bytes schedule n start h =
    for_each_keeps (λ (i : ℕ) (p : Progress). added i p (step_in t p.state (kind_in schedule i) (agent_in schedule i) (number_in schedule i)))
    (λ (p : Progress). ProperFacts t p.state) n
    (λ i l p q. step_proper t sound bytes p.state q (kind_in schedule i) (agent_in schedule i) (number_in schedule i)) start h

-- CALLS. A load that is done
pub load_proper : (bytes : List ℕ) (fits : Bool) (scratch : ℕ) → first_of (table_checks bytes fits scratch) ≡ passes → ProperFacts (table_of bytes) (loaded (table_of bytes))
load_proper bytes fits scratch e =
    let sound = (passes_accepted bytes fits scratch e).table.sound in
    loaded_proper (table_of bytes) sound.shaped.limits (start_process (table_of bytes) sound)

-- checks 1 to 9 pass of an accepted table and a proper state
pub proper_passes : (bytes : List ℕ) (fits : Bool) (scratch : ℕ) → Acceptable bytes fits scratch → (s : List ℕ) → ProperFacts (table_of bytes) s
    → first_of (state_checks bytes s scratch) ≡ passes
proper_passes bytes fits scratch a s p =
    (state_checks_lem bytes s scratch).1
    (record { size = a.size; fit = eq-eqb (length s) state_words p.whole; scratch = a.scratch; table = a.table }, well_formed_test (table_of bytes) a.table.sound.shaped.limits s (omega (arith, p.whole)) p.formed)

-- where they pass, the state is proper, and they pass of the state after any step
module _ (bytes : List ℕ) (narrow : (i : ℕ) → get_or bytes i 0 < 256) (was : List ℕ) (small : Words was) (scratch : ℕ) (e : first_of (state_checks bytes was scratch) ≡ passes) where
  abbrev table : Table
  table = table_of bytes

  pub checks_accepted : Acceptable bytes (is_whole was) scratch
  checks_accepted = ((state_checks_lem bytes was scratch).0 e).0

  pub checks_proper : ProperFacts (table_of bytes) was
  checks_proper =
      let w = (state_checks_lem bytes was scratch).0 e in
      let whole = eqb-true (length was) state_words w.0.fit in
      record { whole = whole; small = small; formed = well_formed_read table w.0.table.sound.shaped.limits was (omega (arith, whole)) w.1 }

  operands_narrow : (i : ℕ) → get_or (table_of bytes).operands i 0 < 256
  operands_narrow i = rw (get_or-drop (12 + (sizes_of bytes).nodes) bytes i 0) (narrow (12 + (sizes_of bytes).nodes + i))

  pub step_checked : (kind x number : ℕ) → ProperFacts (table_of bytes) (step_in (table_of bytes) was kind x number).state
  step_checked = step_proper table checks_accepted.table.sound operands_narrow was checks_proper
