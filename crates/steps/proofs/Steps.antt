-- When load and a step are done, and what they come to: what the checks leave, as facts.
-- Assumes nothing.
use Prim.Native.Nat.{ℕ, ◌<◌, ◌≤◌}
use mathlib.Core.Bool.{Bool, true, false, not, ◌&&◌}
use mathlib.Core.Path.{◌≡◌, refl, sym, ap, ◌∙◌}
use mathlib.Core.Logic.{◌↔◌, ⊎_elim}
use mathlib.Core.List.{List, [], ◌++◌}
use lib.Dec.{eqb, ltb, leb}
use lib.ListN.{length}
use borrow.Author.Tests.{ltb-true, ltb-false, leb-false, eqb-true, lt-ltb, le-ltb, lt-leb, not-false}
use Rattle.basis.specs.KeySets.{has}
use Rattle.basis.proofs.Tests.{not_both, and_left, and_right, and_fails, or_neither}
use Rattle.table.specs.Checks.{Check, passes, refuses, Refusal, refuse_if, first_of}
use Rattle.table.specs.Tables.{Table, table_of}
use Rattle.table.proofs.Checks.{first_passes, first_both, none_passes, append_later, append_refuses, append_passes, append_both}
use Rattle.term.specs.Terms.{words}
use Rattle.term.specs.Processes.{all_few}
use Rattle.term.specs.Accepted.{Acceptable}
use Rattle.term.proofs.Acceptance.{passes_accepted, accepted_passes}
use Rattle.state.specs.Layout.{state_words, is_whole, residual_words, zc_of, zp_of, term_in}
use Rattle.state.specs.Entries.{clock_of}
use Rattle.state.specs.WellFormed.{well_formed, loaded}
use Rattle.steps.specs.Acts.{choices, chosen, all_hold, lacks_value, writes_entry, act_checks}
use Rattle.term.specs.Acceptance.{table_checks}
use Rattle.steps.specs.declared.Tally.{Tally}
use Rattle.steps.specs.Tallies.{no_tally}
use Rattle.steps.specs.Refusals.{InRange}
use Rattle.steps.specs.Steps.{done, refused, outcome, load_of, out_of_range, own_checks, tally_of, after, step_checks, step_in, state_checks_with, state_checks, step_of}

module _ (was : List ℕ) (tally : Tally) (s : List ℕ) where
  pub outcome_check : (c : Check) → (outcome c was tally s).check ≡ c
  unfolding outcome
  outcome_check c = refl

  pub outcome_done : (c : Check) → c ≡ passes → outcome c was tally s ≡ done tally s
  unfolding outcome
  outcome_done c e = rw e

  pub outcome_refused : (c : Check) {number place : ℕ} → c ≡ refuses number place → outcome c was tally s ≡ refused number place was
  unfolding outcome
  outcome_refused c e = rw e

-- LOAD is done where the table is accepted for the lent words
module _ (bytes was : List ℕ) (scratch : ℕ) where
  pub load_accepted : (load_of bytes was scratch).check ≡ passes → Acceptable bytes (is_whole was) scratch
  load_accepted e = passes_accepted bytes (is_whole was) scratch (sym (outcome_check was no_tally (loaded (table_of bytes)) (first_of (table_checks bytes (is_whole was) scratch))) ∙ e)

  pub accepted_load : Acceptable bytes (is_whole was) scratch → load_of bytes was scratch ≡ done no_tally (loaded (table_of bytes))
  accepted_load a = outcome_done was no_tally (loaded (table_of bytes)) (first_of (table_checks bytes (is_whole was) scratch)) (accepted_passes bytes (is_whole was) scratch a)

-- 10 has passed
module _ (t : Table) (was : List ℕ) (kind x number : ℕ) where
  pub in_range_lem : out_of_range t kind x number ≡ false ↔ InRange t kind x number
  in_range_lem = (there, back)
    where
      A : ℕ
      A = t.sizes.agents

      S : ℕ
      S = t.sizes.stigmergy

      there : out_of_range t kind x number ≡ false → InRange t kind x number
      there e =
          let v = or_neither (not (ltb kind 3)) _ e in
          let w = or_neither (not (ltb x A)) (ltb 0 kind && not (ltb number S)) v.1 in
          record {
            kind_below = ltb-true kind 3 (not-false (ltb kind 3) v.0);
            agent_below = ltb-true x A (not-false (ltb x A) w.0);
            key_below = λ h. ⊎_elim (λ (f : ltb 0 kind ≡ false). absurd (not_both (lt-ltb 0 kind h) f))
                (λ (f : not (ltb number S) ≡ false). ltb-true number S (not-false (ltb number S) f)) (and_fails (ltb 0 kind) (not (ltb number S)) w.1);
          }

      key : InRange t kind x number → (b : Bool) → ltb 0 kind ≡ b → (b && not (ltb number S)) ≡ false
      key r true e = rw (lt-ltb number S (r.key_below (ltb-true 0 kind e)))
      key r false e = refl

      back : InRange t kind x number → out_of_range t kind x number ≡ false
      back r = rw (lt-ltb kind 3 r.kind_below, lt-ltb x A r.agent_below) (key r (ltb 0 kind) refl)

-- 11 to 17 have passed, of choice c
pub record Able (t : Table) (was : List ℕ) (x c : ℕ) : Type 0 where
  pub confirmed : zc_of was x ≡ 0
  pub propagated : zp_of was x ≡ 0
  pub few : all_few t (term_in was x) ≡ true
  pub there : c < length (choices t was x)
  pub guards : all_hold t was x (chosen t was x c).guards ≡ true
  pub present : lacks_value t was x (chosen t was x c).label ≡ false
  pub room : writes_entry t (chosen t was x c).label ≡ true → clock_of was < 65535
  pub short : length (words (chosen t was x c).leaving) ≤ residual_words

module _ (t : Table) (was : List ℕ) (x : ℕ) where
  pub act_able : (c : ℕ) → first_of (act_checks t was x c) ≡ passes ↔ Able t was x c
  act_able c = (there, back)
    where
      idle : Bool
      idle = eqb (zc_of was x) 0 && eqb (zp_of was x) 0

      holds : Bool
      holds = all_hold t was x (chosen t was x c).guards

      lacks : Bool
      lacks = lacks_value t was x (chosen t was x c).label

      writes : Bool
      writes = writes_entry t (chosen t was x c).label

      long : ℕ
      long = length (words (chosen t was x c).leaving)

      there : first_of (act_checks t was x c) ≡ passes → Able t was x c
      there e =
          let e11 = first_passes (refuse_if 11 (not idle)) _ e in
          let e12 = first_passes (refuse_if 12 (not (all_few t (term_in was x)))) _ e11.1 in
          let e13 = first_passes (refuse_if 13 (leb (length (choices t was x)) c)) _ e12.1 in
          let e14 = first_passes (refuse_if 14 (not holds)) _ e13.1 in
          let e15 = first_passes (refuse_if 15 lacks) _ e14.1 in
          let e16 = first_passes (refuse_if 16 (writes && leb 65535 (clock_of was))) _ e15.1 in
          let e17 = first_passes (refuse_if 17 (ltb residual_words long)) [] e16.1 in
          let still = not-false idle e11.0 in
          record {
            confirmed = eqb-true (zc_of was x) 0 (and_left (eqb (zc_of was x) 0) (eqb (zp_of was x) 0) still);
            propagated = eqb-true (zp_of was x) 0 (and_right (eqb (zc_of was x) 0) (eqb (zp_of was x) 0) still);
            few = not-false (all_few t (term_in was x)) e12.0;
            there = leb-false (length (choices t was x)) c e13.0;
            guards = not-false holds e14.0;
            present = e15.0;
            room = λ w. leb-false 65535 (clock_of was) (sym (ap (λ b. b && leb 65535 (clock_of was)) w) ∙ e16.0);
            short = ltb-false residual_words long e17.0;
          }

      full : Able t was x c → (b : Bool) → writes ≡ b → (b && leb 65535 (clock_of was)) ≡ false
      full a true w = lt-leb 65535 (clock_of was) (a.room w)
      full a false w = refl

      back : Able t was x c → first_of (act_checks t was x c) ≡ passes
      back a =
          first_both (refuse_if 11 (not idle)) _ (rw (a.confirmed, a.propagated)) (
          first_both (refuse_if 12 (not (all_few t (term_in was x)))) _ (ap not a.few) (
          first_both (refuse_if 13 (leb (length (choices t was x)) c)) _ (lt-leb (length (choices t was x)) c a.there) (
          first_both (refuse_if 14 (not holds)) _ (ap not a.guards) (
          first_both (refuse_if 15 lacks) _ a.present (
          first_both (refuse_if 16 (writes && leb 65535 (clock_of was))) _ (full a writes refl) (
          first_both (refuse_if 17 (ltb residual_words long)) [] (le-ltb residual_words long a.short) none_passes))))))

  -- 18 has passed
  pub propagates : (k : ℕ) → first_of (own_checks t was 1 x k) ≡ passes ↔ (has (zp_of was x) k ≡ true)
  propagates k = (
    λ e. not-false (has (zp_of was x) k) (first_passes (refuse_if 18 (not (has (zp_of was x) k))) [] e).0,
    λ e. first_both (refuse_if 18 (not (has (zp_of was x) k))) [] (ap not e) none_passes,
  )

  pub confirms : (k : ℕ) → first_of (own_checks t was 2 x k) ≡ passes ↔ (has (zc_of was x) k ≡ true)
  confirms k = (
    λ e. not-false (has (zc_of was x) k) (first_passes (refuse_if 18 (not (has (zc_of was x) k))) [] e).0,
    λ e. first_both (refuse_if 18 (not (has (zc_of was x) k))) [] (ap not e) none_passes,
  )

-- A STEP is done where the table is accepted, the state well formed, the step in range, and its own checks have passed
pub record Done (bytes was : List ℕ) (scratch kind x number : ℕ) : Type 0 where
  pub accepted : Acceptable bytes (is_whole was) scratch
  pub whole : length was ≡ state_words
  pub formed : well_formed (table_of bytes) was ≡ true
  pub range : InRange (table_of bytes) kind x number
  pub own : first_of (own_checks (table_of bytes) was kind x number) ≡ passes

-- 1 to 9, of a call with other buffers
module _ (othersFit : Bool) (bytes was : List ℕ) (scratch : ℕ) where
  abbrev whole : Bool
  whole = othersFit && is_whole was

  abbrev formed : Bool
  formed = well_formed (table_of bytes) was

  pub checks_with : first_of (state_checks_with othersFit bytes was scratch) ≡ passes ↔ (Acceptable bytes whole scratch × (formed ≡ true))
  checks_with = (
    λ e. let w = append_passes (table_checks bytes whole scratch) _ e in
        (passes_accepted bytes whole scratch w.0, not-false formed (first_passes (refuse_if 9 (not formed)) [] w.1).0),
    λ p. append_both (table_checks bytes whole scratch) _ (accepted_passes bytes whole scratch p.0) (first_both (refuse_if 9 (not formed)) [] (ap not p.1) none_passes),
  )

module _ (bytes was : List ℕ) (scratch : ℕ) where
  abbrev t : Table
  t = table_of bytes

  pub state_checks_lem : first_of (state_checks bytes was scratch) ≡ passes ↔ (Acceptable bytes (is_whole was) scratch × (well_formed (table_of bytes) was ≡ true))
  state_checks_lem = checks_with true bytes was scratch

  module _ (kind x number : ℕ) where
    abbrev opening : List Refusal
    opening = state_checks bytes was scratch

    abbrev checks : List Refusal
    checks = step_checks t was kind x number

    pub step_check_lem : (step_of bytes was scratch kind x number).check ≡ first_of (opening ++ checks)
    unfolding step_of outcome
    step_check_lem = refl

    -- where 1 to 9 pass it is a step of that table and state; else it is refused
    pub step_in_lem : first_of (state_checks bytes was scratch) ≡ passes → step_of bytes was scratch kind x number ≡ step_in (table_of bytes) was kind x number
    unfolding step_of step_in
    step_in_lem e = ap (λ (c : Check). outcome c was (tally_of t was kind x number) (after t was kind x number)) (append_later opening checks e)

    pub step_stopped : {n place : ℕ} → first_of (state_checks bytes was scratch) ≡ refuses n place → step_of bytes was scratch kind x number ≡ refused n place was
    unfolding step_of
    step_stopped e = outcome_refused was (tally_of t was kind x number) (after t was kind x number) (first_of (opening ++ checks)) (append_refuses opening checks e)

    -- a step that is done has passed all checks
    pub done_step : (step_of bytes was scratch kind x number).check ≡ passes → Done bytes was scratch kind x number
    done_step e =
        let w = append_passes opening checks (sym step_check_lem ∙ e) in
        let p = state_checks_lem.0 w.0 in
        let v = first_passes (refuse_if 10 (out_of_range t kind x number)) (own_checks t was kind x number) w.1 in
        record { accepted = p.0; whole = eqb-true (length was) state_words p.0.fit; formed = p.1; range = (in_range_lem t was kind x number).0 v.0; own = v.1 }

    -- and comes to this
    pub step_done : Done bytes was scratch kind x number
        → step_of bytes was scratch kind x number ≡ done (tally_of (table_of bytes) was kind x number) (after (table_of bytes) was kind x number)
    unfolding step_of
    step_done d =
        outcome_done was (tally_of t was kind x number) (after t was kind x number) (first_of (opening ++ checks))
        (append_both opening checks (state_checks_lem.1 (d.accepted, d.formed))
        (first_both (refuse_if 10 (out_of_range t kind x number)) (own_checks t was kind x number) ((in_range_lem t was kind x number).1 d.range) d.own))

    -- a refused step leaves the state as it was
    pub step_refused : {n place : ℕ} → (step_of bytes was scratch kind x number).check ≡ refuses n place → step_of bytes was scratch kind x number ≡ refused n place was
    unfolding step_of
    step_refused e = outcome_refused was (tally_of t was kind x number) (after t was kind x number) (first_of (opening ++ checks)) (sym step_check_lem ∙ e)
