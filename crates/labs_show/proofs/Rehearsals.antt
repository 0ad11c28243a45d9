-- What load and then run come to, and that the state of a done run can be printed.
-- Assumes nothing.
use Prim.Native.Nat.{ℕ, ◌+◌, ◌<◌}
use mathlib.Core.Path.{◌≡◌, sym, ap, subst, ◌∙◌}
use mathlib.Core.List.{List}
use native.Mathlib.Omega.{arith}
use lib.ListN.{get_or}
use lib.Seq.{get_or-drop}
use Rattle.table.specs.Checks.{passes, refuses, first_of, number_of, place_of}
use Rattle.table.specs.Tables.{Table, sizes_of, table_of}
use Rattle.table.specs.Sound.{Limits}
use Rattle.state.specs.Layout.{is_whole}
use Rattle.state.specs.WellFormed.{loaded}
use Rattle.state.specs.Formed.{ProperFacts}
use Rattle.term.specs.Acceptance.{table_checks}
use Rattle.steps.specs.Tallies.{no_tally}
use Rattle.steps.specs.Steps.{Outcome, load_of}
use Rattle.steps.specs.Runs.{steps_of, begun, ran, Progress, Rehearsal, run_of}
use Rattle.steps.proofs.Steps.{outcome_check, outcome_refused, load_accepted, accepted_load}
use Rattle.steps.proofs.Proper.{ran_proper, load_proper}
use Rattle.term.proofs.Acceptance.{accepted_passes}
use Rattle.std.specs.Prelude.{Result, Ok, Err}
use Rattle.table.specs.declared.refusals.Refused.{Refused}
use Rattle.table.specs.Refusals.{check_of, result_check}
use Rattle.table.proofs.Refusing.{refuses_so}
use Rattle.machine.specs.declared.Totals.{Totals}
use Rattle.machine.specs.Answers.{Loads, Runs}
use Rattle.lines.specs.Writing.{Fleet}
use Rattle.labs_show.specs.Rehearsal.{rehearsed, Rehearses}

run_passes : (table was : List ℕ) (scratch : ℕ) (schedule answers : List ℕ) → (run_of table was scratch schedule answers).check ≡ passes
    → (run_of table was scratch schedule answers).progress ≡ ran (table_of table) schedule (steps_of schedule) (begun was answers)
unfolding run_of
run_passes table was scratch schedule answers e = rw (run_of, e)

proper_fleet : (t : Table) (s : List ℕ) → Limits t.sizes → ProperFacts t s → Fleet s
proper_fleet t s l p = let f = p.formed.formed.agents in record { blocks = omega (arith, p.whole); agents = omega (arith, l.agents) }

module _ (table schedule was : List ℕ) (scratch : ℕ) (answers : List ℕ) {r : Result (Unit {0}) Refused} {mid : List ℕ} (l : Loads (load_of table was scratch) r mid) where
  load_is : (x : Result (Unit {0}) Refused) → r ≡ x → (load_of table was scratch).check ≡ result_check x
  load_is x e = sym l.check ∙ ap (λ (y : Result (Unit {0}) Refused). result_check y) e

  module _ {x : Unit {0}} (e : r ≡ Ok x) (narrow : (i : ℕ) → get_or table i 0 < 256) where
    passed : (load_of table was scratch).check ≡ passes
    passed = load_is (Ok x) e

    rehearsed_is : rehearsed table schedule was scratch answers ≡ run_of table mid scratch schedule answers
    unfolding rehearsed
    rehearsed_is = rw (rehearsed, passed) (ap (λ (s : List ℕ). run_of table s scratch schedule answers) (sym l.words))

    -- the state after a done run
    ran_fleet : (run_of table mid scratch schedule answers).check ≡ passes → Fleet (run_of table mid scratch schedule answers).progress.state
    ran_fleet f =
        let a = load_accepted table was scratch passed in
        let start : mid ≡ loaded (table_of table) = l.words ∙ ap (λ (o : Outcome). o.state) (accepted_load table was scratch a) in
        subst (λ (p : Progress). Fleet p.state) (sym (run_passes table mid scratch schedule answers f))
        (proper_fleet (table_of table) _ a.table.sound.shaped.limits
        (ran_proper (table_of table) a.table.sound (λ i. rw (get_or-drop (12 + (sizes_of table).nodes) table i 0) (narrow (12 + (sizes_of table).nodes + i)))
        schedule (steps_of schedule) (begun mid answers)
        (subst (λ (s : List ℕ). ProperFacts (table_of table) s) (sym start) (load_proper table (is_whole was) scratch (accepted_passes table (is_whole was) scratch a)))))

    pub loaded_runs : {later : ℕ} → later ≡ scratch → {ran : Result Totals Refused} {after bytes : List ℕ} → Runs (run_of table mid later schedule answers) ran after bytes
        → Rehearses (rehearsed table schedule was scratch answers) ran after bytes
    loaded_runs {later} same {ran} {after} {bytes} h =
        let g = subst (λ (n : ℕ). Runs (run_of table mid n schedule answers) ran after bytes) same h in
        record {
          runs = subst (λ (o : Rehearsal). Runs o ran after bytes) (sym rehearsed_is) g;
          fleet = λ counts f. subst Fleet (sym g.reports.state) (ran_fleet (sym g.check ∙ ap (λ (y : Result Totals Refused). result_check y) f));
        }

  module _ {e : Refused} (refusal : r ≡ Err e) where
    refuses_load : (load_of table was scratch).check ≡ refuses (number_of (check_of e)) (place_of (check_of e))
    refuses_load = load_is (Err e) refusal ∙ refuses_so e

    kept : mid ≡ was
    kept =
        l.words
        ∙ ap (λ (o : Outcome). o.state) (outcome_refused was no_tally (loaded (table_of table)) (first_of (table_checks table (is_whole was) scratch))
        (sym (outcome_check was no_tally (loaded (table_of table)) (first_of (table_checks table (is_whole was) scratch))) ∙ refuses_load))

    pub load_refuses : Rehearses (rehearsed table schedule was scratch answers) (Err e) mid answers
    unfolding rehearsed
    load_refuses =
        let f = refuses_load in
        record {
          runs = record {
            check = rw (rehearsed, f) (refuses_so e);
            reports = record { totals = rw (rehearsed, f); state = rw (rehearsed, f) kept; answers = rw (rehearsed, f) };
          };
          fleet = λ counts d. absurd (let z : ◌≡◌ {A = Result Totals Refused} (Err e) (Ok counts) = d in cc);
        }
