-- Every public call is done, or refused with one of its numbers at the paper's place, and a refusal changes nothing.
-- Assumes nothing.
use Prim.Native.Nat.{ℕ, zero, suc, ◌<◌}
use mathlib.Core.Bool.{Bool, true, false, ◌&&◌}
use mathlib.Core.Path.{◌≡◌, refl, sym, ap, subst, ◌∙◌}
use mathlib.Core.Logic.{◌⊎◌, inl, inr}
use mathlib.Core.List.Memᴰ
use mathlib.Core.List.{List, [], ◌∷◌, ◌++◌}
use native.Mathlib.Omega.{arith}
use lib.Dec.{ltb, eqb}
use borrow.Author.Tests.{ltb-true, le-ltb, eqb-true}
use Rattle.basis.proofs.Tests.{and_left, and_right}
use Rattle.table.specs.Checks.{Check, passes, refuses, Refusal, refuse_if, first_of}
use Rattle.table.specs.Tables.{sizes_of, table_of}
use Rattle.table.proofs.Checks.{first_later, first_refuses, none_passes, append_later, append_refuses}
use Rattle.term.specs.Acceptance.{table_checks}
use Rattle.state.specs.Layout.{is_whole}
use Rattle.state.specs.WellFormed.{loaded}
use Rattle.steps.specs.Tallies.{no_tally}
use Rattle.steps.specs.Steps.{Outcome, refused as refused_at, out_of_range, step_checks, state_checks_with}
use Rattle.steps.specs.Orders.{numbers}
use Rattle.steps.specs.Runs.{begun, schedule_checks, run_of}
use Rattle.steps.specs.Shelves.{is_whole_shelf}
use Rattle.steps.specs.Points.{shelf_check, save_checks, held_checks}
use Rattle.steps.proofs.Steps.{outcome_refused, step_refused}
use Rattle.steps.proofs.Previews.{on_a_copy}
use Rattle.steps.proofs.Points.{kept}
use Rattle.steps.proofs.Orders.{in_order}
use Rattle.theorems.specs.Demand1.{Placed, at_bad_node, at_wrong_key, bad_definition, overfull_node, nowhere}
use Rattle.theorems.specs.Demand1.{Answered, done, refused, step_numbers, AsItCame, Demand1}

-- lines after 7, which have no place
abbrev no_places : List Refusal → Bool
no_places [] = true
no_places (r ∷ rs) = (ltb 7 r.number && eqb r.place 0) && no_places rs

module _ (bytes : List ℕ) (Unchanged : Type 0) where
  -- lines answer with one of their numbers, if each that refuses has the paper's place
  data AllPlaced : List Refusal → Type 0 where
    none : AllPlaced []
    line : {r : Refusal} {rs : List Refusal} → (r.when ≡ true → Placed bytes r.number r.place) → AllPlaced rs → AllPlaced (r ∷ rs)

  one_more : {n : ℕ} {ns : List ℕ} {c : Check} → Answered bytes ns Unchanged c → Answered bytes (n ∷ ns) Unchanged c
  one_more done = done
  one_more (refused m p k) = refused (Memᴰ.tail m) p k

  first_answered : {rs : List Refusal} → AllPlaced rs → ((n place : ℕ) → first_of rs ≡ refuses n place → Unchanged)
      → Answered bytes (numbers rs) Unchanged (first_of rs)
  first_answered none k = subst (Answered bytes [] Unchanged) (sym none_passes) done
  first_answered (line {r = r} {rs = rs} p ps) k = by r.when refl (first_answered ps)
    where
      by : (b : Bool) → r.when ≡ b
          → (((n place : ℕ) → first_of rs ≡ refuses n place → Unchanged) → Answered bytes (numbers rs) Unchanged (first_of rs))
          → Answered bytes (numbers (r ∷ rs)) Unchanged (first_of (r ∷ rs))
      by true d later =
          let e = first_refuses r rs d in
          subst (Answered bytes (numbers (r ∷ rs)) Unchanged) (sym e) (refused (Memᴰ.head refl) (p d) (k r.number r.place e))
      by false d later =
          let e = first_later r rs d in
          subst (Answered bytes (numbers (r ∷ rs)) Unchanged) (sym e) (one_more (later (λ n place f. k n place (e ∙ f))))

  -- the lines of a table, and others after them
  others_placed : (rs : List Refusal) → no_places rs ≡ true → AllPlaced rs
  others_placed [] e = none
  others_placed (r ∷ rs) e =
      let here = and_left (ltb 7 r.number && eqb r.place 0) (no_places rs) e in
      let over : 7 < r.number = ltb-true 7 r.number (and_left (ltb 7 r.number) (eqb r.place 0) here) in
      let zero-place : r.place ≡ 0 = eqb-true r.place 0 (and_right (ltb 7 r.number) (eqb r.place 0) here) in
      line (λ d. subst (Placed bytes r.number) (sym zero-place) (nowhere (inr over)))
      (others_placed rs (and_right (ltb 7 r.number && eqb r.place 0) (no_places rs) e))

  if_placed : (number : ℕ) {b : Bool} {rs : List Refusal} → (number < 4) ⊎ (7 < number) → AllPlaced rs → AllPlaced (refuse_if number b ∷ rs)
  if_placed number h ps = line (λ d. nowhere h) ps

  table_placed : (fits : Bool) (scratch : ℕ) (own : List Refusal) → no_places own ≡ true → AllPlaced (table_checks bytes fits scratch ++ own)
  table_placed fits scratch own e =
      if_placed 1 (inl (omega arith)) (if_placed 2 (inl (omega arith)) (if_placed 3 (inl (omega arith)) (if_placed 8 (inr (omega arith))
      (line (λ d. at_bad_node (ltb-true _ (sizes_of bytes).nodes d))
      (line (λ d. at_wrong_key (ltb-true _ (sizes_of bytes).nodes d))
      (line (λ d. bad_definition (ltb-true _ (sizes_of bytes).definitions d))
      (line (λ d. overfull_node (ltb-true _ (sizes_of bytes).nodes d))
      (others_placed own e))))))))

  -- THE LAW of a call, from its own checks
  answered : {c : Check} (fits : Bool) (scratch : ℕ) (own : List Refusal) → c ≡ first_of (table_checks bytes fits scratch ++ own) → no_places own ≡ true
      → ((n place : ℕ) → c ≡ refuses n place → Unchanged) → Answered bytes (1 ∷ 2 ∷ 3 ∷ 8 ∷ 4 ∷ 5 ∷ 6 ∷ 7 ∷ numbers own) Unchanged c
  answered fits scratch own e p k =
      subst (Answered bytes (1 ∷ 2 ∷ 3 ∷ 8 ∷ 4 ∷ 5 ∷ 6 ∷ 7 ∷ numbers own) Unchanged) (sym e)
      (first_answered (table_placed fits scratch own p) (λ n place f. k n place (e ∙ f)))

-- lines after one that refuses are not looked at
cut : (rs : List Refusal) (r : Refusal) (qs : List Refusal) → r.when ≡ true → first_of (rs ++ (r ∷ qs)) ≡ first_of (rs ++ (r ∷ []))
cut rs r qs d = by (first_of rs) refl
  where
    by : (c : Check) → first_of rs ≡ c → first_of (rs ++ (r ∷ qs)) ≡ first_of (rs ++ (r ∷ []))
    by passes e = append_later rs (r ∷ qs) e ∙ first_refuses r qs d ∙ sym (append_later rs (r ∷ []) e ∙ first_refuses r [] d)
    by (refuses n place) e = append_refuses rs (r ∷ qs) e ∙ sym (append_refuses rs (r ∷ []) e)

-- A STEP, of any kind, and a preview
module _ (bytes was : List ℕ) (othersFit : Bool) (scratch : ℕ) (Unchanged : Type 0) {c : Check} where
  step_answered : (kind x number : ℕ) → c ≡ first_of (state_checks_with othersFit bytes was scratch ++ step_checks (table_of bytes) was kind x number)
      → ((n place : ℕ) → c ≡ refuses n place → Unchanged) → Answered bytes (step_numbers kind) Unchanged c
  step_answered zero x number e k =
      answered bytes Unchanged (othersFit && is_whole was) scratch (refuse_if 9 _ ∷ step_checks (table_of bytes) was 0 x number) e refl k
  step_answered (suc zero) x number e k =
      answered bytes Unchanged (othersFit && is_whole was) scratch (refuse_if 9 _ ∷ step_checks (table_of bytes) was 1 x number) e refl k
  step_answered (suc (suc zero)) x number e k =
      answered bytes Unchanged (othersFit && is_whole was) scratch (refuse_if 9 _ ∷ step_checks (table_of bytes) was 2 x number) e refl k
  step_answered (suc (suc (suc kind))) x number e k =
      answered bytes Unchanged (othersFit && is_whole was) scratch (refuse_if 9 _ ∷ out ∷ [])
      (e ∙ cut (state_checks_with othersFit bytes was scratch) out _ is_out) refl k
    where
      out : Refusal
      out = refuse_if 10 (out_of_range (table_of bytes) (suc (suc (suc kind))) x number)

      is_out : out.when ≡ true
      is_out = rw (le-ltb (suc (suc (suc kind))) 3 (omega arith))

-- an outcome that is refused so is as it came
as_it_came : {o : Outcome} {n place : ℕ} {was : List ℕ} → o ≡ refused_at n place was → AsItCame o was
as_it_came e = record { state = ap (λ (o : Outcome). o.state) e; counts = ap (λ (o : Outcome). o.tally) e }

run_refused : (bytes was : List ℕ) (scratch : ℕ) (schedule answers : List ℕ) (n place : ℕ)
    → (run_of bytes was scratch schedule answers).check ≡ refuses n place
    → (run_of bytes was scratch schedule answers).progress ≡ begun was answers
unfolding run_of
run_refused bytes was scratch schedule answers n place e = rw (run_of, e)

pub demand_1 : Demand1
demand_1 =
    record {
      load = λ bytes was scratch.
          answered bytes _ (is_whole was) scratch [] (in_order.of_load bytes was scratch) refl
          (λ n place e. as_it_came (outcome_refused was no_tally (loaded (table_of bytes)) _ (sym (in_order.of_load bytes was scratch) ∙ e)));
      step = λ bytes was scratch kind x number.
          step_answered bytes was true scratch _ kind x number (in_order.of_step bytes was scratch kind x number)
          (λ n place e. as_it_came (step_refused bytes was scratch kind x number e));
      preview = λ bytes was scratch kind x number next.
          step_answered bytes was (is_whole next) scratch _ kind x number (in_order.of_preview bytes was scratch kind x number next)
          (λ n place e. as_it_came ((on_a_copy bytes was scratch kind x number next).refused n place e));
      run = λ bytes was scratch schedule answers.
          answered bytes _ (is_whole was) scratch (refuse_if 9 _ ∷ schedule_checks schedule answers) (in_order.of_run bytes was scratch schedule answers) refl
          (run_refused bytes was scratch schedule answers);
      save = λ bytes state scratch shelf name.
          answered bytes _ (is_whole_shelf shelf && is_whole state) scratch (refuse_if 9 _ ∷ shelf_check (table_of bytes) shelf ∷ save_checks shelf name)
          (in_order.of_save bytes state scratch shelf name) refl (kept.saves bytes scratch shelf name state).refused;
      restore = λ bytes state scratch shelf name.
          answered bytes _ (is_whole_shelf shelf && is_whole state) scratch (refuse_if 9 _ ∷ shelf_check (table_of bytes) shelf ∷ held_checks shelf name)
          (in_order.of_restore bytes state scratch shelf name) refl (kept.restores bytes scratch shelf name state).refused;
      drop = λ bytes scratch shelf name.
          answered bytes _ (is_whole_shelf shelf) scratch (shelf_check (table_of bytes) shelf ∷ held_checks shelf name)
          (in_order.of_drop bytes scratch shelf name) refl (kept.drops bytes scratch shelf name).refused;
    }
