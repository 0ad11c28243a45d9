-- Every public call refuses as the paper's table of refusals says.
-- Assumes nothing.
use Prim.Native.Nat.{ℕ, ◌*◌, ◌<◌}
use mathlib.Core.Bool.{Bool, true, false, not, ◌&&◌, and-false}
use mathlib.Core.Logic.{◌⊎◌, ◌↔◌, inl, inr, ⊎_elim}
use mathlib.Core.Path.{◌≡◌, refl, sym, ap, subst, ◌∙◌}
use mathlib.Core.List.{List, [], ◌∷◌, ◌++◌}
use native.Mathlib.Omega.{arith}
use lib.ListN.{length}
use borrow.Author.Tests.{eqb-true}
use Rattle.basis.proofs.Tests.{and_right, and_fails}
use Rattle.table.specs.Checks.{Check, passes, refuses, Refusal, refuse_if, first_of}
use Rattle.table.specs.Conditions.{Condition, ◌when◌, Comes}
use Rattle.table.specs.Tables.{table_of}
use Rattle.table.proofs.Conditions.{Follows, comes, comes_append}
use Rattle.term.specs.Acceptance.{table_checks}
use Rattle.term.specs.Rules.{N, table_conditions}
use Rattle.term.proofs.Acceptance.{passes_accepted}
use Rattle.term.proofs.Rules.{judged}
use Rattle.state.specs.Layout.{is_whole}
use Rattle.state.specs.WellFormed.{well_formed}
use Rattle.state.specs.Formed.{WellFormed}
use Rattle.state.proofs.Formed.{formed_exactly}
use Rattle.steps.specs.Steps.{step_checks, state_checks_with}
use Rattle.steps.specs.Runs.{schedule_checks}
use Rattle.steps.specs.Shelves.{is_whole_shelf}
use Rattle.steps.specs.Points.{shelf_check, save_checks, held_checks}
use Rattle.steps.specs.Refusals.{WrongState, WrongShelf, state_conditions, step_conditions, run_conditions, save_conditions, held_conditions, Refusals}
use Rattle.steps.proofs.Orders.{in_order}
use Rattle.steps.proofs.Conditions.{unless_not, ne_exactly, step_follows, run_follows, save_follows, held_follows}

-- LINES THAT SAY THE SAME come to the same
record Alike (l k : Condition) : Type 0 where
  number : l.number ≡ k.number
  there : (place : ℕ) → l.at place → k.at place
  back : (place : ℕ) → k.at place → l.at place

alike : (l : Condition) → Alike l l
alike l = record { number = refl; there = λ place w. w; back = λ place w. w }

abbrev Alikes : List Condition → List Condition → Type 0
Alikes [] [] = Unit
Alikes [] (k ∷ ks) = ⊥
Alikes (l ∷ ls) [] = ⊥
Alikes (l ∷ ls) (k ∷ ks) = Alike l k × Alikes ls ks

comes_alike : (ls ks : List Condition) (c : Check) → Alikes ls ks → Comes ls c → Comes ks c
comes_alike [] [] c a h = h
comes_alike [] (k ∷ ks) c a h = absurd a
comes_alike (l ∷ ls) [] c a h = absurd a
comes_alike (l ∷ ls) (k ∷ ks) c a h =
    ⊎_elim
    (λ (w : (place : ℕ) × l.at place × (c ≡ refuses l.number place)).
    inl (w.0, a.0.there w.0 w.1, w.2 ∙ ap (λ (n : ℕ). refuses n w.0) a.0.number))
    (λ (w : ((place : ℕ) → l.at place → ⊥) × Comes ls c). inr (λ place z. w.0 place (a.0.back place z), comes_alike ls ks c a.1 w.1))
    h

-- 1 to 8, with the lengths that do not fit
module _ (bytes : List ℕ) (scratch : ℕ) (fits : Bool) {Misfit : Type 0} (misfit : (fits ≡ false) ↔ Misfit) where
  eight : Alike (8 when ((fits ≡ false) ⊎ (scratch < 2 * N bytes))) (8 when (Misfit ⊎ (scratch < 2 * N bytes)))
  eight = record {
    number = refl;
    there = λ place w. (w.0, ⊎_elim (λ e. inl (misfit.0 e)) (λ l. inr l) w.1);
    back = λ place w. (w.0, ⊎_elim (λ e. inl (misfit.1 e)) (λ l. inr l) w.1);
  }

  table_comes : Comes (table_conditions bytes Misfit scratch) (first_of (table_checks bytes fits scratch))
  table_comes =
      comes_alike (table_conditions bytes (fits ≡ false) scratch) (table_conditions bytes Misfit scratch) (first_of (table_checks bytes fits scratch))
      (alike _, (alike _, (alike _, (eight, (alike _, (alike _, (alike _, (alike _, tt)))))))) (judged bytes fits scratch).comes

-- and 9 of the state, where it has its length
module _ (bytes was : List ℕ) (scratch : ℕ) (others : Bool) {Misfit : Type 0} (misfit : ((others && is_whole was) ≡ false) ↔ Misfit) where
  abbrev lent : Bool
  lent = others && is_whole was

  abbrev opening : List Condition
  opening = state_conditions bytes Misfit was scratch

  formed : first_of (table_checks bytes lent scratch) ≡ passes → (well_formed (table_of bytes) was ≡ true) ↔ WellFormed (table_of bytes) was
  formed e =
      let a = passes_accepted bytes lent scratch e in
      formed_exactly (table_of bytes) a.table.sound.shaped.limits was (omega (arith, eqb-true (length was) 4706 (and_right others (is_whole was) a.fit)))

  state_comes : Comes opening (first_of (state_checks_with others bytes was scratch))
  state_comes =
      comes_append (table_checks bytes lent scratch) check (table_conditions bytes Misfit scratch) condition (table_comes bytes scratch lent misfit)
      (λ e. comes check condition (unless_not 9 (well_formed (table_of bytes) was) (formed e), λ f. tt))
    where
      check : List Refusal
      check = refuse_if 9 (not (well_formed (table_of bytes) was)) ∷ []

      condition : List Condition
      condition = (9 when (WellFormed (table_of bytes) was → ⊥)) ∷ []

  -- and what is the call's own
  then : (rs : List Refusal) (ls : List Condition) → Follows rs ls → (c : Check) → c ≡ first_of (state_checks_with others bytes was scratch ++ rs) → Comes (opening ++ ls) c
  then rs ls f c e = subst (Comes (opening ++ ls)) (sym e) (comes_append (state_checks_with others bytes was scratch) rs opening ls state_comes (λ g. comes rs ls f))

-- lengths of a state alone, and beside another buffer
alone : (was : List ℕ) → (is_whole was ≡ false) ↔ WrongState was
alone was = ne_exactly (length was) 4706

shelved : (shelf : List ℕ) → (is_whole_shelf shelf ≡ false) ↔ WrongShelf shelf
shelved shelf = ne_exactly (length shelf) 37656

beside : (others : Bool) {Other : Type 0} (was : List ℕ) → (others ≡ false) ↔ Other → ((others && is_whole was) ≡ false) ↔ (Other ⊎ WrongState was)
beside others was h = (
  λ e. ⊎_elim (λ (d : others ≡ false). inl (h.0 d)) (λ (d : is_whole was ≡ false). inr ((alone was).0 d)) (and_fails others (is_whole was) e),
  ⊎_elim (λ w. ap (λ (b : Bool). b && is_whole was) (h.1 w)) (λ w. ap (λ (b : Bool). others && b) ((alone was).1 w) ∙ and-false others),
)

pub refusals : Refusals
refusals =
    record {
      load = λ bytes was scratch.
          subst (Comes (table_conditions bytes (WrongState was) scratch)) (sym (in_order.of_load bytes was scratch)) (table_comes bytes scratch (is_whole was) (alone was));
      step = λ bytes was scratch kind x number.
          then bytes was scratch true (alone was) (step_checks (table_of bytes) was kind x number) (step_conditions (table_of bytes) was kind x number)
          (step_follows (table_of bytes) was kind x number) _ (in_order.of_step bytes was scratch kind x number);
      preview = λ bytes was scratch kind x number next.
          then bytes was scratch (is_whole next) (beside (is_whole next) was (alone next)) (step_checks (table_of bytes) was kind x number)
          (step_conditions (table_of bytes) was kind x number) (step_follows (table_of bytes) was kind x number) _ (in_order.of_preview bytes was scratch kind x number next);
      run = λ bytes was scratch schedule answers.
          then bytes was scratch true (alone was) (schedule_checks schedule answers) (run_conditions schedule answers) (run_follows schedule answers) _
          (in_order.of_run bytes was scratch schedule answers);
      save = λ bytes state scratch shelf name.
          then bytes state scratch (is_whole_shelf shelf) (beside (is_whole_shelf shelf) state (shelved shelf)) (shelf_check (table_of bytes) shelf ∷ save_checks shelf name)
          (save_conditions (table_of bytes) shelf name) (save_follows (table_of bytes) shelf name) _ (in_order.of_save bytes state scratch shelf name);
      restore = λ bytes state scratch shelf name.
          then bytes state scratch (is_whole_shelf shelf) (beside (is_whole_shelf shelf) state (shelved shelf)) (shelf_check (table_of bytes) shelf ∷ held_checks shelf name)
          (held_conditions (table_of bytes) shelf name) (held_follows (table_of bytes) shelf name) _ (in_order.of_restore bytes state scratch shelf name);
      drop = λ bytes scratch shelf name.
          subst (Comes (table_conditions bytes (WrongShelf shelf) scratch ++ held_conditions (table_of bytes) shelf name)) (sym (in_order.of_drop bytes scratch shelf name))
          (comes_append (table_checks bytes (is_whole_shelf shelf) scratch) (shelf_check (table_of bytes) shelf ∷ held_checks shelf name)
          (table_conditions bytes (WrongShelf shelf) scratch) (held_conditions (table_of bytes) shelf name) (table_comes bytes scratch (is_whole_shelf shelf) (shelved shelf))
          (λ e. comes (shelf_check (table_of bytes) shelf ∷ held_checks shelf name) (held_conditions (table_of bytes) shelf name) (held_follows (table_of bytes) shelf name)));
    }
