-- A refusal's number is at most 22, and its place at most 4,096: a node, a definition or 0.
-- Assumes nothing.
use Prim.Native.Nat.{ℕ, zero, suc, ◌≤◌}
use mathlib.Core.Bool.{Bool, true, false, cond, ◌&&◌}
use mathlib.Core.Path.{◌≡◌, refl, sym, subst}
use mathlib.Core.List.{List, [], ◌∷◌, ◌++◌}
use native.Mathlib.Omega.{arith}
use lib.Dec.{ltb}
use borrow.Author.Tests.{ltb-true, not-false}
use Rattle.table.specs.Checks.{Check, passes, refuses, Refusal, refuse_if, refuse_at, first_of, number_of, place_of}
use Rattle.table.specs.Tables.{Table, sizes_of, within_limits, table_of}
use Rattle.table.proofs.Checks.{none_passes, append_later, append_refuses}
use Rattle.table.proofs.Limits.{within_limits_lem}
use Rattle.term.specs.Acceptance.{table_checks}
use Rattle.state.specs.Layout.{is_whole}
use Rattle.state.specs.WellFormed.{loaded}
use Rattle.steps.specs.Tallies.{no_tally}
use Rattle.steps.specs.Steps.{state_checks_with, state_checks, own_checks, step_checks, load_of, step_of}
use Rattle.steps.specs.Previews.{preview_of}
use Rattle.steps.specs.Runs.{schedule_checks, run_of}
use Rattle.steps.specs.Shelves.{is_whole_shelf}
use Rattle.steps.specs.Points.{shelf_check, save_checks, held_checks, save_of, restore_of, drop_of}
use Rattle.steps.proofs.Orders.{in_order}
use Rattle.steps.proofs.Steps.{outcome_check}

pub record Near (c : Check) : Type 0 where
  pub number : number_of c ≤ 22
  pub place : place_of c ≤ 4096

passes_near : Near passes
passes_near = record { number = omega arith; place = omega arith }

-- a line in front of others that are near, where it does not refuse
module _ (number : ℕ) (h : number ≤ 22) (rs : List Refusal) where
  if_near : (test : Bool) → (test ≡ false → Near (first_of rs)) → Near (first_of (refuse_if number test ∷ rs))
  unfolding first_of
  if_near true p = record { number = h; place = omega arith }
  if_near false p = p refl

  at_near : (limit place : ℕ) → limit ≤ 4096 → Near (first_of rs) → Near (first_of (refuse_at number limit place ∷ rs))
  unfolding first_of
  at_near limit place l p = by (ltb place limit) refl
    where
      by : (b : Bool) → ltb place limit ≡ b → Near (cond b (refuses number place) (first_of rs))
      by true e = let m = ltb-true place limit e in record { number = h; place = omega arith }
      by false e = p

none_near : Near (first_of [])
none_near = subst Near (sym none_passes) passes_near

append_near : (rs qs : List Refusal) → Near (first_of rs) → (first_of rs ≡ passes → Near (first_of qs)) → Near (first_of (rs ++ qs))
append_near rs qs p q = by (first_of rs) refl
  where
    by : (c : Check) → first_of rs ≡ c → Near (first_of (rs ++ qs))
    by passes e = subst Near (sym (append_later rs qs e)) (q e)
    by (refuses number place) e = subst Near (sym (append_refuses rs qs e)) (subst Near e p)

-- TABLE AND STATE
module _ (bytes : List ℕ) (fits : Bool) (scratch : ℕ) where
  table_near : Near (first_of (table_checks bytes fits scratch))
  table_near =
      if_near 1 (omega arith) _ _ (λ _.
      if_near 2 (omega arith) _ _ (λ w.
      let l = within_limits_lem (sizes_of bytes) (not-false (within_limits (sizes_of bytes)) w) in
      let n = l.nodes in
      if_near 3 (omega arith) _ _ (λ _.
      if_near 8 (omega arith) _ _ (λ _.
      at_near 4 (omega arith) _ (sizes_of bytes).nodes _ n
      (at_near 5 (omega arith) _ (sizes_of bytes).nodes _ n
      (at_near 6 (omega arith) _ (sizes_of bytes).definitions _ (omega (arith, l.definitions))
      (at_near 7 (omega arith) _ (sizes_of bytes).nodes _ n none_near)))))))

pub load_near : (bytes was : List ℕ) (scratch : ℕ) → Near (load_of bytes was scratch).check
load_near bytes was scratch =
    subst Near (sym (outcome_check was no_tally (loaded (table_of bytes)) (first_of (table_checks bytes (is_whole was) scratch)))) (table_near bytes (is_whole was) scratch)

module _ (othersFit : Bool) (bytes was : List ℕ) (scratch : ℕ) where
  state_near : Near (first_of (state_checks_with othersFit bytes was scratch))
  state_near =
      append_near (table_checks bytes (othersFit && is_whole was) scratch) _ (table_near bytes (othersFit && is_whole was) scratch)
      (λ e. if_near 9 (omega arith) _ _ (λ _. none_near))

pub run_near : (bytes was : List ℕ) (scratch : ℕ) (schedule answers : List ℕ) → Near (run_of bytes was scratch schedule answers).check
unfolding run_of
run_near bytes was scratch schedule answers =
    append_near (state_checks bytes was scratch) (schedule_checks schedule answers) (state_near true bytes was scratch)
    (λ e. if_near 19 (omega arith) _ _ (λ _. if_near 20 (omega arith) _ _ (λ _. none_near)))

-- A STEP
module _ (t : Table) (was : List ℕ) where
  own_near : (kind x number : ℕ) → Near (first_of (own_checks t was kind x number))
  own_near zero x number =
      if_near 11 (omega arith) _ _ (λ _.
      if_near 12 (omega arith) _ _ (λ _.
      if_near 13 (omega arith) _ _ (λ _.
      if_near 14 (omega arith) _ _ (λ _.
      if_near 15 (omega arith) _ _ (λ _.
      if_near 16 (omega arith) _ _ (λ _.
      if_near 17 (omega arith) _ _ (λ _. none_near)))))))
  own_near (suc zero) x number = if_near 18 (omega arith) _ _ (λ _. none_near)
  own_near (suc (suc kind)) x number = if_near 18 (omega arith) _ _ (λ _. none_near)

  in_near : (kind x number : ℕ) → Near (first_of (step_checks t was kind x number))
  in_near kind x number = if_near 10 (omega arith) _ _ (λ _. own_near kind x number)

module _ (bytes was : List ℕ) (scratch kind x number : ℕ) where
  with_near : (othersFit : Bool) → Near (first_of (state_checks_with othersFit bytes was scratch ++ step_checks (table_of bytes) was kind x number))
  with_near othersFit =
      append_near (state_checks_with othersFit bytes was scratch) _ (state_near othersFit bytes was scratch) (λ _. in_near (table_of bytes) was kind x number)

  pub step_near : Near (step_of bytes was scratch kind x number).check
  step_near = subst Near (sym (in_order.of_step bytes was scratch kind x number)) (with_near true)

  pub preview_near : (next : List ℕ) → Near (preview_of bytes was scratch kind x number next).check
  preview_near next = subst Near (sym (in_order.of_preview bytes was scratch kind x number next)) (with_near (is_whole next))

-- WITH A SHELF
module _ (t : Table) (shelf : List ℕ) (name : ℕ) where
  held_near : Near (first_of (shelf_check t shelf ∷ held_checks shelf name))
  held_near = if_near 9 (omega arith) _ _ (λ _. if_near 21 (omega arith) _ _ (λ _. none_near))

  new_near : Near (first_of (shelf_check t shelf ∷ save_checks shelf name))
  new_near = if_near 9 (omega arith) _ _ (λ _. if_near 21 (omega arith) _ _ (λ _. if_near 22 (omega arith) _ _ (λ _. none_near)))

module _ (bytes : List ℕ) (scratch : ℕ) (shelf : List ℕ) (name : ℕ) where
  pub save_near : (state : List ℕ) → Near (save_of bytes state scratch shelf name).check
  save_near state =
      subst Near (sym (in_order.of_save bytes state scratch shelf name))
      (append_near (state_checks_with (is_whole_shelf shelf) bytes state scratch) _ (state_near (is_whole_shelf shelf) bytes state scratch) (λ _. new_near (table_of bytes) shelf name))

  pub restore_near : (state : List ℕ) → Near (restore_of bytes state scratch shelf name).check
  restore_near state =
      subst Near (sym (in_order.of_restore bytes state scratch shelf name))
      (append_near (state_checks_with (is_whole_shelf shelf) bytes state scratch) _ (state_near (is_whole_shelf shelf) bytes state scratch) (λ _. held_near (table_of bytes) shelf name))

  pub drop_near : Near (drop_of bytes scratch shelf name).check
  drop_near =
      subst Near (sym (in_order.of_drop bytes scratch shelf name))
      (append_near (table_checks bytes (is_whole_shelf shelf) scratch) _ (table_near bytes (is_whole_shelf shelf) scratch) (λ _. held_near (table_of bytes) shelf name))
