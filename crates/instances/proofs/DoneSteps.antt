-- DONE STEPS: each is allowed and leaves a ready state, and so is every step of a list whose steps are all done.
-- Assumes nothing.
use Prim.Native.Nat.{ℕ, ◌<◌, ◌≤◌}
use mathlib.Core.Bool.{Bool, true, ◌&&◌}
use mathlib.Core.Logic.{⊎_elim}
use mathlib.Core.Path.{◌≡◌, ap}
use mathlib.Core.List.{List, [], ◌∷◌}
use native.Mathlib.Omega.{arith}
use lib.Dec.{ltb}
use lib.ListN.{length, get_or, get_or-eq_default}
use borrow.Author.Tests.{ltb-true}
use Rattle.basis.specs.Numbers.{every}
use Rattle.basis.proofs.Numbers.{every_at}
use Rattle.basis.proofs.Tests.{lt_or_le, and_left, and_right}
use Rattle.agreement.specs.Machine.{Before}
use Rattle.table.specs.Checks.{Check, passes, passed}
use Rattle.table.specs.Tables.{table_of}
use Rattle.table.proofs.Checks.{passed_passes}
use Rattle.state.specs.Layout.{is_whole}
use Rattle.state.specs.WellFormed.{Words}
use Rattle.state.proofs.Formed.{proper_facts}
use Rattle.steps.specs.declared.Tally.{Tally}
use Rattle.steps.specs.Steps.{done, step_of}
use Rattle.steps.proofs.Steps.{state_checks_lem}
use Rattle.steps.proofs.Proper.{proper_passes}
use Rattle.labs.specs.Reading.{system_of}
use Rattle.labs.specs.Demand2.{Allowed, Bytes, Ready}
use Rattle.labs.specs.Lists.{Step, outcome_of, next}
use Rattle.labs.proofs.Ready.{done_ready}
use Rattle.labs.proofs.Demand2.{demand_2}

-- the bytes of a list, tested
pub small_bytes : (l : List ℕ) → every (λ (i : ℕ). ltb (get_or l i 0) 256) (length l) ≡ true → Bytes l
small_bytes l e i =
    ⊎_elim (λ (h : i < length l). ltb-true (get_or l i 0) 256 (every_at (λ (i : ℕ). ltb (get_or l i 0) 256) (length l) e i h))
    (λ (h : length l ≤ i). rw (get_or-eq_default l 0 h) (omega arith)) (lt_or_le i (length l))

module _ (bytes : List ℕ) where
  pub done_allowed : (s s' : List ℕ) (scratch kind x number : ℕ) (counted : Tally) → Ready bytes s scratch → step_of bytes s scratch kind x number ≡ done counted s' →
      Ready bytes s' scratch × Allowed (table_of bytes) (system_of s) (system_of s') kind x number counted
  done_allowed s s' scratch kind x number counted r e =
      let w = (demand_2.exactly bytes s s' scratch kind x number counted r).0 e in
      let a = ((state_checks_lem bytes s scratch).0 r.passed).0 in
      let p = proper_facts (table_of bytes) a.table.sound.shaped.limits s' w.0 in
      (record { small = r.small; state = w.0; passed = proper_passes bytes (is_whole s) scratch a s' p }, w.1)

  -- every step of a list is done, each in the state that the one before left
  abbrev pub all_done : List ℕ → List Step → Bool
  all_done s [] = true
  all_done s (x ∷ xs) = passed (outcome_of bytes s x).check && all_done (next bytes s x) xs

  -- a step that is done, and allowed
  abbrev pub DoneAllowed : List ℕ → Step → Type 0
  DoneAllowed s x =
      ((outcome_of bytes s x).check ≡ passes)
      × Allowed (table_of bytes) (system_of s) (system_of (next bytes s x)) x.kind x.agent x.number (outcome_of bytes s x).tally

  pub all_allowed : Bytes bytes → (s : List ℕ) → Words s → (xs : List Step) → all_done s xs ≡ true → Before (next bytes) DoneAllowed s xs
  all_allowed small s narrow [] e = tt
  all_allowed small s narrow (x ∷ xs) e =
      let b = passed (outcome_of bytes s x).check in
      let f = passed_passes (outcome_of bytes s x).check (and_left b (all_done (next bytes s x) xs) e) in
      let r = done_ready bytes s x.scratch x.kind x.agent x.number small narrow f in
      let w = done_allowed s (next bytes s x) x.scratch x.kind x.agent x.number (outcome_of bytes s x).tally r (is_done s x f) in
      ((f, w.1), all_allowed small (next bytes s x) w.0.state.small xs (and_right b (all_done (next bytes s x) xs) e))
    where
      is_done : (s : List ℕ) (x : Step) → (outcome_of bytes s x).check ≡ passes → outcome_of bytes s x ≡ done (outcome_of bytes s x).tally (next bytes s x)
      is_done s x f = ap (λ (c : Check). record { check = c; tally = (outcome_of bytes s x).tally; state = next bytes s x }) f
