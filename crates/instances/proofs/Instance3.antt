-- DEMAND 3 IS ABOUT SOMETHING: the paper's fleet and its list of steps, in which one agent writes and both come to hold what it wrote.
-- Assumes nothing.
use Prim.Native.Nat.{ℕ, zero, suc, ◌-◌}
use mathlib.Core.Bool.{true, false}
use mathlib.Core.Path.{◌≡◌, refl, sym, ap, subst, ◌∙◌}
use mathlib.Core.Option.{some}
use mathlib.Core.List.{List, [], ◌∷◌, ◌++◌}
use native.Mathlib.Omega.{arith}
use lib.ListN.{get_elem?, take, replicate}
use Rattle.basis.specs.Below.{below}
use Rattle.basis.specs.KeySets.{has}
use Rattle.agreement.proofs.Machine.{before_all}
use Rattle.table.specs.Checks.{passes, refuses}
use Rattle.table.specs.Tables.{table_of}
use Rattle.state.specs.declared.Entry.{Entry}
use Rattle.state.specs.Layout.{state_words, stamp_of, zp_of}
use Rattle.state.specs.Entries.{entry, entry_of}
use Rattle.state.specs.Evaluation.{truth_step}
use Rattle.state.specs.WellFormed.{loaded}
use Rattle.steps.specs.Steps.{load_of}
use Rattle.steps.proofs.Computing.{computing}
use Rattle.labs.specs.Lists.{Step, outcome_of, next, state_after}
use Rattle.theorems.specs.Demand3.{Write, entry_written, history, HeldBeforeSteps}
use Rattle.theorems.specs.Origins.{WrittenBy}
use Rattle.instances.proofs.Instance.{fleet}
use Rattle.instances.proofs.Instances.{small_fleet, steps}
use Rattle.theorems.proofs.Origins.{origins_hold}

abbrev step : ℕ → ℕ → ℕ → Step
step kind agent number = record { kind = kind; agent = agent; number = number; scratch = 16 }

-- agent 1 has nothing to copy yet (refused); agent 0 writes, and cannot act again before it propagates (refused)
abbrev pub acts : List Step
acts = step 0 1 0 ∷ step 0 0 0 ∷ step 0 0 0 ∷ []

-- both propagate
abbrev pub propagates : List Step
propagates = step 1 0 0 ∷ step 1 1 0 ∷ []

-- agent 1 copies the entry to its attribute, and confirms the key
abbrev pub copies : List Step
copies = step 0 1 0 ∷ step 2 1 0 ∷ []

-- what comes of them
pub record Rehearsed : Type 0 where
  pub loads : (load_of fleet (replicate state_words 0) 16).check ≡ passes
  -- the history has one write
  pub one_write : history fleet (acts ++ (propagates ++ copies)) ≡ record { agent = 0; key = 0; value = 7; stamp = 1 } ∷ []
  -- after it agent 0's entry is newer than agent 1's, and the key waits in agent 0
  pub written : entry_of (state_after fleet acts) 0 0 ≡ entry 7 1 0
  pub none_yet : entry_of (state_after fleet acts) 1 0 ≡ entry 0 0 0
  pub waits : has (zp_of (state_after fleet acts) 0) 0 ≡ true
  -- after the propagates it is not: the entries agree, and the key waits in neither
  pub agree : (entry_of (state_after fleet (acts ++ propagates)) 0 0 ≡ entry 7 1 0)
      × (entry_of (state_after fleet (acts ++ propagates)) 1 0 ≡ entry 7 1 0)
  pub silent : (has (zp_of (state_after fleet (acts ++ propagates)) 0) 0 ≡ false) × (has (zp_of (state_after fleet (acts ++ propagates)) 1) 0 ≡ false)

-- by computing
pub rehearsed : Rehearsed
unfolding computing
rehearsed = record { loads = refl; one_write = refl; written = refl; none_yet = refl; waits = refl; agree = (refl, refl); silent = (refl, refl) }

-- writes of two agents, one over the other's; Instances has their entries, writers among them, after each step
pub two_writers : history small_fleet steps ≡ record { agent = 0; key = 0; value = 7; stamp = 1 } ∷ record { agent = 1; key = 0; value = 9; stamp = 2 } ∷ record { agent = 0; key = 0; value = 3; stamp = 3 } ∷ []
unfolding computing
two_writers = refl

-- the fleet's link is true, which reads nothing: it holds before every step of any list
pub fleet_linked : (xs : List Step) (a b : ℕ) → HeldBeforeSteps fleet xs 0 a b
unfolding below truth_step
fleet_linked xs a b = before_all (next fleet) _ (λ s x. refl) (loaded (table_of fleet)) xs

-- WHICH STEP: agent 1's entry after the propagates is from step 1, agent 0's act that was done; the same act was refused at step 2
pub record FromStep : Type 0 where
  pub refused : (outcome_of fleet (state_after fleet (step 0 1 0 ∷ step 0 0 0 ∷ [])) (step 0 0 0)).check ≡ refuses 11 0
  pub write : Write
  pub same_entry : entry_written write ≡ entry_of (state_after fleet (acts ++ propagates)) 1 0
  pub written_by : WrittenBy fleet (acts ++ propagates) 0 write
  pub which : written_by.index ≡ 1

refused_there : (outcome_of fleet (state_after fleet (step 0 1 0 ∷ step 0 0 0 ∷ [])) (step 0 0 0)).check ≡ refuses 11 0
unfolding computing
refused_there = refl

-- the one act of agent 0 that is done
only_act : (i : ℕ) (x : Step) → get_elem? (acts ++ propagates) i ≡ some x → x.kind ≡ 0 → x.agent ≡ 0
    → (outcome_of fleet (state_after fleet (take i (acts ++ propagates))) x).check ≡ passes → i ≡ 1
only_act zero x e k a d = let f : step 0 1 0 ≡ x = cc in absurd (omega (arith, ap (λ (y : Step). y.agent) f))
only_act (suc zero) x e k a d = refl
only_act (suc (suc zero)) x e k a d =
    let f : x ≡ step 0 0 0 = cc in
    let c = sym refused_there ∙ ap (λ (y : Step). (outcome_of fleet (state_after fleet (step 0 1 0 ∷ step 0 0 0 ∷ [])) y).check) (sym f) ∙ d in
    let z : ◌≡◌ {A = ℕ} 0 1 = cc in
    absurd (omega arith)
only_act (suc (suc (suc zero))) x e k a d = let f : step 1 0 0 ≡ x = cc in absurd (omega (arith, ap (λ (y : Step). y.kind) f))
only_act (suc (suc (suc (suc zero)))) x e k a d = let f : step 1 1 0 ≡ x = cc in absurd (omega (arith, ap (λ (y : Step). y.kind) f))
only_act (suc (suc (suc (suc (suc i))))) x e k a d = let z : ◌≡◌ {A = ℕ} 0 1 = cc in absurd (omega arith)

pub from_step : FromStep
from_step =
    let xs = acts ++ propagates in
    let there : entry_of (state_after fleet xs) 1 0 ≡ entry 7 1 0 = rehearsed.agree.1 in
    let stamp : stamp_of (state_after fleet xs) 1 0 ≡ 1 = ap (λ (e : Entry). e.stamp) there in
    let w = (origins_hold fleet (replicate state_words 0) 16 rehearsed.loads xs).entry_from_step 1 0 (omega arith) (omega arith) (omega arith) in
    let n : stamp_of (state_after fleet xs) 1 0 - 1 ≡ 0 = omega arith in
    let b = subst (λ (n : ℕ). WrittenBy fleet xs n w.0) n w.3 in
    record {
      refused = refused_there;
      write = w.0;
      same_entry = w.2;
      written_by = b;
      which = only_act b.index b.step b.there b.is_act (b.by_agent ∙ ap (λ (e : Entry). e.writer) (w.2 ∙ there)) b.is_done;
    }
