-- LINKS BY POSITION: a fleet that falls silent and disagrees, because the link did not hold when the key was propagated, and one that is covered.
-- Assumes nothing.
use Prim.Native.Nat.{ℕ, zero, suc}
use mathlib.Core.Bool.{true, false}
use mathlib.Core.Path.{◌≡◌, refl, ap, ap₂}
use mathlib.Core.Option.{some}
use mathlib.Core.List.{List, [], ◌∷◌}
use native.Mathlib.Omega.{arith}
use lib.ListN.{get_elem?, replicate}
use Rattle.basis.proofs.Tests.{not_both}
use Rattle.table.specs.Checks.{passes}
use Rattle.table.specs.Tables.{table_of}
use Rattle.state.specs.Layout.{state_words}
use Rattle.state.specs.Entries.{entry, entry_of, newer}
use Rattle.state.specs.Evaluation.{link_holds}
use Rattle.state.specs.WellFormed.{loaded}
use Rattle.steps.specs.Steps.{load_of}
use Rattle.steps.proofs.Computing.{computing}
use Rattle.labs.specs.Lists.{Step, state_after}
use Rattle.theorems.specs.Demand3.{HeldBeforeSteps}
use Rattle.theorems.specs.Contact.{HeldBeforePropagates}
use Rattle.theorems.specs.Chains.{Silent}
use Rattle.theorems.specs.Blame.{Blamed}
use Rattle.theorems.proofs.Blame.{blame_holds}

-- Two agents, one attribute, one key, whose link holds where the sender's attribute is 1: say, once the sender has come into range.
-- Agent 0 sets the key to 7 (node 1) and its attribute to 1 (node 3), in the order p, q; agent 1 is idle. Nodes:
--   0 constant 7      1 set key 0 to node 0         2 constant 1     3 set attribute 0 to node 2
--   4 node p; node q  5 attribute 0 of the sender   6 constant 1     7 node 5 = node 6
--   8 idle            9 root, the link: node 7      10, 11 roots of agents 0 and 1: nodes 4 and 8
-- Sizes 12, 0, 2, 1, 1, 0; kinds; operands
abbrev pub ranged : ℕ → ℕ → List ℕ
ranged p q =
    12 ∷ 0 ∷ 0 ∷ 0 ∷ 2 ∷ 0 ∷ 1 ∷ 0 ∷ 1 ∷ 0 ∷ 0 ∷ 0
    ∷ 32 ∷ 3 ∷ 32 ∷ 2 ∷ 5 ∷ 33 ∷ 32 ∷ 17 ∷ 0 ∷ 64 ∷ 64 ∷ 64
    ∷ 7 ∷ 0 ∷ 0 ∷ 0 ∷ 0 ∷ 0 ∷ 0 ∷ 0 ∷ 1 ∷ 0 ∷ 0 ∷ 0 ∷ 0 ∷ 0 ∷ 2 ∷ 0
    ∷ p ∷ 0 ∷ q ∷ 0 ∷ 0 ∷ 0 ∷ 1 ∷ 0 ∷ 1 ∷ 0 ∷ 0 ∷ 0 ∷ 5 ∷ 0 ∷ 6 ∷ 0
    ∷ 0 ∷ 0 ∷ 0 ∷ 0 ∷ 7 ∷ 0 ∷ 0 ∷ 0 ∷ 4 ∷ 0 ∷ 0 ∷ 0 ∷ 8 ∷ 0 ∷ 0 ∷ 0 ∷ []

-- agent 0 acts, and propagates the key
abbrev act : Step
act = record { kind = 0; agent = 0; number = 0; scratch = 24 }

abbrev propagate : Step
propagate = record { kind = 1; agent = 0; number = 0; scratch = 24 }

-- NOT PROMISED: agent 0 writes and propagates before it comes into range
abbrev pub too_early : List Step
too_early = act ∷ propagate ∷ act ∷ []

pub record SilentDisagree : Type 0 where
  pub loads : (load_of (ranged 1 3) (replicate state_words 0) 24).check ≡ passes
  -- the link from agent 0 to agent 1 did not hold before the propagate, though it holds at the end
  pub not_linked : link_holds (table_of (ranged 1 3)) (state_after (ranged 1 3) (act ∷ [])) 0 0 1 ≡ false
  pub now_linked : link_holds (table_of (ranged 1 3)) (state_after (ranged 1 3) too_early) 0 0 1 ≡ true
  -- the key waits in neither, agent 0 has its own value 7 with stamp 1, and agent 1 has no entry
  pub silent : Silent (state_after (ranged 1 3) too_early) 0 0 × Silent (state_after (ranged 1 3) too_early) 0 1
  pub has_entry : entry_of (state_after (ranged 1 3) too_early) 0 0 ≡ entry 7 1 0
  pub has_none : entry_of (state_after (ranged 1 3) too_early) 1 0 ≡ entry 0 0 0

-- by computing
pub silent_disagree : SilentDisagree
unfolding computing
silent_disagree = record { loads = refl; not_linked = refl; now_linked = refl; silent = (refl, refl); has_entry = refl; has_none = refl }

-- THE STEP TO BLAME is step 1, the propagate
pub record ToBlame : Type 0 where
  pub newer_there : newer (entry_of (state_after (ranged 1 3) too_early) 0 0) (entry_of (state_after (ranged 1 3) too_early) 1 0) ≡ true
  pub blamed : Blamed (ranged 1 3) too_early 0 1 0
  pub which : blamed.index ≡ 1

-- the one step of kind 1
only_propagate : (i : ℕ) (x : Step) → get_elem? too_early i ≡ some x → x.kind ≡ 1 → i ≡ 1
only_propagate zero x e k = let f : act ≡ x = cc in absurd (omega (arith, ap (λ (y : Step). y.kind) f))
only_propagate (suc zero) x e k = refl
only_propagate (suc (suc zero)) x e k = let f : act ≡ x = cc in absurd (omega (arith, ap (λ (y : Step). y.kind) f))
only_propagate (suc (suc (suc i))) x e k = let z : ◌≡◌ {A = ℕ} 0 1 = cc in absurd (omega arith)

pub to_blame : ToBlame
to_blame =
    let n = ap₂ newer silent_disagree.has_entry silent_disagree.has_none in
    let b = blame_holds (ranged 1 3) (replicate state_words 0) 24 silent_disagree.loads too_early 0 1 0 (omega arith) (omega arith) (omega arith) n silent_disagree.silent.0 in
    record { newer_there = n; blamed = b; which = only_propagate b.index b.step b.there b.propagates.kind_propagate }

-- PROMISED: agent 0 comes into range first. The link does not hold after load, so demand 3's words leave it out; but it holds before the propagate
abbrev pub in_range : List Step
in_range = act ∷ act ∷ propagate ∷ []

pub record Covered : Type 0 where
  pub loads : (load_of (ranged 3 1) (replicate state_words 0) 24).check ≡ passes
  pub not_always : HeldBeforeSteps (ranged 3 1) in_range 0 0 1 → ⊥
  pub held : HeldBeforePropagates (ranged 3 1) (loaded (table_of (ranged 3 1))) in_range 0 0 1
  pub has_entry : entry_of (state_after (ranged 3 1) in_range) 1 0 ≡ entry 7 1 0

pub covered : Covered
unfolding computing
covered = record {
  loads = refl;
  not_always = λ h. not_both h.0 refl;
  held = (λ p. absurd (omega arith), (λ p. absurd (omega arith), (λ p. refl, tt)));
  has_entry = refl;
}
