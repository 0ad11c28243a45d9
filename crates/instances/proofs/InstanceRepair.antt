-- REPAIR IS ABOUT SOMETHING: agent 0 writes and propagates out of range, comes into range, and confirms; then both agents agree.
-- Assumes nothing.
use Prim.Native.Nat.{ℕ}
use mathlib.Core.Bool.{Bool, true, false}
use mathlib.Core.Path.{◌≡◌, refl, ap}
use mathlib.Core.List.{List, [], ◌∷◌}
use native.Mathlib.Omega.{arith}
use lib.ListN.{replicate}
use Rattle.basis.specs.KeySets.{has}
use Rattle.table.specs.Checks.{passes}
use Rattle.table.specs.Tables.{table_of}
use Rattle.state.specs.declared.Entry.{Entry}
use Rattle.state.specs.Layout.{state_words, zp_of}
use Rattle.state.specs.Entries.{entry, entry_of}
use Rattle.state.specs.Evaluation.{link_holds}
use Rattle.steps.specs.Steps.{load_of}
use Rattle.steps.proofs.Computing.{computing}
use Rattle.labs.specs.Lists.{Step, outcome_of, next, state_after}
use Rattle.theorems.specs.Demand3.{NewerWaits}
use Rattle.theorems.specs.Contact.{InContact}
use Rattle.theorems.specs.Repair.{Confirms, PropagateReaches, ConfirmReaches, HeldSince, moment, ended}
use Rattle.theorems.proofs.Repair.{repair}

-- Two agents, one attribute a, one key. Agent 0: key := 1; a := key. Agent 1 is idle. The key's link: s.a = 1 or r.a = 1, one of the two has come into range.
-- Nodes:
--   0 constant 1   1 key := node 0   2 key          3 a := node 2   4 nodes 1; 3     5 s.a             6 constant 1   7 nodes 5 = 6
--   8 r.a          9 constant 1     10 nodes 8 = 9  11 nodes 7 or 10                12 idle           13 the link: node 11
--   14, 15 the agents: nodes 4, 12
-- Sizes 16, 0, 2, 1, 1, 0; kinds; operands
abbrev pub meeting : List ℕ
meeting =
    16 ∷ 0 ∷ 0 ∷ 0 ∷ 2 ∷ 0 ∷ 1 ∷ 0 ∷ 1 ∷ 0 ∷ 0 ∷ 0
    ∷ 32 ∷ 3 ∷ 34 ∷ 2 ∷ 5 ∷ 33 ∷ 32 ∷ 17 ∷ 33 ∷ 32 ∷ 17 ∷ 22 ∷ 0 ∷ 64 ∷ 64 ∷ 64
    ∷ 1 ∷ 0 ∷ 0 ∷ 0 ∷ 0 ∷ 0 ∷ 0 ∷ 0 ∷ 0 ∷ 0 ∷ 0 ∷ 0 ∷ 0 ∷ 0 ∷ 2 ∷ 0 ∷ 1 ∷ 0 ∷ 3 ∷ 0 ∷ 0 ∷ 0 ∷ 1 ∷ 0 ∷ 1 ∷ 0 ∷ 0 ∷ 0 ∷ 5 ∷ 0 ∷ 6 ∷ 0
    ∷ 0 ∷ 0 ∷ 2 ∷ 0 ∷ 1 ∷ 0 ∷ 0 ∷ 0 ∷ 8 ∷ 0 ∷ 9 ∷ 0 ∷ 7 ∷ 0 ∷ 10 ∷ 0 ∷ 0 ∷ 0 ∷ 0 ∷ 0 ∷ 11 ∷ 0 ∷ 0 ∷ 0 ∷ 4 ∷ 0 ∷ 0 ∷ 0 ∷ 12 ∷ 0 ∷ 0 ∷ 0 ∷ []

-- of key 0 or choice 0
abbrev step : ℕ → ℕ → Step
step kind agent = record { kind = kind; agent = agent; number = 0; scratch = 32 }

-- agent 0 writes, propagates to nobody, and comes into range, for which it reads the key
abbrev pub early : List Step
early = step 0 0 ∷ step 1 0 ∷ step 0 0 ∷ []

-- it confirms the key, and agent 1 propagates it
abbrev pub confirm : Step
confirm = step 2 0

abbrev pub since : List Step
since = step 1 1 ∷ []

abbrev later : List Step
later = moment meeting early since confirm

-- each agent's entry, and whether the key waits in it
abbrev pub shown : List ℕ → (Entry × Entry) × (Bool × Bool)
shown s = ((entry_of s 0 0, entry_of s 1 0), (has (zp_of s 0) 0, has (zp_of s 1) 0))

pub record Comes : Type 0 where
  pub loads : (load_of meeting (replicate state_words 0) 32).check ≡ passes
  -- they disagree, and the key waits in neither
  pub apart : shown (state_after meeting early) ≡ ((entry 1 1 0, entry 0 0 0), (false, false))
  -- agent 0's confirm is done, and its link to agent 1 holds now
  pub confirms : (outcome_of meeting (state_after meeting early) confirm).check ≡ passes
  pub linked : link_holds (table_of meeting) (state_after meeting early) 0 0 1 ≡ true
  -- then agent 1's propagate is done, and its link to agent 0 holds
  pub propagates : (outcome_of meeting (state_after meeting later) (step 1 1)).check ≡ passes
  pub linked_back : link_holds (table_of meeting) (state_after meeting later) 0 1 0 ≡ true
  -- in the end they agree, and the key waits in neither
  pub together : shown (ended meeting early since confirm) ≡ ((entry 1 1 0, entry 1 1 0), (false, false))

-- by computing
pub comes : Comes
unfolding computing
comes = record { loads = refl; apart = refl; confirms = refl; linked = refl; propagates = refl; linked_back = refl; together = refl }

pub record Met : Type 0 where
  -- agent 1, which has no entry, could not confirm
  pub cannot : Confirms meeting (state_after meeting early) (step 2 1) 1 0 → ⊥
  -- agent 0's confirm reaches it; since then both links held before the propagates of their senders: so the two are in contact, and agree
  pub reaches : ConfirmReaches meeting (state_after meeting early) confirm 0 0 1
  pub held : HeldSince meeting early since confirm 0 1 0 × HeldSince meeting early since confirm 0 0 1
  pub contact : InContact meeting later since 0 1 0 × InContact meeting later since 0 0 1
  pub agree : entry_of (ended meeting early since confirm) 1 0 ≡ entry_of (ended meeting early since confirm) 0 0
  -- and agent 1's propagate reaches agent 0
  pub back : PropagateReaches meeting (state_after meeting later) (step 1 1) 0 1 0
  pub back_waits : NewerWaits (next meeting (state_after meeting later) (step 1 1)) 0 1 0

abbrev Shown : Type 0
Shown = (Entry × Entry) × (Bool × Bool)

pub met : Met
met =
    let fact = (repair meeting).0 in
    let after = (repair meeting).1 early since confirm in
    let reaches : ConfirmReaches meeting (state_after meeting early) confirm 0 0 1 =
    record { confirms = record { kind_confirm = refl; by_agent = refl; of_key = refl; is_done = comes.confirms }; there = omega arith; linked = comes.linked } in
    let back : PropagateReaches meeting (state_after meeting later) (step 1 1) 0 1 0 =
    record { propagates = record { kind_propagate = refl; by_agent = refl; of_key = refl; is_done = comes.propagates }; there = omega arith; linked = comes.linked_back } in
    let to : HeldSince meeting early since confirm 0 1 0 = (λ p. comes.linked_back, tt) in
    let from : HeldSince meeting early since confirm 0 0 1 = (λ p. absurd (omega (arith, p.by_agent)), tt) in
    let end = comes.together in
    record {
      cannot = λ c. omega (arith, fact.confirm_has (state_after meeting early) (step 2 1) 1 0 c, ap (λ (p : Shown). p.0.1.stamp) comes.apart);
      reaches = reaches;
      held = (to, from);
      contact = ((after.by_confirm 0 0 1 reaches).0 to, (after.by_confirm 0 0 1 reaches).1 from);
      agree = after.agree 0 0 1 reaches to from (ap (λ (p : Shown). p.1.1) end) (ap (λ (p : Shown). p.1.0) end);
      back = back;
      back_waits = fact.propagated (state_after meeting later) (step 1 1) 0 1 0 back;
    }
