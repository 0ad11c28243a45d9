-- CHAINS ARE ABOUT SOMETHING: three agents in a row, of which one writes, and silent ones agree. What is asked of them is needed: where a key
-- waits in one of them, or links hold one way only, they do not.
-- Assumes nothing.
use Prim.Native.Nat.{ℕ, zero, suc, ◌-◌, ◌<◌}
use mathlib.Core.Bool.{Bool, true, false, not, ◌&&◌, ◌||◌}
use mathlib.Core.Path.{◌≡◌, refl, ap, subst, ◌∙◌}
use mathlib.Core.Logic.{⊎_elim}
use mathlib.Core.Option.{some}
use mathlib.Core.List.{List, [], ◌∷◌, ◌++◌, Memᴰ}
use native.Mathlib.Omega.{arith}
use lib.Dec.{eqb}
use lib.ListN.{get_or, get_elem?, replicate}
use borrow.Author.Tests.{eq-eqb, lt-ltb}
use Rattle.basis.specs.Below.{below}
use Rattle.basis.specs.Numbers.{every}
use Rattle.basis.specs.KeySets.{has}
use Rattle.basis.proofs.Numbers.{every_at}
use Rattle.basis.proofs.Tests.{or_implies, and_left, and_right}
use Rattle.agreement.specs.View.{Neighbours}
use Rattle.agreement.proofs.Machine.{before_all}
use Rattle.table.specs.Checks.{passes, refuses}
use Rattle.table.specs.Tables.{table_of}
use Rattle.state.specs.declared.Entry.{Entry}
use Rattle.state.specs.Layout.{state_words, stamp_of, zp_of}
use Rattle.state.specs.Entries.{entry, entry_of, newer}
use Rattle.state.specs.Evaluation.{truth_step, link_holds}
use Rattle.state.specs.WellFormed.{loaded}
use Rattle.steps.specs.Steps.{load_of}
use Rattle.steps.proofs.Computing.{computing}
use Rattle.labs.specs.Lists.{Step, outcome_of, next, state_after}
use Rattle.theorems.specs.Demand3.{Write, entry_written, history, HeldBeforeSteps}
use Rattle.theorems.specs.Contact.{Propagates, HeldBeforePropagates}
use Rattle.theorems.specs.Chains.{Silent, AllHave, Agree, LastWritten, Chains}
use Rattle.theorems.proofs.Views.{stamp_in}
use Rattle.theorems.proofs.Demand3.{demand_3}
use Rattle.theorems.proofs.Chains.{members, same_words, chains_hold}

-- Three agents, attribute a, keys 0, 1 and 2. Agent 0: key 0 := 7; key 1 := 8; key 2 := 9. Agent 1, between the other two: a := 1. Agent 2 is idle.
-- Links: of key 0 true; of key 1 that s.a = 1 or r.a = 1, to agent 1 and from it; of key 2 that r.a = 1, to agent 1 only. Nodes:
--    0 constant 7         1 key 0 := node 0   2 constant 8   3 key 1 := node 2   4 constant 9       5 key 2 := node 4   6 nodes 3; 5   7 nodes 1; 6
--    8 constant 1         9 a := node 8      10 idle        11 true             12 s.a             13 constant 1       14 nodes 12 = 13
--   15 r.a               16 constant 1       17 nodes 15 = 16                   18 nodes 14 or 17  19 r.a              20 constant 1
--   21 nodes 19 = 20     22 to 24 the links: nodes 11, 18, 21                   25 to 27 the agents: nodes 7, 9, 10
-- Sizes 28, 0, 3, 1, 3, 0; kinds; operands
abbrev pub row : List ℕ
row =
    28 ∷ 0 ∷ 0 ∷ 0 ∷ 3 ∷ 0 ∷ 1 ∷ 0 ∷ 3 ∷ 0 ∷ 0 ∷ 0
    ∷ 32 ∷ 3 ∷ 32 ∷ 3 ∷ 32 ∷ 3 ∷ 5 ∷ 5 ∷ 32 ∷ 2 ∷ 0 ∷ 16 ∷ 33 ∷ 32 ∷ 17 ∷ 33 ∷ 32 ∷ 17 ∷ 22 ∷ 33 ∷ 32 ∷ 17 ∷ 64 ∷ 64 ∷ 64 ∷ 64 ∷ 64 ∷ 64
    ∷ 7 ∷ 0 ∷ 0 ∷ 0 ∷ 0 ∷ 0 ∷ 0 ∷ 0 ∷ 8 ∷ 0 ∷ 0 ∷ 0 ∷ 1 ∷ 0 ∷ 2 ∷ 0 ∷ 9 ∷ 0 ∷ 0 ∷ 0 ∷ 2 ∷ 0 ∷ 4 ∷ 0 ∷ 3 ∷ 0 ∷ 5 ∷ 0
    ∷ 1 ∷ 0 ∷ 6 ∷ 0 ∷ 1 ∷ 0 ∷ 0 ∷ 0 ∷ 0 ∷ 0 ∷ 8 ∷ 0 ∷ 0 ∷ 0 ∷ 0 ∷ 0 ∷ 0 ∷ 0 ∷ 0 ∷ 0 ∷ 0 ∷ 0 ∷ 1 ∷ 0 ∷ 1 ∷ 0 ∷ 0 ∷ 0
    ∷ 12 ∷ 0 ∷ 13 ∷ 0 ∷ 0 ∷ 0 ∷ 2 ∷ 0 ∷ 1 ∷ 0 ∷ 0 ∷ 0 ∷ 15 ∷ 0 ∷ 16 ∷ 0 ∷ 14 ∷ 0 ∷ 17 ∷ 0 ∷ 0 ∷ 0 ∷ 2 ∷ 0 ∷ 1 ∷ 0 ∷ 0 ∷ 0
    ∷ 19 ∷ 0 ∷ 20 ∷ 0 ∷ 11 ∷ 0 ∷ 0 ∷ 0 ∷ 18 ∷ 0 ∷ 0 ∷ 0 ∷ 21 ∷ 0 ∷ 0 ∷ 0 ∷ 7 ∷ 0 ∷ 0 ∷ 0 ∷ 9 ∷ 0 ∷ 0 ∷ 0 ∷ 10 ∷ 0 ∷ 0 ∷ 0 ∷ []

abbrev chain : List ℕ
chain = 0 ∷ 1 ∷ 2 ∷ []

abbrev act : ℕ → Step
act agent = record { kind = 0; agent = agent; number = 0; scratch = 56 }

abbrev propagate : ℕ → ℕ → Step
propagate agent key = record { kind = 1; agent = agent; number = key; scratch = 56 }

-- agent 1 sets its attribute; agent 0 writes key 0, and cannot act again before it propagates (refused)
abbrev pub written : List Step
written = act 1 ∷ act 0 ∷ act 0 ∷ []

-- all propagate it, and agent 0 writes key 1
abbrev pub again : List Step
again = written ++ (propagate 0 0 ∷ propagate 1 0 ∷ propagate 2 0 ∷ act 0 ∷ [])

-- all propagate that; agent 0 writes key 2 and propagates it to agent 1, and agent 1 to nobody
abbrev pub over : List Step
over = again ++ (propagate 0 1 ∷ propagate 1 1 ∷ propagate 2 1 ∷ act 0 ∷ propagate 0 2 ∷ propagate 1 2 ∷ [])

-- LINKS TESTED: n of them, in one pass over the steps
record Link : Type 0 where
  key : ℕ
  from : ℕ
  to : ℕ

abbrev link : ℕ → ℕ → ℕ → Link
link key from to = record { key = key; from = from; to = to }

module _ (bytes : List ℕ) (n : ℕ) (links : ℕ → Link) where
  abbrev is_propagate : Step → Link → Bool
  is_propagate x l = eqb x.kind 1 && (eqb x.agent l.from && eqb x.number l.key)

  -- the link is there, or its sender does not propagate its key
  abbrev held_test : List ℕ → Step → ℕ → Bool
  held_test s x i = not (is_propagate x (links i)) || link_holds (table_of bytes) s (links i).key (links i).from (links i).to

  abbrev held_tests : List ℕ → List Step → Bool
  held_tests s [] = true
  held_tests s (x ∷ xs) = every (held_test s x) n && held_tests (next bytes s x) xs

  held_tested : (s : List ℕ) (xs : List Step) → held_tests s xs ≡ true → (i : ℕ) → i < n
      → HeldBeforePropagates bytes s xs (links i).key (links i).from (links i).to
  held_tested s [] e i h = tt
  held_tested s (x ∷ xs) e i h =
      let first = every_at (held_test s x) n (and_left (every (held_test s x) n) (held_tests (next bytes s x) xs) e) i h in
      let rest = and_right (every (held_test s x) n) (held_tests (next bytes s x) xs) e in
      (λ p. or_implies (is_propagate x (links i)) _ (is_propagate_lem p) first, held_tested (next bytes s x) xs rest i h)
    where
      is_propagate_lem : Propagates bytes s x (links i).from (links i).key → is_propagate x (links i) ≡ true
      is_propagate_lem p = rw (eq-eqb x.kind 1 p.kind_propagate, eq-eqb x.agent (links i).from p.by_agent, eq-eqb x.number (links i).key p.of_key)

-- those of key 1 between neighbours, and of key 2 to agent 1
abbrev tested : List Link
tested = link 1 0 1 ∷ link 1 1 0 ∷ link 1 1 2 ∷ link 1 2 1 ∷ link 2 0 1 ∷ link 2 2 1 ∷ []

abbrev tested_at : ℕ → Link
tested_at i = get_or tested i (link 0 0 0)

-- WHAT COMES OF THE STEPS, of a key agent by agent: the entries, and whether it waits
abbrev pub Shown : Type 0
Shown = (Entry × Entry × Entry) × (Bool × Bool × Bool)

abbrev pub shown : List ℕ → ℕ → Shown
shown s k = ((entry_of s 0 k, entry_of s 1 k, entry_of s 2 k), (has (zp_of s 0) k, has (zp_of s 1) k, has (zp_of s 2) k))

abbrev pub all_shown : List ℕ → Shown × Shown × Shown
all_shown s = (shown s 0, shown s 1, shown s 2)

abbrev none : Entry
none = entry 0 0 0

pub record Comes : Type 0 where
  pub loads : (load_of row (replicate state_words 0) 56).check ≡ passes
  -- agent 0's second act is refused
  pub refused : (outcome_of row (state_after row (act 1 ∷ act 0 ∷ [])) (act 0)).check ≡ refuses 11 0
  -- after the write of key 0; and at the end, of all three keys
  pub then_0 : shown (state_after row written) 0 ≡ ((entry 7 1 0, none, none), (true, false, false))
  pub at_end : all_shown (state_after row over) ≡ (
    ((entry 7 1 0, entry 7 1 0, entry 7 1 0), (false, false, false)),
    ((entry 8 2 0, entry 8 2 0, entry 8 2 0), (false, false, false)),
    ((entry 9 3 0, entry 9 3 0, none), (false, false, false)),
  )
  -- agent 0 was not linked to agent 2 when it propagated key 1
  pub apart : link_holds (table_of row) (state_after row again) 1 0 2 ≡ false

pub comes : Comes
unfolding computing
comes = record { loads = refl; refused = refl; then_0 = refl; at_end = refl; apart = refl }

held_there : held_tests row 6 tested_at (loaded (table_of row)) over ≡ true
unfolding computing
held_there = refl

-- AND SO: the links of a key that held before the done propagates of their sender
abbrev Linked : ℕ → ℕ → ℕ → Type 0
Linked = HeldBeforePropagates row (loaded (table_of row)) over

pub record InARow : Type 0 where
  -- key 0's link held before every step, and it waits nowhere: they agree
  pub steady : Neighbours (HeldBeforeSteps row over 0) chain
  pub steady_agree : Agree (state_after row over) 0 chain
  -- key 1's held between neighbours whenever they propagated it, and it waits nowhere: they agree
  pub through : Neighbours (Linked 1) chain
  pub through_agree : Agree (state_after row over) 1 chain
  -- NEEDED, that the key waits in none: after the write of key 0 it waited in agent 0 alone, and they did not agree
  pub steady_then : Neighbours (HeldBeforeSteps row written 0) chain
  pub waiting_disagree : Agree (state_after row written) 0 chain → ⊥
  -- NEEDED, links both ways: of key 2 those to agent 1 held whenever they were asked (agent 2 does not propagate it), and it waits nowhere, but they do
  -- not agree
  pub one_way : Linked 2 0 1 × Linked 2 2 1
  pub one_way_disagree : Agree (state_after row over) 2 chain → ⊥

-- key 0's link is true, which reads nothing
always : (xs : List Step) → Neighbours (HeldBeforeSteps row xs 0) chain
unfolding below truth_step
always xs = (held 0 1, held 1 0, (held 1 2, held 2 1, tt))
  where
    held : (a b : ℕ) → HeldBeforeSteps row xs 0 a b
    held a b = before_all (next row) _ (λ s x. refl) (loaded (table_of row)) xs

linked_there : (i : ℕ) → i < 6 → Linked (tested_at i).key (tested_at i).from (tested_at i).to
linked_there = held_tested row 6 tested_at (loaded (table_of row)) over held_there

near : Neighbours (Linked 1) chain
near = (linked_there 0 (omega arith), linked_there 1 (omega arith), (linked_there 2 (omega arith), linked_there 3 (omega arith), tt))

all_held : Chains row (state_after row over) over
all_held = (chains_hold row (replicate state_words 0) 56 comes.loads).0 over

below_three : (a : ℕ) → Memᴰ a chain → a < (table_of row).sizes.agents
below_three = members (λ a. a < 3) chain (omega arith, (omega arith, (omega arith, tt)))

three_silent : (s : List ℕ) (k : ℕ) {e : Entry × Entry × Entry} → shown s k ≡ (e, (false, false, false)) → (a : ℕ) → Memᴰ a chain → Silent s k a
three_silent s k h = members (Silent s k) chain (ap (λ (p : Shown). p.1.0) h, (ap (λ (p : Shown). p.1.1) h, (ap (λ (p : Shown). p.1.2) h, tt)))

-- agents with different stamps do not agree: of the chain the first and the last
disagree : (s : List ℕ) (k : ℕ) → (stamp_of s 0 k ≡ stamp_of s 2 k → ⊥) → Agree s k chain → ⊥
disagree s k d h = d (ap stamp_in (same_words s k chain h 0 2 first last))
  where
    first : Memᴰ 0 chain
    first = Memᴰ.head refl

    last : Memᴰ 2 chain
    last = Memᴰ.tail (Memᴰ.tail (Memᴰ.head refl))

pub in_a_row : InARow
in_a_row =
    let s = state_after row over in
    let e = comes.at_end in
    let f = comes.then_0 in
    record {
      steady = always over;
      steady_agree = all_held.steady 0 chain (omega arith) below_three (always over) (three_silent s 0 (ap (λ (p : Shown × Shown × Shown). p.0) e));
      through = near;
      through_agree = all_held.propagated 1 chain (omega arith) below_three near (three_silent s 1 (ap (λ (p : Shown × Shown × Shown). p.1) e));
      steady_then = always written;
      waiting_disagree = disagree (state_after row written) 0 (λ d. omega (arith, ap (λ (p : Shown). p.0.0.stamp) f, ap (λ (p : Shown). p.0.2.stamp) f));
      one_way = (linked_there 4 (omega arith), linked_there 5 (omega arith));
      one_way_disagree = disagree s 2 (λ d.
          omega (arith, ap (λ (p : Shown × Shown × Shown). p.2.0.0.stamp) e, ap (λ (p : Shown × Shown × Shown). p.2.0.2.stamp) e));
    }

-- ON WHAT they agree
pub record Agreed : Type 0 where
  -- all agents have the same for key 1: it is the last write to it
  pub have : AllHave (state_after row over) 1 (entry 8 2 0) chain
  pub last : LastWritten (history row over) 1 (entry 8 2 0)
  -- NEEDED, that the write is by an agent of the list: agent 2 has no entry for key 2, and write 2, counted from 0, is to it, by another agent, and newer
  pub alone : AllHave (state_after row over) 2 none (2 ∷ [])
  pub others : (w : Write) × (get_elem? (history row over) 2 ≡ some w) × (w.key ≡ 2) × (w.agent ≡ 0) × (newer (entry_written w) none ≡ true)

all_three : (a : ℕ) → a < (table_of row).sizes.agents → Memᴰ a chain
all_three zero h = Memᴰ.head refl
all_three (suc zero) h = Memᴰ.tail (Memᴰ.head refl)
all_three (suc (suc zero)) h = Memᴰ.tail (Memᴰ.tail (Memᴰ.head refl))
all_three (suc (suc (suc a))) h = absurd (omega arith)

pub agreed : Agreed
agreed =
    let s = state_after row over in
    let e = comes.at_end in
    let have = members (λ (a : ℕ). entry_of s a 1 ≡ entry 8 2 0) chain
    (ap (λ (p : Shown × Shown × Shown). p.1.0.0) e, (ap (λ (p : Shown × Shown × Shown). p.1.0.1) e, (ap (λ (p : Shown × Shown × Shown). p.1.0.2) e, tt))) in
    let d = (demand_3 row (replicate state_words 0) 56 comes.loads).1 over in
    let third : entry_of s 0 2 ≡ entry 9 3 0 = ap (λ (p : Shown × Shown × Shown). p.2.0.0) e in
    let stamp : stamp_of s 0 2 ≡ 3 = ap stamp_in third in
    let n : stamp_of s 0 2 - 1 ≡ 2 = omega arith in
    let w = d.written 0 2 (omega arith) (omega arith) (omega arith) in
    let at : get_elem? (history row over) 2 ≡ some w.0 = subst (λ (n : ℕ). get_elem? (history row over) n ≡ some w.0) n w.1 in
    record {
      have = have;
      last = ⊎_elim (λ l. l) (λ p. absurd (omega (arith, ap stamp_in p.1))) (all_held.last_written 1 chain (entry 8 2 0) (omega arith) have all_three);
      alone = members (λ (a : ℕ). entry_of s a 2 ≡ none) (2 ∷ []) (ap (λ (p : Shown × Shown × Shown). p.2.0.2) e, tt);
      others = (w.0, at, w.2, w.4 ∙ ap (λ (r : Entry). r.writer) third, lt-ltb 0 w.0.stamp (omega (arith, d.numbered 2 w.0 at)));
    }
