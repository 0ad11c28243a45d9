-- DONE STEPS OF MANY KINDS: a small fleet whose steps use SEQ, PAR, a call, a guard, an environment write, QRY1, QRY2, ADD and UPDATE, each done and allowed.
-- Assumes nothing.
use Prim.Native.Nat.{ℕ}
use mathlib.Core.Bool.{true}
use mathlib.Core.Path.{◌≡◌, refl}
use mathlib.Core.List.{List, [], ◌∷◌}
use lib.Dec.{ltb}
use lib.ListN.{length, get_or, take, drop}
use Rattle.basis.specs.Numbers.{every}
use Rattle.agreement.specs.Machine.{Before}
use Rattle.table.specs.Checks.{first_of, passes}
use Rattle.table.specs.Tables.{table_of}
use Rattle.term.specs.Acceptance.{table_checks}
use Rattle.state.specs.declared.Store.TheVariants.{Environment, Attributes, Entries}
use Rattle.state.specs.Layout.{length_at, residual_at, word_of, stamp_of, writer_of, zc_of, zp_of}
use Rattle.state.specs.Entries.{clock_of}
use Rattle.state.specs.WellFormed.{loaded}
use Rattle.steps.specs.Steps.{Outcome}
use Rattle.steps.proofs.Computing.{computing}
use Rattle.labs.specs.Lists.{Step, outcome_of, next}
use Rattle.labs.proofs.Ready.{loaded_ready}
use Rattle.instances.proofs.DoneSteps.{small_bytes, all_done, DoneAllowed, all_allowed}

-- Sizes 30, 1, 2, 1, 1, 1: one definition, two agents, attribute a, stigmergy key x, environment key e.
-- Agent 0, node 25: (x := 7; e := x; e := x + 1); x := 3 (nodes 1, 3, 7, 24). Agent 1, node 22, calls definition 0, node 18: a := 1 | (e = 7 → x := 9) (nodes 11, 17).
-- The link of x, node 21: the receiver's a = 1
abbrev pub small_fleet : List ℕ
small_fleet =
    30 ∷ 0 ∷ 1 ∷ 0 ∷ 2 ∷ 0 ∷ 1 ∷ 0 ∷ 1 ∷ 0 ∷ 1 ∷ 0
    ∷ 32 ∷ 3 ∷ 34 ∷ 4 ∷ 34 ∷ 32 ∷ 36 ∷ 4 ∷ 5 ∷ 5 ∷ 32 ∷ 2 ∷ 35 ∷ 32 ∷ 17 ∷ 32 ∷ 3 ∷ 7 ∷ 8 ∷ 33 ∷ 32 ∷ 17 ∷ 9 ∷ 32 ∷ 3 ∷ 5 ∷ 64 ∷ 64 ∷ 64 ∷ 64
    ∷ 7 ∷ 0 ∷ 0 ∷ 0 ∷ 0 ∷ 0 ∷ 0 ∷ 0 ∷ 0 ∷ 0 ∷ 0 ∷ 0 ∷ 0 ∷ 0 ∷ 2 ∷ 0 ∷ 0 ∷ 0 ∷ 0 ∷ 0 ∷ 1 ∷ 0 ∷ 0 ∷ 0 ∷ 4 ∷ 0 ∷ 5 ∷ 0
    ∷ 0 ∷ 0 ∷ 6 ∷ 0 ∷ 3 ∷ 0 ∷ 7 ∷ 0 ∷ 1 ∷ 0 ∷ 8 ∷ 0 ∷ 1 ∷ 0 ∷ 0 ∷ 0 ∷ 0 ∷ 0 ∷ 10 ∷ 0 ∷ 0 ∷ 0 ∷ 0 ∷ 0 ∷ 7 ∷ 0 ∷ 0 ∷ 0
    ∷ 12 ∷ 0 ∷ 13 ∷ 0 ∷ 9 ∷ 0 ∷ 0 ∷ 0 ∷ 0 ∷ 0 ∷ 15 ∷ 0 ∷ 14 ∷ 0 ∷ 16 ∷ 0 ∷ 11 ∷ 0 ∷ 17 ∷ 0 ∷ 0 ∷ 0 ∷ 2 ∷ 0 ∷ 1 ∷ 0 ∷ 0 ∷ 0
    ∷ 19 ∷ 0 ∷ 20 ∷ 0 ∷ 0 ∷ 0 ∷ 0 ∷ 0 ∷ 3 ∷ 0 ∷ 0 ∷ 0 ∷ 0 ∷ 0 ∷ 23 ∷ 0 ∷ 9 ∷ 0 ∷ 24 ∷ 0 ∷ 18 ∷ 0 ∷ 0 ∷ 0 ∷ 21 ∷ 0 ∷ 0 ∷ 0 ∷ 25 ∷ 0 ∷ 0 ∷ 0 ∷ 22 ∷ 0 ∷ 0 ∷ 0 ∷ []

-- kind, agent, number; 60 words of scratch
abbrev step : ℕ → ℕ → ℕ → Step
step kind agent number = record { kind = kind; agent = agent; number = number; scratch = 60 }

abbrev pub steps : List Step
steps =
    step 0 0 0 ∷ step 1 0 0 ∷ step 0 1 0 ∷ step 0 0 0 ∷ step 2 0 0 ∷ step 1 1 0 ∷ step 0 1 0 ∷ step 1 1 0 ∷ step 0 0 0 ∷ step 2 0 0 ∷ step 0 0 0 ∷ step 1 0 0 ∷ step 0 0 0 ∷ []

-- what a step comes to: how many had no entry and took one, how many had an older one, the clock, e; of agent 0 value, stamp and writer of x, Zc, Zp; of agent 1 a, value, stamp and
-- writer of x, Zc, Zp;
-- and the words of what is left of the stepping agent's process
abbrev shown : ℕ → Outcome → List ℕ
shown x o =
    o.tally.added ∷ o.tally.replaced ∷ clock_of o.state ∷ word_of o.state Environment 0
    ∷ word_of o.state (Entries 0) 0 ∷ stamp_of o.state 0 0 ∷ writer_of o.state 0 0 ∷ zc_of o.state 0 ∷ zp_of o.state 0
    ∷ word_of o.state (Attributes 1) 0 ∷ word_of o.state (Entries 1) 0 ∷ stamp_of o.state 1 0 ∷ writer_of o.state 1 0 ∷ zc_of o.state 1 ∷ zp_of o.state 1
    ∷ take (get_or o.state (length_at x) 0) (drop (residual_at x) o.state)

abbrev all_shown : List ℕ → List Step → List (List ℕ)
all_shown s [] = []
all_shown s (x ∷ xs) = shown x.agent (outcome_of small_fleet s x) ∷ all_shown (next small_fleet s x) xs

abbrev expected : List (List ℕ)
expected =
    (0 ∷ 0 ∷ 1 ∷ 0 ∷ 7 ∷ 1 ∷ 0 ∷ 0 ∷ 1 ∷ 0 ∷ 0 ∷ 0 ∷ 0 ∷ 0 ∷ 0 ∷ 65535 ∷ 65535 ∷ 65533 ∷ 8 ∷ 24 ∷ [])  -- SEQ: x := 7 at the left, which leaves tick
    ∷ (0 ∷ 0 ∷ 1 ∷ 0 ∷ 7 ∷ 1 ∷ 0 ∷ 0 ∷ 0 ∷ 0 ∷ 0 ∷ 0 ∷ 0 ∷ 0 ∷ 0 ∷ 65535 ∷ 65535 ∷ 65533 ∷ 8 ∷ 24 ∷ [])  -- the link does not hold: nobody takes x
    ∷ (0 ∷ 0 ∷ 1 ∷ 0 ∷ 7 ∷ 1 ∷ 0 ∷ 0 ∷ 0 ∷ 1 ∷ 0 ∷ 0 ∷ 0 ∷ 0 ∷ 0 ∷ 65534 ∷ 65533 ∷ 17 ∷ [])  -- the call, PAR: a := 1 at the left
    ∷ (0 ∷ 0 ∷ 1 ∷ 7 ∷ 7 ∷ 1 ∷ 0 ∷ 1 ∷ 0 ∷ 1 ∷ 0 ∷ 0 ∷ 0 ∷ 0 ∷ 0 ∷ 65535 ∷ 65535 ∷ 65533 ∷ 7 ∷ 24 ∷ [])  -- SEQ: the tick at the left joins the right; e := x sets the environment
    ∷ (1 ∷ 0 ∷ 1 ∷ 7 ∷ 7 ∷ 1 ∷ 0 ∷ 0 ∷ 0 ∷ 1 ∷ 7 ∷ 1 ∷ 0 ∷ 0 ∷ 1 ∷ 65535 ∷ 65535 ∷ 65533 ∷ 7 ∷ 24 ∷ [])  -- QRY1 and ADD: agent 1 has no entry and takes it
    ∷ (0 ∷ 0 ∷ 1 ∷ 7 ∷ 7 ∷ 1 ∷ 0 ∷ 0 ∷ 0 ∷ 1 ∷ 7 ∷ 1 ∷ 0 ∷ 0 ∷ 0 ∷ 65534 ∷ 65533 ∷ 17 ∷ [])
    ∷ (0 ∷ 0 ∷ 2 ∷ 7 ∷ 7 ∷ 1 ∷ 0 ∷ 0 ∷ 0 ∷ 1 ∷ 9 ∷ 2 ∷ 1 ∷ 0 ∷ 1 ∷ 65534 ∷ 65533 ∷ 65533 ∷ [])  -- PAR: x := 9 at the right, under the guard e = 7
    ∷ (0 ∷ 0 ∷ 2 ∷ 7 ∷ 7 ∷ 1 ∷ 0 ∷ 0 ∷ 0 ∷ 1 ∷ 9 ∷ 2 ∷ 1 ∷ 0 ∷ 0 ∷ 65534 ∷ 65533 ∷ 65533 ∷ [])
    ∷ (0 ∷ 0 ∷ 2 ∷ 8 ∷ 7 ∷ 1 ∷ 0 ∷ 1 ∷ 0 ∷ 1 ∷ 9 ∷ 2 ∷ 1 ∷ 0 ∷ 0 ∷ 65535 ∷ 65533 ∷ 24 ∷ [])  -- the tick joins e := x + 1
    ∷ (0 ∷ 0 ∷ 2 ∷ 8 ∷ 7 ∷ 1 ∷ 0 ∷ 0 ∷ 0 ∷ 1 ∷ 9 ∷ 2 ∷ 1 ∷ 0 ∷ 1 ∷ 65535 ∷ 65533 ∷ 24 ∷ [])  -- QRY2: agent 1 has a newer entry, and x waits in it again
    ∷ (0 ∷ 0 ∷ 3 ∷ 8 ∷ 3 ∷ 3 ∷ 0 ∷ 0 ∷ 1 ∷ 1 ∷ 9 ∷ 2 ∷ 1 ∷ 0 ∷ 1 ∷ 65533 ∷ [])  -- the tick joins x := 3
    ∷ (0 ∷ 1 ∷ 3 ∷ 8 ∷ 3 ∷ 3 ∷ 0 ∷ 0 ∷ 0 ∷ 1 ∷ 3 ∷ 3 ∷ 0 ∷ 0 ∷ 1 ∷ 65533 ∷ [])  -- PUT and UPDATE: agent 1's entry is older now
    ∷ (0 ∷ 0 ∷ 3 ∷ 8 ∷ 3 ∷ 3 ∷ 0 ∷ 0 ∷ 0 ∷ 1 ∷ 3 ∷ 3 ∷ 0 ∷ 0 ∷ 1 ∷ 65532 ∷ [])  -- the last tick
    ∷ []

-- by computing
computed : (first_of (table_checks small_fleet true 60) ≡ passes) × (every (λ (i : ℕ). ltb (get_or small_fleet i 0) 256) (length small_fleet) ≡ true)
    × (all_done small_fleet (loaded (table_of small_fleet)) steps ≡ true) × (all_shown (loaded (table_of small_fleet)) steps ≡ expected)
unfolding computing
computed = (refl, refl, refl, refl)

pub record Instances : Type 0 where
  pub accepted : first_of (table_checks small_fleet true 60) ≡ passes
  -- from load on, every step is done and allowed
  pub allowed : Before (next small_fleet) (DoneAllowed small_fleet) (loaded (table_of small_fleet)) steps
  pub comes : all_shown (loaded (table_of small_fleet)) steps ≡ expected

pub instances : Instances
instances =
    let small = small_bytes small_fleet computed.1 in
    record {
      accepted = computed.0;
      allowed = all_allowed small_fleet small (loaded (table_of small_fleet)) (loaded_ready small_fleet small 60 computed.0).state.small steps computed.2;
      comes = computed.3;
    }
