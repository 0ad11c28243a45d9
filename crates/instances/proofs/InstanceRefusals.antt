-- EVERY NUMBER IS ANSWERED: a load that is done, and for each number from 1 to 22 a call that is refused with it, by all seven calls.
-- Assumes nothing.
use Prim.Native.Nat.{ℕ, zero, suc}
use mathlib.Core.Path.{◌≡◌, refl}
use mathlib.Core.List.{List, [], ◌∷◌, ◌++◌}
use lib.ListN.{set, take, replicate}
use Rattle.table.specs.Checks.{Check, passes, refuses}
use Rattle.table.specs.Tables.{table_of}
use Rattle.state.specs.WellFormed.{loaded}
use Rattle.steps.specs.Acts.{leave}
use Rattle.steps.specs.Steps.{load_of, step_of}
use Rattle.steps.specs.Previews.{preview_of}
use Rattle.steps.specs.Runs.{run_of}
use Rattle.steps.specs.Shelves.{place_formed, shelf_formed}
use Rattle.steps.specs.Points.{change, save_of, restore_of, drop_of}
use Rattle.steps.proofs.Computing.{computing}
use Rattle.instances.proofs.Instance.{fleet, stepped, s₀, s₁}

-- a state's words, and a shelf's, all 0
abbrev no_state : List ℕ
no_state = replicate 4706 0

abbrev no_names : List ℕ
no_names = replicate 37656 0

abbrev load : List ℕ → ℕ → Check
load bytes scratch = (load_of bytes no_state scratch).check

-- what a table leaves to its agent 0 after load, but for the residual, which is these words; agent 0 then does its choice 0
abbrev holding : List ℕ → List ℕ → List ℕ
holding bytes ws = leave 0 ws (loaded (table_of bytes))

abbrev acting : List ℕ → ℕ → List ℕ → Check
acting bytes scratch ws = (step_of bytes (holding bytes ws) scratch 0 0 0).check

-- Sizes 5, 2, 1, 0, 0, 0. Definition 1 calls itself:
--   0 tick   1 call of 1   2, 3 roots, the bodies: nodes 0, 1   4 root, the agent: node 0
abbrev pub calling : List ℕ
calling =
    5 ∷ 0 ∷ 2 ∷ 0 ∷ 1 ∷ 0 ∷ 0 ∷ 0 ∷ 0 ∷ 0 ∷ 0 ∷ 0
    ∷ 1 ∷ 9 ∷ 64 ∷ 64 ∷ 64
    ∷ 0 ∷ 0 ∷ 0 ∷ 0 ∷ 1 ∷ 0 ∷ 0 ∷ 0 ∷ 0 ∷ 0 ∷ 0 ∷ 0 ∷ 1 ∷ 0 ∷ 0 ∷ 0 ∷ 0 ∷ 0 ∷ 0 ∷ 0 ∷ []

-- Sizes 20, 4, 1, 0, 0, 0. Nodes 2, 5, 8 and 11 have 2, 4, 16 and 256 derivations, and as a sequence (kind 5) node 14 has 65,536; as a choice (6) 512:
--   0, 1 ticks   2 node 0 + node 1   3, 4 calls of 0   5 node 3 ; node 4   6, 7 calls of 1   8 node 6 ; node 7   9, 10 calls of 2
--   11 node 9 ; node 10   12, 13 calls of 3   14 nodes 12 and 13, by its kind   15 to 18 roots, the bodies: nodes 2, 5, 8, 11   19 root: node 14
abbrev pub squaring : ℕ → List ℕ
squaring kind =
    20 ∷ 0 ∷ 4 ∷ 0 ∷ 1 ∷ 0 ∷ 0 ∷ 0 ∷ 0 ∷ 0 ∷ 0 ∷ 0
    ∷ 1 ∷ 1 ∷ 6 ∷ 9 ∷ 9 ∷ 5 ∷ 9 ∷ 9 ∷ 5 ∷ 9 ∷ 9 ∷ 5 ∷ 9 ∷ 9 ∷ kind ∷ 64 ∷ 64 ∷ 64 ∷ 64 ∷ 64
    ∷ 0 ∷ 0 ∷ 0 ∷ 0 ∷ 0 ∷ 0 ∷ 0 ∷ 0 ∷ 0 ∷ 0 ∷ 1 ∷ 0 ∷ 0 ∷ 0 ∷ 0 ∷ 0 ∷ 0 ∷ 0 ∷ 0 ∷ 0 ∷ 3 ∷ 0 ∷ 4 ∷ 0
    ∷ 1 ∷ 0 ∷ 0 ∷ 0 ∷ 1 ∷ 0 ∷ 0 ∷ 0 ∷ 6 ∷ 0 ∷ 7 ∷ 0 ∷ 2 ∷ 0 ∷ 0 ∷ 0 ∷ 2 ∷ 0 ∷ 0 ∷ 0 ∷ 9 ∷ 0 ∷ 10 ∷ 0
    ∷ 3 ∷ 0 ∷ 0 ∷ 0 ∷ 3 ∷ 0 ∷ 0 ∷ 0 ∷ 12 ∷ 0 ∷ 13 ∷ 0
    ∷ 2 ∷ 0 ∷ 0 ∷ 0 ∷ 5 ∷ 0 ∷ 0 ∷ 0 ∷ 8 ∷ 0 ∷ 0 ∷ 0 ∷ 11 ∷ 0 ∷ 0 ∷ 0 ∷ 14 ∷ 0 ∷ 0 ∷ 0 ∷ []

-- Sizes 9, 0, 1, 1, 0, 0:
--   0 constant 7   1 set attribute 0 to node 0   2 tick   3 node 1 ; node 2   4 true   5 not node 4   6 tick   7 node 5 → node 6   8 root: node 3
abbrev pub lone : List ℕ
lone =
    9 ∷ 0 ∷ 0 ∷ 0 ∷ 1 ∷ 0 ∷ 1 ∷ 0 ∷ 0 ∷ 0 ∷ 0 ∷ 0
    ∷ 32 ∷ 2 ∷ 1 ∷ 5 ∷ 16 ∷ 20 ∷ 1 ∷ 7 ∷ 64
    ∷ 7 ∷ 0 ∷ 0 ∷ 0 ∷ 0 ∷ 0 ∷ 0 ∷ 0 ∷ 0 ∷ 0 ∷ 0 ∷ 0 ∷ 1 ∷ 0 ∷ 2 ∷ 0
    ∷ 0 ∷ 0 ∷ 0 ∷ 0 ∷ 4 ∷ 0 ∷ 0 ∷ 0 ∷ 0 ∷ 0 ∷ 0 ∷ 0 ∷ 5 ∷ 0 ∷ 6 ∷ 0 ∷ 3 ∷ 0 ∷ 0 ∷ 0 ∷ []

-- idle ; (idle ; ..), with n sequences: 2n + 1 words
abbrev idles : ℕ → List ℕ
idles zero = 65532 ∷ []
idles (suc n) = 65535 ∷ 65532 ∷ idles n

-- a shelf on which names 1 to 8 hold the same state
abbrev full : List ℕ → List ℕ
full s = 1 ∷ 2 ∷ 3 ∷ 4 ∷ 5 ∷ 6 ∷ 7 ∷ 8 ∷ (s ++ (s ++ (s ++ (s ++ (s ++ (s ++ (s ++ s)))))))

-- Table fleet is the paper's for labs_show; s₀ is its loaded state, and s₁ that after agent 0's write
pub record EachNumber : Type 0 where
  pub done : load fleet 16 ≡ passes
  -- 11 bytes; 33 agents; one byte too many
  pub refused_1 : load (take 11 fleet) 16 ≡ refuses 1 0
  pub refused_2 : load (set fleet 4 33) 16 ≡ refuses 2 0
  pub refused_3 : load (fleet ++ (0 ∷ [])) 16 ≡ refuses 3 0
  -- node 3 names node 0, which node 1 names already; node 2, which a process reaches, asks for the sender
  pub refused_4 : load (set fleet 34 0) 16 ≡ refuses 4 3
  pub refused_5 : load (set fleet 30 1) 16 ≡ refuses 5 2
  pub refused_6 : load calling 10 ≡ refuses 6 1
  pub refused_7 : load (squaring 5) 40 ≡ refuses 7 14
  -- scratch is a word short; the state has no agents
  pub refused_8 : load fleet 15 ≡ refuses 8 0
  pub refused_9 : (restore_of fleet no_state 16 no_names 1).check ≡ refuses 9 0
  -- no step has kind 3; the key of agent 0's write waits
  pub refused_10 : (preview_of fleet s₀ 16 3 0 0 no_state).check ≡ refuses 10 0
  pub refused_11 : (stepped s₁ 0 0 0).check ≡ refuses 11 0
  -- node 11 ; node 11
  pub refused_12 : acting (squaring 6) 40 (65535 ∷ 11 ∷ 11 ∷ []) ≡ refuses 12 0
  pub refused_13 : (stepped s₀ 0 0 1).check ≡ refuses 13 0
  -- not true → tick
  pub refused_14 : acting lone 18 (7 ∷ []) ≡ refuses 14 0
  -- agent 1 has no entry to copy
  pub refused_15 : (stepped s₀ 0 1 0).check ≡ refuses 15 0
  pub refused_16 : (stepped (set s₀ 0 65535) 0 0 0).check ≡ refuses 16 0
  -- node 3 ; (idle ; ..), 63 words, would become (tick ; node 2) ; (idle ; ..)
  pub refused_17 : acting lone 18 (65535 ∷ 3 ∷ idles 30) ≡ refuses 17 0
  pub refused_18 : (stepped s₀ 1 0 0).check ≡ refuses 18 0
  -- no schedule; no byte for the answer of its one step
  pub refused_19 : (run_of fleet s₀ 16 [] []).check ≡ refuses 19 0
  pub refused_20 : (run_of fleet s₀ 16 (1 ∷ 0 ∷ 0 ∷ 0 ∷ 0 ∷ 0 ∷ 0 ∷ []) []).check ≡ refuses 20 0
  -- name 1 is not held; name 9 is a ninth
  pub refused_21 : (drop_of fleet 16 no_names 1).check ≡ refuses 21 0
  pub refused_22 : (save_of lone (loaded (table_of lone)) 18 (full (loaded (table_of lone))) 9).check ≡ refuses 22 0

-- by computing
pub each_number : EachNumber
unfolding computing preview_of save_of restore_of drop_of change place_formed shelf_formed
each_number = record {
  done = refl;
  refused_1 = refl;
  refused_2 = refl;
  refused_3 = refl;
  refused_4 = refl;
  refused_5 = refl;
  refused_6 = refl;
  refused_7 = refl;
  refused_8 = refl;
  refused_9 = refl;
  refused_10 = refl;
  refused_11 = refl;
  refused_12 = refl;
  refused_13 = refl;
  refused_14 = refl;
  refused_15 = refl;
  refused_16 = refl;
  refused_17 = refl;
  refused_18 = refl;
  refused_19 = refl;
  refused_20 = refl;
  refused_21 = refl;
  refused_22 = refl;
}
