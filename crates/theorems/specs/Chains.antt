-- Chains of agents whose neighbours are linked both ways, and in none of which a key waits to be propagated: they agree.
use Rattle.std.specs.Prelude.{ℕ, ◌<◌, false, ◌≡◌, ◌⊎◌}
use Rattle.std.proofs.Math.Option.{some}
use mathlib.Core.List.{List, ◌∷◌, ◌++◌, Memᴰ}
use Rattle.basis.specs.KeySets.{has}
use Rattle.agreement.specs.View.{Neighbours}
use Rattle.table.specs.Checks.{passes}
use Rattle.table.specs.Tables.{table_of}
use Rattle.state.specs.declared.Entry.{Entry}
use Rattle.state.specs.Layout.{zp_of}
use Rattle.state.specs.Entries.{entry, entry_of, newer}
use Rattle.state.specs.WellFormed.{loaded}
use Rattle.steps.specs.Steps.{load_of}
use Rattle.steps.specs.Shelves.{place_limit, name_of, saved_of}
use Rattle.labs.specs.Lists.{Step, Line, state_after}
use Rattle.labs.specs.Demand2.{Bytes}
use Rattle.theorems.specs.Demand3.{Write, entry_written, history, HeldBeforeSteps}
use Rattle.theorems.specs.Contact.{HeldBeforePropagates, InContact}
use Rattle.theorems.specs.Surviving.{Element, state_then, shelf_then, surviving_line, kept_line, NoNames}

module _ (s : List ℕ) (k : ℕ) where
  -- k does not wait in a
  abbrev pub Silent : ℕ → Type 0
  Silent a = has (zp_of s a) k ≡ false

  -- every agent of the list has this for k: value, stamp and writer
  abbrev pub AllHave : Entry → List ℕ → Type 0
  AllHave e l = (a : ℕ) → Memᴰ a l → entry_of s a k ≡ e

  -- either all agents of the list have the same entry for k, with a stamp above 0, or none has one, and the three words are 0
  abbrev pub Agree : List ℕ → Type 0
  Agree l = ((e : Entry) × (0 < e.stamp) × AllHave e l) ⊎ AllHave (entry 0 0 0) l

-- no write of the list is to key k
abbrev pub Unwritten : ℕ → List Write → Type 0
Unwritten k h = (w : Write) → Memᴰ w h → w.key ≡ k → ⊥

-- in history h, e is the entry of the last write to k
pub record LastWritten (h : List Write) (k : ℕ) (e : Entry) : Type 0 where
  pub before : List Write
  pub write : Write
  pub after : List Write
  pub split : h ≡ before ++ (write ∷ after)
  pub to_key : write.key ≡ k
  pub wrote : entry_written write ≡ e
  pub none_after : Unwritten k after

module _ (bytes s : List ℕ) where
  -- of every key k and every chain, a list of agents of any length, where `Held k a b` is what is asked of k's link from a to b: if that is so of every
  -- two neighbours, both ways, and k waits in no agent of the chain, then all its agents agree
  abbrev pub ChainsAgree : (ℕ → ℕ → ℕ → Type 0) → Type 0
  ChainsAgree Held =
      (k : ℕ) (chain : List ℕ) → k < (table_of bytes).sizes.stigmergy → ((a : ℕ) → Memᴰ a chain → a < (table_of bytes).sizes.agents) →
      Neighbours (Held k) chain → ((a : ℕ) → Memᴰ a chain → Silent s k a) → Agree s k chain

  -- where the steps xs from load gave state s
  pub record Chains (xs : List Step) : Type 0 where
    -- the links held before every step since load
    pub steady : ChainsAgree (HeldBeforeSteps bytes xs)
    -- each link held before the done propagates of the key by its sender since load
    pub propagated : ChainsAgree (HeldBeforePropagates bytes (loaded (table_of bytes)) xs)
    -- the same since any moment at which an agent's entry was newer than a neighbour's only while the key waited in that agent
    pub contact : (before since : List Step) → xs ≡ before ++ since → ChainsAgree (InContact bytes before since)
    -- two agents in steady contact do not fall silent and disagree: a chain of two
    pub two : (a b k : ℕ) → a < (table_of bytes).sizes.agents → b < (table_of bytes).sizes.agents → k < (table_of bytes).sizes.stigmergy →
        HeldBeforeSteps bytes xs k a b → HeldBeforeSteps bytes xs k b a → Silent s k a → Silent s k b → entry_of s a k ≡ entry_of s b k
    -- ON WHAT agents agree, whatever was asked of their links: where all agents of a list have e for k, no write to k by one of them is newer than e
    pub none_newer_own : (k : ℕ) (l : List ℕ) (e : Entry) → k < (table_of bytes).sizes.stigmergy → AllHave s k e l →
        (w : Write) → Memᴰ w (history bytes xs) → w.key ≡ k → Memᴰ w.agent l → newer (entry_written w) e ≡ false
    -- where the list has all agents, no write to k is newer
    pub none_newer : (k : ℕ) (l : List ℕ) (e : Entry) → k < (table_of bytes).sizes.stigmergy → AllHave s k e l → ((a : ℕ) → a < (table_of bytes).sizes.agents → Memᴰ a l) →
        (w : Write) → Memᴰ w (history bytes xs) → w.key ≡ k → newer (entry_written w) e ≡ false
    -- and since one clock numbers all writes, e is the last write to k, or there is none and they have no entry
    pub last_written : (k : ℕ) (l : List ℕ) (e : Entry) → k < (table_of bytes).sizes.stigmergy → AllHave s k e l → ((a : ℕ) → a < (table_of bytes).sizes.agents → Memᴰ a l) →
        LastWritten (history bytes xs) k e ⊎ (Unwritten k (history bytes xs) × (e ≡ entry 0 0 0))

-- ALONG SURVIVING LINES, after any list of steps, runs, loads, saves, restores and drops
pub record ChainsSurviving (bytes shelf : List ℕ) (es : List Element) : Type 0 where
  -- the state, by the steps of the surviving line
  pub now : Chains bytes (state_then bytes shelf es) (surviving_line bytes shelf es).steps
  -- every held state, by the steps of the line kept under its name
  pub held : (i : ℕ) → i < place_limit → (name_of (shelf_then bytes shelf es) i ≡ 0 → ⊥) →
      (l : Line) × (kept_line bytes shelf es (name_of (shelf_then bytes shelf es) i) ≡ some l) × Chains bytes (saved_of (shelf_then bytes shelf es) i) l.steps

-- for every table that load accepts: after every list of steps, and after every list of elements from a shelf of no names
abbrev pub ChainsHold : Type 0
ChainsHold =
    (bytes lent : List ℕ) (scratch : ℕ) → (load_of bytes lent scratch).check ≡ passes →
    ((xs : List Step) → Chains bytes (state_after bytes xs) xs)
    × (Bytes bytes → (shelf : List ℕ) → NoNames shelf → (es : List Element) → ChainsSurviving bytes shelf es)
