-- What the theorems say of a machine after a list of steps from state s.
use Rattle.std.specs.Prelude.{Bool, ◌≡◌, ◌⊎◌, ℕ, ◌≤◌, ◌<◌, T}
use mathlib.Core.List.{List, ◌∷◌, ◌++◌, Memᴰ}
use Rattle.agreement.specs.Order.{NotOlder, Comparable}
use Rattle.agreement.specs.View.{NewerWaits, NoneWaits, Agree, Neighbours}
use Rattle.agreement.specs.Moves.{write}
use Rattle.agreement.specs.Stamps.{by_stamp}
use Rattle.agreement.specs.History.{Numbered, WrittenAt}
use Rattle.agreement.specs.Machine.{after_steps, Machine, Writes, InContact, view_after, entry_after, history_of, all_writes}
use Rattle.agreement.specs.Blame.{Blamed}

-- for any strict order of entries; that the entries written to a key are comparable is for the machine to show
pub record Agreement {E : Type 0} {newer : E → E → Bool} (M : Machine newer) (absent : E) (s : M.State) (xs : List M.Step) : Type 0 where
  -- (i) an agent's entry was written
  pub written : (k a : ℕ) → (entry_after M s xs k a ≡ absent) ⊎ Memᴰ (entry_after M s xs k a) (history_of M s xs k)
  -- (ii) two entries of which neither is newer are equal
  pub equal : (k : ℕ) → Comparable newer (history_of M s xs k) → (a b : ℕ)
      → (T (newer (entry_after M s xs k a) (entry_after M s xs k b)) → ⊥)
      → (T (newer (entry_after M s xs k b) (entry_after M s xs k a)) → ⊥)
      → entry_after M s xs k a ≡ entry_after M s xs k b
  -- (iii) an agent's entry is not older than after any earlier steps
  pub never_older : (before since : List M.Step) → xs ≡ before ++ since → (k a : ℕ) → NotOlder newer (entry_after M s xs k a) (entry_after M s before k a)
  -- and not older than what the agent wrote itself
  pub own : (before since : List M.Step) (x : M.Step) → xs ≡ before ++ (x ∷ since) → (k a : ℕ) (e : E)
      → (M.turn (after_steps M.next s before) x k).move ≡ write a e → NotOlder newer (entry_after M s xs k a) e
  -- (iv) from any moment on: if a's entry was newer than b's only while the key waited in a, and since then the link from a to b held before every step in
  -- which a propagates the key, then so it is now
  pub pair : (before since : List M.Step) → xs ≡ before ++ since → (k a b : ℕ) → InContact M s before since k a b → NewerWaits newer (view_after M s xs k) a b
  -- and if it is not so now, though it was at some moment, then since that moment there is a step to blame
  pub blame : (before since : List M.Step) → xs ≡ before ++ since → (k a b : ℕ) → NewerWaits newer (view_after M s before k) a b
      → T (newer (entry_after M s xs k a) (entry_after M s xs k b)) → (T ((view_after M s xs k).waits a) → ⊥) → Blamed M (after_steps M.next s before) since k a b
  -- in a chain whose neighbours were so both ways, and in which the key waits nowhere, all agents have the same entry or none has one
  pub chain : (before since : List M.Step) → xs ≡ before ++ since → (k : ℕ) → Comparable newer (history_of M s xs k)
      → (l : List ℕ) → Neighbours (InContact M s before since k) l → NoneWaits l (view_after M s xs k) → Agree l (view_after M s xs k)

-- for entries ordered by a stamp, where one clock numbers the writes
pub record StampAgreement {E : Type 0} (stamp : E → ℕ) (M : Machine (by_stamp stamp)) (H : Writes stamp M) (absent : E) (s : M.State) (xs : List M.Step) : Type 0 where
  pub agreement : Agreement M absent s xs
  -- write n, counted from 1, bears stamp n
  pub numbered : Numbered (λ w. stamp (H.entry w)) 0 (all_writes H s xs)
  -- of two different entries written to a key one is newer
  pub comparable : (k : ℕ) → Comparable (by_stamp stamp) (history_of M s xs k)
  -- (i) an entry, with a stamp above 0, is the one that the write of that number wrote to the key; d stands for a write that is not there
  pub written : (d : H.Write) (k a : ℕ) → 0 < stamp (entry_after M s xs k a)
      → WrittenAt stamp H.key H.entry d (all_writes H s xs) k (entry_after M s xs k a)
  -- (ii) two entries with equal stamps are equal
  pub equal : (k a b : ℕ) → stamp (entry_after M s xs k a) ≡ stamp (entry_after M s xs k b) → entry_after M s xs k a ≡ entry_after M s xs k b
  -- (iii) an agent's stamp is at least what it was after any earlier steps
  pub never_fall : (before since : List M.Step) → xs ≡ before ++ since → (k a : ℕ) → stamp (entry_after M s before k a) ≤ stamp (entry_after M s xs k a)
