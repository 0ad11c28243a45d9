-- A machine of many keys, of which every step is a turn to every key.
use Rattle.std.specs.Prelude.{Bool, false, ◌≡◌, List, [], ◌∷◌, ◌++◌, ℕ, ◌+◌, T, length}
use Rattle.agreement.specs.View.{View, NewerWaits}
use Rattle.agreement.specs.Moves.{propagate, Fresh, wrote}
use Rattle.agreement.specs.Turns.{Turn, after_turn, history}
use Rattle.agreement.specs.Stamps.{by_stamp}
use Rattle.agreement.specs.History.{Numbered, entries_of}

module _ {State Step : Type 0} (next : State → Step → State) where
  -- the state after a list of steps, each done in the state that the one before left
  abbrev pub after_steps : State → List Step → State
  after_steps s [] = s
  after_steps s (x ∷ xs) = after_steps (next s x) xs

  -- P holds of every step of the list with the state before it
  abbrev pub Before : (State → Step → Type 0) → State → List Step → Type 0
  Before P s [] = Unit {0}
  Before P s (x ∷ xs) = P s x × Before P (next s x) xs

  -- the turns that a list of steps is to key k, where `turn s x k` is what step x in state s is to it
  abbrev pub turns_of : {E : Type 0} → (State → Step → ℕ → Turn E) → State → List Step → ℕ → List (Turn E)
  turns_of turn s [] k = []
  turns_of turn s (x ∷ xs) k = turn s x k ∷ turns_of turn (next s x) xs k

  -- the writes of a list of steps, where `adds s x` are those of step x in state s
  abbrev pub writes_of : {W : Type 0} → (State → Step → List W) → State → List Step → List W
  writes_of adds s [] = []
  writes_of adds s (x ∷ xs) = adds s x ++ writes_of adds (next s x) xs

-- a machine, and what it shows of one step: the key's view after the step is the view before it after the step's turn
pub record Machine {E : Type 0} (newer : E → E → Bool) : Type 1 where
  pub State : Type 0
  pub Step : Type 0
  pub next : State → Step → State
  -- the view of a key in a state
  pub view : State → ℕ → View E
  -- what a step is to a key, in the state before it
  pub turn : State → Step → ℕ → Turn E
  -- what every step keeps; the facts below are asked only where it holds
  pub Invariant : State → Type 0
  pub invariant_next : (s : State) (x : Step) → Invariant s → Invariant (next s x)
  pub entry_next : (s : State) (x : Step) (k a : ℕ) → Invariant s → (view (next s x) k).entry a ≡ (after_turn newer (turn s x k) (view s k)).entry a
  pub waits_next : (s : State) (x : Step) (k a : ℕ) → Invariant s → (view (next s x) k).waits a ≡ (after_turn newer (turn s x k) (view s k)).waits a
  pub fresh_next : (s : State) (x : Step) (k : ℕ) → Invariant s → Fresh newer (turn s x k).move (view s k)

-- a state to start from: no agent has an entry, and no key waits
pub record Start {E : Type 0} {newer : E → E → Bool} (M : Machine newer) (absent : E) (s : M.State) : Type 0 where
  pub invariant : M.Invariant s
  pub no_entry : (k a : ℕ) → (M.view s k).entry a ≡ absent
  pub no_waits : (k a : ℕ) → (M.view s k).waits a ≡ false

module _ {E : Type 0} {newer : E → E → Bool} (M : Machine newer) (s : M.State) (xs : List M.Step) where
  -- the view of a key after the steps, and an agent's entry in it
  abbrev pub view_after : ℕ → View E
  view_after k = M.view (after_steps M.next s xs) k

  abbrev pub entry_after : ℕ → ℕ → E
  entry_after k a = (view_after k).entry a

  -- the entries that the steps write to a key, the first first
  abbrev pub history_of : ℕ → List E
  history_of k = history (turns_of M.next M.turn s xs k)

  -- key k's link from a to b held before every step in which a propagates k
  abbrev pub HeldBeforePropagates : ℕ → ℕ → ℕ → Type 0
  HeldBeforePropagates k a b = Before M.next (λ s x. (M.turn s x k).move ≡ propagate a → T ((M.turn s x k).link a b)) s xs

-- after the steps `before` from s, a's entry for k was newer than b's only while k waited in a; in the steps `since` from there, the link held so
pub record InContact {E : Type 0} {newer : E → E → Bool} (M : Machine newer) (s : M.State) (before since : List M.Step) (k a b : ℕ) : Type 0 where
  pub newer_waits : NewerWaits newer (view_after M s before k) a b
  pub link_held : HeldBeforePropagates M (after_steps M.next s before) since k a b

-- the writes of a machine in which one clock numbers them: each write is one step of the clock, and its entry bears the new number
pub record Writes {E : Type 0} (stamp : E → ℕ) (M : Machine (by_stamp stamp)) : Type 1 where
  pub Write : Type 0
  pub key : Write → ℕ
  pub entry : Write → E
  pub clock : M.State → ℕ
  -- the writes of a step, in the state before it
  pub adds : M.State → M.Step → List Write
  pub adds_numbered : (s : M.State) (x : M.Step) → M.Invariant s → Numbered (λ w. stamp (entry w)) (clock s) (adds s x)
  pub clock_next : (s : M.State) (x : M.Step) → M.Invariant s → clock (M.next s x) ≡ clock s + length (adds s x)
  pub adds_entries : (s : M.State) (x : M.Step) (k : ℕ) → M.Invariant s → wrote (M.turn s x k).move ≡ entries_of key entry k (adds s x)

-- the history of all keys: the writes of a list of steps, the first first
abbrev pub all_writes : {E : Type 0} {stamp : E → ℕ} {M : Machine (by_stamp stamp)} (H : Writes stamp M) (s : M.State) (xs : List M.Step) → List H.Write
all_writes {M = M} H s xs = writes_of M.next H.adds s xs
