-- One key in all agents. Agents are numbers.
use Rattle.std.specs.Prelude.{Bool, false, ◌≡◌, ℕ, T}
use mathlib.Core.List.{List, [], ◌∷◌, Memᴰ}

-- each agent's entry for the key, and the agents in which the key waits to be propagated
pub record View (E : Type 0) : Type 0 where
  pub entry : ℕ → E
  pub waits : ℕ → Bool

-- no agent has an entry, and the key waits in none
abbrev pub blank : {E : Type 0} → E → View E
blank absent = record { entry = λ a. absent; waits = λ a. false }

-- a's entry is newer than b's only while the key waits in a
abbrev pub NewerWaits : {E : Type 0} → (E → E → Bool) → View E → ℕ → ℕ → Type 0
NewerWaits newer v a b = T (newer (v.entry a) (v.entry b)) → T (v.waits a)

-- the key waits in no agent of the list
abbrev pub NoneWaits : {E : Type 0} → List ℕ → View E → Type 0
NoneWaits l v = (a : ℕ) → Memᴰ a l → T (v.waits a) → ⊥

-- all agents of the list have the same entry, or none has one
abbrev pub Agree : {E : Type 0} → List ℕ → View E → Type 0
Agree l v = (a b : ℕ) → Memᴰ a l → Memᴰ b l → v.entry a ≡ v.entry b

-- R holds of every two neighbours of the list, both ways
abbrev pub Neighbours : (ℕ → ℕ → Type 0) → List ℕ → Type 0
Neighbours R [] = Unit {0}
Neighbours R (a ∷ []) = Unit {0}
Neighbours R (a ∷ (b ∷ l)) = R a b × R b a × Neighbours R (b ∷ l)
