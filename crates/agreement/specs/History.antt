-- A history of writes to all keys. W is the type of writes.
use Rattle.std.specs.Prelude.{cond, ◌≡◌, List, [], ◌∷◌, ◌++◌, ℕ, suc, ◌-◌, ◌≤◌, eqb, length, get_or}

-- the stamps are c + 1, c + 2 and so on; with c = 0, write n bears stamp n
abbrev pub Numbered : {W : Type 0} → (W → ℕ) → ℕ → List W → Type 0
Numbered stamp c [] = Unit {0}
Numbered stamp c (w ∷ h) = (stamp w ≡ suc c) × Numbered stamp (suc c) h

-- write n, counted from 1; d where there is none
abbrev pub write_at : {W : Type 0} → W → List W → ℕ → W
write_at d h n = get_or h (n - 1) d

-- the entries written to key k
abbrev pub entries_of : {W E : Type 0} → (W → ℕ) → (W → E) → ℕ → List W → List E
entries_of key entry k [] = []
entries_of key entry k (w ∷ h) = cond (eqb (key w) k) (entry w ∷ []) [] ++ entries_of key entry k h

-- entry e of key k is the one that the write numbered by its stamp wrote, to that key
pub record WrittenAt {W E : Type 0} (stamp : E → ℕ) (key : W → ℕ) (entry : W → E) (d : W) (h : List W) (k : ℕ) (e : E) : Type 0 where
  pub in_history : stamp e ≤ length h
  pub same_key : key (write_at d h (stamp e)) ≡ k
  pub same_entry : entry (write_at d h (stamp e)) ≡ e
