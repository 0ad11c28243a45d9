-- Histories in which write n bears stamp n.
use mathlib.Core.Bool.{Bool, true, false, cond}
use mathlib.Core.List.Memᴰ
use mathlib.Core.List.{List, [], ◌∷◌, ◌++◌, append_assoc, Memᴰ}
use mathlib.Core.Logic.{◌⊎◌, inl, inr, ⊎_elim}
use mathlib.Core.Path.{◌≡◌, refl, sym, ◌∙◌, ap}
use native.Mathlib.Omega.{arith}
use Prim.Native.Nat.{ℕ, zero, suc, ◌+◌, ◌-◌, ◌≤◌, ◌<◌}
use lib.Dec.{eqb, eqb→eq}
use lib.ListN.{length, get_or}
use Rattle.agreement.specs.Stamps.{Climbing}
use Rattle.agreement.specs.History.{Numbered, write_at, entries_of}
use Rattle.agreement.proofs.Stamps.{climbing_below}

module _ {W : Type 0} (stamp : W → ℕ) where
  pub numbered_append : (c d : ℕ) (g h : List W) → Numbered stamp c g → d ≡ c + length g → Numbered stamp d h → Numbered stamp c (g ++ h)
  numbered_append c d [] h m e n = let z : d ≡ c = omega arith in rw z at n
  numbered_append c d (w ∷ g) h m e n = (m.0, numbered_append (suc c) d g h m.1 (omega arith) n)

  pub numbered_rest : (c : ℕ) (g h : List W) → Numbered stamp c (g ++ h) → Numbered stamp (c + length g) h
  numbered_rest c [] h n = let z : c + 0 ≡ c = omega arith in rw z n
  numbered_rest c (w ∷ g) h n = let z : c + suc (length g) ≡ suc c + length g = omega arith in rw z (numbered_rest (suc c) g h n.1)

  -- the write at place i, counted from 0, bears stamp c + i + 1
  pub numbered_at : (c : ℕ) (h : List W) (d : W) (i : ℕ) → Numbered stamp c h → i < length h → stamp (get_or h i d) ≡ suc (c + i)
  numbered_at c [] d i n l = absurd (omega arith)
  numbered_at c (w ∷ h) d zero n l = n.0 ∙ omega arith
  numbered_at c (w ∷ h) d (suc i) n l = numbered_at (suc c) h d i n.1 (omega arith) ∙ omega arith

  -- a write stands at the place that its stamp gives
  pub at_stamp : (c : ℕ) (h : List W) (d w : W) → Numbered stamp c h → Memᴰ w h
      → (c < stamp w) × (stamp w ≤ c + length h) × (get_or h (stamp w - suc c) d ≡ w)
  at_stamp c [] d w n m = absurd (Memᴰ.not-nil m)
  at_stamp c (v ∷ h) d w n m = by (Memᴰ.cases_cons m) (λ t. at_stamp (suc c) h d w n.1 t)
    where
      by : (w ≡ v) ⊎ Memᴰ w h → (Memᴰ w h → (suc c < stamp w) × (stamp w ≤ suc c + length h) × (get_or h (stamp w - suc (suc c)) d ≡ w))
          → (c < stamp w) × (stamp w ≤ c + suc (length h)) × (get_or (v ∷ h) (stamp w - suc c) d ≡ w)
      by (inl e) ih =
          let s : stamp w ≡ suc c = ap stamp e ∙ n.0 in
          let z : stamp w - suc c ≡ 0 = omega arith in
          (omega arith, omega arith, rw z (sym e))
      by (inr t) ih =
          let r = ih t in
          let z : stamp w - suc c ≡ suc (stamp w - suc (suc c)) = omega arith in
          (omega arith, omega arith, rw z r.2)

  pub write_of_stamp : (h : List W) (d w : W) → Numbered stamp 0 h → Memᴰ w h → (stamp w ≤ length h) × (write_at d h (stamp w) ≡ w)
  write_of_stamp h d w n m = let r = at_stamp 0 h d w n m in (omega arith, r.2)

module _ {W E : Type 0} (key : W → ℕ) (entry : W → E) (k : ℕ) where
  pub entries_append : (g h : List W) → entries_of key entry k (g ++ h) ≡ entries_of key entry k g ++ entries_of key entry k h
  entries_append [] h = refl
  entries_append (w ∷ g) h =
      ap (λ (l : List E). cond (eqb (key w) k) (entry w ∷ []) [] ++ l) (entries_append g h) ∙ sym (append_assoc (cond (eqb (key w) k) (entry w ∷ []) []) _ _)

  -- an entry written to the key is a write of the history
  pub entry_write : (h : List W) (e : E) → Memᴰ e (entries_of key entry k h) → (w : W) × Memᴰ w h × (key w ≡ k) × (entry w ≡ e)
  entry_write [] e m = absurd (Memᴰ.not-nil m)
  entry_write (v ∷ h) e m = ⊎_elim (here (eqb (key v) k) refl)
      (λ t. let r = entry_write h e t in (r.0, Memᴰ.tail r.1, r.2, r.3))
      (Memᴰ.append_cases (cond (eqb (key v) k) (entry v ∷ []) []) m)
    where
      here : (b : Bool) → eqb (key v) k ≡ b → Memᴰ e (cond b (entry v ∷ []) []) → (w : W) × Memᴰ w (v ∷ h) × (key w ≡ k) × (entry w ≡ e)
      here true p t = (v, Memᴰ.head refl, eqb→eq (key v) k (rw p tt), sym (Memᴰ.eq_of_singleton t))
      here false p t = absurd (Memᴰ.not-nil t)

  -- the stamps of the entries written to a key climb
  pub numbered_climbing : (stamp : E → ℕ) (c : ℕ) (h : List W) → Numbered (λ w. stamp (entry w)) c h → Climbing stamp c (entries_of key entry k h)
  numbered_climbing stamp c [] n = tt
  numbered_climbing stamp c (w ∷ h) n = by (eqb (key w) k) (numbered_climbing stamp (suc c) h n.1)
    where
      by : (b : Bool) → Climbing stamp (suc c) (entries_of key entry k h) → Climbing stamp c (cond b (entry w ∷ []) [] ++ entries_of key entry k h)
      by true cl = (omega (arith, n.0), rw n.0 cl)
      by false cl = climbing_below stamp c (suc c) (entries_of key entry k h) (omega arith) cl
