-- Stamps order entries strictly, and entries whose stamps climb are comparable.
use mathlib.Core.List.Memᴰ
use mathlib.Core.List.{List, [], ◌∷◌, Memᴰ}
use mathlib.Core.Logic.{◌⊎◌, inl, inr, ⊎_elim}
use mathlib.Core.Path.{◌≡◌, sym, ◌∙◌}
use native.Mathlib.Omega.{arith}
use Prim.Native.Nat.{ℕ, ◌≤◌, ◌<◌}
use lib.Dec.{T, ltb→lt, lt→ltb}
use Rattle.agreement.specs.Order.{Order, Comparable}
use Rattle.agreement.specs.Stamps.{by_stamp, Climbing}

module _ {E : Type 0} (stamp : E → ℕ) where
  pub stamp_order : Order E (by_stamp stamp)
  stamp_order = record {
    irreflexive = λ e t. omega (arith, ltb→lt);
    transitive = λ e f g t u. omega (arith, ltb→lt, lt→ltb);
  }

  pub climbing_below : (c d : ℕ) (l : List E) → c ≤ d → Climbing stamp d l → Climbing stamp c l
  climbing_below c d [] h cl = tt
  climbing_below c d (e ∷ l) h cl = (omega arith, cl.1)

  pub climbing_above : (c : ℕ) (l : List E) → Climbing stamp c l → (e : E) → Memᴰ e l → c < stamp e
  climbing_above c [] cl e m = absurd (Memᴰ.not-nil m)
  climbing_above c (f ∷ l) cl e m = ⊎_elim (λ p. rw p cl.0)
      (λ n. climbing_above c l (climbing_below c (stamp f) l (omega arith) cl.1) e n) (Memᴰ.cases_cons m)

  pub climbing_comparable : (c : ℕ) (l : List E) → Climbing stamp c l → Comparable (by_stamp stamp) l
  climbing_comparable c [] cl e f m n = absurd (Memᴰ.not-nil m)
  climbing_comparable c (g ∷ l) cl e f m n =
      by (Memᴰ.cases_cons m) (Memᴰ.cases_cons n) (λ p q. climbing_comparable (stamp g) l cl.1 e f p q)
    where
      above : (h : E) → Memᴰ h l → T (by_stamp stamp h g)
      above h p = omega (arith, lt→ltb, climbing_above (stamp g) l cl.1 h p)

      by : (e ≡ g) ⊎ Memᴰ e l → (f ≡ g) ⊎ Memᴰ f l
          → (Memᴰ e l → Memᴰ f l → (e ≡ f) ⊎ (T (by_stamp stamp e f) ⊎ T (by_stamp stamp f e)))
          → (e ≡ f) ⊎ (T (by_stamp stamp e f) ⊎ T (by_stamp stamp f e))
      by (inl p) (inl q) ih = inl (p ∙ sym q)
      by (inl p) (inr q) ih = inr (inr (rw p (above f q)))
      by (inr p) (inl q) ih = inr (inl (rw q (above e p)))
      by (inr p) (inr q) ih = ih p q
