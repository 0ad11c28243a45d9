-- What one move keeps.
use mathlib.Core.Bool.{Bool, true, false, cond, not, ◌&&◌, ◌||◌}
use mathlib.Core.List.{[], ◌∷◌, Memᴰ}
use mathlib.Core.Logic.{◌⊎◌, inl, inr, ⊎_map, ⊎_elim}
use mathlib.Core.Path.{◌≡◌, refl, ap, subst}
use native.Mathlib.Omega.{arith}
use Prim.Native.Nat.{ℕ}
use lib.Dec.{T, eqb, eqb→eq, eqb_refl}
use Rattle.agreement.specs.Order.{Order}
use Rattle.agreement.specs.View.{View, NewerWaits}
use Rattle.agreement.specs.Moves.{Move, quiet, write, propagate, confirm, linked, takes, holds_newer, moved, Fresh, wrote}

and_right : (a b : Bool) → T (a && b) → T b
and_right true b t = t
and_right false b t = absurd t

or_right : (a b : Bool) → T b → T (a || b)
or_right true b t = tt
or_right false b t = t

or_left : (a b : Bool) → T a → T (a || b)
or_left true b t = tt
or_left false b t = absurd t

cond_same : {E : Type 0} (b : Bool) (e : E) → cond b e e ≡ e
cond_same true e = refl
cond_same false e = refl

-- whether a move is a propagate by a
pub is_propagate_lem : {E : Type 0} (a : ℕ) (m : Move E) → (m ≡ propagate a) ⊎ (m ≡ propagate a → ⊥)
is_propagate_lem a quiet = inr (λ e. let z : ◌≡◌ {A = ℕ} 0 1 = cc in omega arith)
is_propagate_lem a (write x w) = inr (λ e. let z : ◌≡◌ {A = ℕ} 0 1 = cc in omega arith)
is_propagate_lem {E} a (propagate x) = by (eqb x a) refl
  where
    by : (b : Bool) → eqb x a ≡ b → (◌≡◌ {A = Move E} (propagate x) (propagate a)) ⊎ (◌≡◌ {A = Move E} (propagate x) (propagate a) → ⊥)
    by true e = inl (ap propagate (eqb→eq x a (rw e tt)))
    by false e = inr (λ f. let z : x ≡ a = cc in subst T e (rw z (eqb_refl a)))
is_propagate_lem a (confirm x) = inr (λ e. let z : ◌≡◌ {A = ℕ} 0 1 = cc in omega arith)

-- a key that waits still does, except in the agent that propagates it
waits_or_own : (taken own waits : Bool) → T waits → T (taken || (not own && waits)) ⊎ T own
waits_or_own true own waits t = inl tt
waits_or_own false true waits t = inr tt
waits_or_own false false waits t = inl t

-- a linked agent with an older entry takes the sender's, unless it is the sender
takes_or_own : (own linked older : Bool) → T linked → T older → T (not own && linked && older) ⊎ T own
takes_or_own true linked older l o = inr tt
takes_or_own false true older l o = inl o
takes_or_own false false older l o = absurd l

module _ {E : Type 0} (newer : E → E → Bool) where
  -- a replaced entry, if a newer one replaces it
  replaced : (taken rest : Bool) (e f : E) → (T taken → T (newer e f))
      → (cond taken e f ≡ f) ⊎ (T (newer (cond taken e f) f) × T (taken || rest))
  replaced true rest e f h = inr (h tt, tt)
  replaced false rest e f h = inl refl

  -- who takes an entry had an older one
  taken_newer : (link : ℕ → ℕ → Bool) (v : View E) (x y : ℕ) → T (takes newer link v x y) → T (newer (v.entry x) (v.entry y))
  taken_newer link v x y t = and_right (linked link x y) (newer (v.entry x) (v.entry y)) t

  -- an agent keeps its entry, or has a newer one and the key waits in it
  pub entry_moved : (link : ℕ → ℕ → Bool) (m : Move E) (v : View E) (a : ℕ) → Fresh newer m v
      → ((moved newer link m v).entry a ≡ v.entry a)
      ⊎ (T (newer ((moved newer link m v).entry a) (v.entry a)) × T ((moved newer link m v).waits a))
  unfolding moved
  entry_moved link quiet v a fresh = inl refl
  entry_moved link (write x e) v a fresh =
      replaced (eqb x a) (v.waits a) e (v.entry a) (λ t. subst (λ (y : ℕ). T (newer e (v.entry y))) (eqb→eq x a t) fresh)
  entry_moved link (propagate x) v a fresh = replaced (takes newer link v x a) _ (v.entry x) (v.entry a) (taken_newer link v x a)
  entry_moved link (confirm x) v a fresh = replaced (takes newer link v x a) _ (v.entry x) (v.entry a) (taken_newer link v x a)

  -- a key that waits in an agent still does, unless the agent propagates it
  pub waits_moved : (link : ℕ → ℕ → Bool) (m : Move E) (v : View E) (a : ℕ) → T (v.waits a)
      → T ((moved newer link m v).waits a) ⊎ (m ≡ propagate a)
  unfolding moved
  waits_moved link quiet v a w = inl w
  waits_moved link (write x e) v a w = inl (or_right (eqb x a) (v.waits a) w)
  waits_moved link (propagate x) v a w =
      ⊎_map (λ t. t) (λ t. ap propagate (eqb→eq x a t)) (waits_or_own (takes newer link v x a) (eqb x a) (v.waits a) w)
  waits_moved link (confirm x) v a w =
      inl (or_right (takes newer link v x a) (holds_newer newer link v x a || v.waits a) (or_right (holds_newer newer link v x a) (v.waits a) w))

  -- after a propagates the key, no agent that a is linked to has an older entry than a
  pub propagate_reaches : Order E newer → (link : ℕ → ℕ → Bool) (v : View E) (a b : ℕ) → T (link a b)
      → T (newer ((moved newer link (propagate a) v).entry a) ((moved newer link (propagate a) v).entry b)) → ⊥
  unfolding moved
  propagate_reaches order link v a b l n = by (takes newer link v a b) refl (rw cond_same at n)
    where
      itself : T (newer (v.entry a) (v.entry b)) → T (eqb a b) → ⊥
      itself o t = order.irreflexive (v.entry a) (rw (← eqb→eq a b t) at o)

      by : (taken : Bool) → takes newer link v a b ≡ taken → T (newer (v.entry a) (cond taken (v.entry a) (v.entry b))) → ⊥
      by true e n = order.irreflexive (v.entry a) n
      by false e n = ⊎_elim (λ t. subst T e t) (itself n) (takes_or_own (eqb a b) (link a b) (newer (v.entry a) (v.entry b)) l n)

  -- after a confirms the key, neither a nor an agent that a is linked to has a newer entry than the other, unless the key waits in it
  pub confirm_reaches : Order E newer → (link : ℕ → ℕ → Bool) (v : View E) (a b : ℕ) → T (link a b)
      → NewerWaits newer (moved newer link (confirm a) v) a b × NewerWaits newer (moved newer link (confirm a) v) b a
  unfolding moved
  confirm_reaches order link v a b l = (
    λ n. absurd (propagate_reaches order link v a b l n),
    λ n. by (takes newer link v a b) (rw cond_same at n),
  )
    where
      own : T (newer (v.entry b) (v.entry a)) → T (eqb a b) → ⊥
      own o t = order.irreflexive (v.entry a) (rw (← eqb→eq a b t) at o)

      by : (taken : Bool) → T (newer (cond taken (v.entry a) (v.entry b)) (v.entry a)) → T (taken || (holds_newer newer link v a b || v.waits b))
      by true n = tt
      by false n = or_left (holds_newer newer link v a b) (v.waits b) (⊎_elim (λ t. t) (λ t. absurd (own n t)) (takes_or_own (eqb a b) (link a b) (newer (v.entry b) (v.entry a)) l n))

  -- what an agent writes it has
  pub write_enters : (link : ℕ → ℕ → Bool) (v : View E) (a : ℕ) (e : E) → (moved newer link (write a e) v).entry a ≡ e
  unfolding moved
  write_enters link v a e = by (eqb a a) (eqb_refl a)
    where
      by : (b : Bool) → T b → cond b e (v.entry a) ≡ e
      by true t = refl
      by false t = absurd t

  -- an agent's entry was some agent's before, or is written
  pub entry_from : (link : ℕ → ℕ → Bool) (m : Move E) (v : View E) (a : ℕ)
      → ((x : ℕ) × ((moved newer link m v).entry a ≡ v.entry x)) ⊎ Memᴰ ((moved newer link m v).entry a) (wrote m)
  unfolding moved
  entry_from link quiet v a = inl (a, refl)
  entry_from link (write x e) v a = by (eqb x a)
    where
      by : (b : Bool) → ((y : ℕ) × (cond b e (v.entry a) ≡ v.entry y)) ⊎ Memᴰ (cond b e (v.entry a)) (e ∷ [])
      by true = inr (Memᴰ.head refl)
      by false = inl (a, refl)
  entry_from link (propagate x) v a = inl (by (takes newer link v x a))
    where
      by : (b : Bool) → (y : ℕ) × (cond b (v.entry x) (v.entry a) ≡ v.entry y)
      by true = (x, refl)
      by false = (a, refl)
  entry_from link (confirm x) v a = inl (by (takes newer link v x a))
    where
      by : (b : Bool) → (y : ℕ) × (cond b (v.entry x) (v.entry a) ≡ v.entry y)
      by true = (x, refl)
      by false = (a, refl)

  -- a move is fresh if what it writes is newer than every agent's entry
  pub newest_fresh : (m : Move E) (v : View E) → ((e : E) → Memᴰ e (wrote m) → (a : ℕ) → T (newer e (v.entry a))) → Fresh newer m v
  newest_fresh quiet v h = tt
  newest_fresh (write x e) v h = h e (Memᴰ.head refl) x
  newest_fresh (propagate x) v h = tt
  newest_fresh (confirm x) v h = tt
