-- What every list of turns keeps, for every strict order of entries.
use mathlib.Core.Bool.{Bool}
use mathlib.Core.List.Memᴰ
use mathlib.Core.List.{List, [], ◌∷◌, Memᴰ}
use mathlib.Core.Logic.{◌⊎◌, inl, inr, ⊎_elim}
use mathlib.Core.Path.{◌≡◌, refl, sym, ◌∙◌, ap}
use Prim.Native.Nat.{ℕ}
use lib.Dec.{T}
use Rattle.agreement.specs.Order.{Order, NotOlder, Comparable}
use Rattle.agreement.specs.View.{View, blank, NewerWaits, NoneWaits, Agree, Neighbours}
use Rattle.agreement.specs.Moves.{propagate, Fresh, wrote}
use Rattle.agreement.specs.Turns.{Turn, after_turn, after_turns, AllFresh, history, PropagateLinked}
use Rattle.agreement.proofs.Moves.{entry_moved, waits_moved, propagate_reaches, entry_from}

-- what holds of the list's neighbours, where R does, holds of them
pub neighbours_map : (R S : ℕ → ℕ → Type 0) (l : List ℕ) → ((a b : ℕ) → Memᴰ a l → Memᴰ b l → R a b → S a b) → Neighbours R l → Neighbours S l
neighbours_map R S [] f h = tt
neighbours_map R S (a ∷ []) f h = tt
neighbours_map R S (a ∷ (b ∷ l)) f h = (
  f a b (Memᴰ.head refl) (Memᴰ.tail (Memᴰ.head refl)) h.0,
  f b a (Memᴰ.tail (Memᴰ.head refl)) (Memᴰ.head refl) h.1,
  neighbours_map R S (b ∷ l) (λ c d m n. f c d (Memᴰ.tail m) (Memᴰ.tail n)) h.2,
)

-- in a view in which entries of which neither is newer are equal: a chain in which the key does not wait
module _ {E : Type 0} (newer : E → E → Bool) (v : View E)
    (equal : (a b : ℕ) → (T (newer (v.entry a) (v.entry b)) → ⊥) → (T (newer (v.entry b) (v.entry a)) → ⊥) → v.entry a ≡ v.entry b) where
  as_first : (a : ℕ) (l : List ℕ) → Neighbours (NewerWaits newer v) (a ∷ l) → NoneWaits (a ∷ l) v → (c : ℕ) → Memᴰ c (a ∷ l) → v.entry c ≡ v.entry a
  as_first a [] near none c m = rw (Memᴰ.eq_of_singleton m)
  as_first a (b ∷ l) near none c m = ⊎_elim (λ e. ap v.entry e)
      (λ n. as_first b l near.2 (λ d i. none d (Memᴰ.tail i)) c n
      ∙ sym (equal a b (λ t. none a (Memᴰ.head refl) (near.0 t)) (λ t. none b (Memᴰ.tail (Memᴰ.head refl)) (near.1 t))))
      (Memᴰ.cases_cons m)

  pub chain_agrees : (l : List ℕ) → Neighbours (NewerWaits newer v) l → NoneWaits l v → Agree l v
  chain_agrees [] near none a b m n = absurd (Memᴰ.not-nil m)
  chain_agrees (x ∷ l) near none a b m n = as_first x l near none a m ∙ sym (as_first x l near none b n)

module _ {E : Type 0} (newer : E → E → Bool) where
  -- (i) an agent's entry was some agent's at the start, or was written
  pub written : (ts : List (Turn E)) (v : View E) (a : ℕ)
      → ((x : ℕ) × ((after_turns newer ts v).entry a ≡ v.entry x)) ⊎ Memᴰ ((after_turns newer ts v).entry a) (history ts)
  written [] v a = inl (a, refl)
  written (t ∷ ts) v a = ⊎_elim before (λ m. inr (Memᴰ.append_right (wrote t.move) m)) (written ts (after_turn newer t v) a)
    where
      before : (x : ℕ) × ((after_turns newer (t ∷ ts) v).entry a ≡ (after_turn newer t v).entry x)
          → ((x : ℕ) × ((after_turns newer (t ∷ ts) v).entry a ≡ v.entry x)) ⊎ Memᴰ ((after_turns newer (t ∷ ts) v).entry a) (history (t ∷ ts))
      before p = ⊎_elim (λ q. inl (q.0, p.1 ∙ q.1)) (λ m. inr (Memᴰ.cast p.1 (Memᴰ.append_left (history ts) m)))
          (entry_from newer t.link t.move v p.0)

module _ {E : Type 0} (newer : E → E → Bool) (order : Order E newer) where
  not_older_trans : (e f g : E) → NotOlder newer e f → NotOlder newer f g → NotOlder newer e g
  not_older_trans e f g (inl p) (inl q) = inl (p ∙ q)
  not_older_trans e f g (inl p) (inr q) = inr (rw p q)
  not_older_trans e f g (inr p) (inl q) = inr (rw q at p)
  not_older_trans e f g (inr p) (inr q) = inr (order.transitive e f g p q)

  -- nothing is newer than what is not older than it
  pub not_older_not : (e f : E) → NotOlder newer e f → T (newer f e) → ⊥
  not_older_not e f (inl p) t = order.irreflexive f (rw p at t)
  not_older_not e f (inr o) t = order.irreflexive e (order.transitive e f e o t)

  -- (iii) an agent's entry is never older than it was
  pub never_older : (ts : List (Turn E)) (v : View E) (a : ℕ) → AllFresh newer ts v → NotOlder newer ((after_turns newer ts v).entry a) (v.entry a)
  never_older [] v a fresh = inl refl
  never_older (t ∷ ts) v a fresh =
      not_older_trans _ _ _ (never_older ts (after_turn newer t v) a fresh.1)
      (⊎_elim (λ e. inl e) (λ g. inr g.0) (entry_moved newer t.link t.move v a fresh.0))

  -- what is newer than b's entry was so before
  pub was_newer : (t : Turn E) (v : View E) (b : ℕ) (e : E) → Fresh newer t.move v → T (newer e ((after_turn newer t v).entry b)) → T (newer e (v.entry b))
  was_newer t v b e fresh o = ⊎_elim (λ p. rw p at o) (λ g. order.transitive _ _ _ o g.0) (entry_moved newer t.link t.move v b fresh)

  -- (iv) for one turn
  pub pair_turn : (t : Turn E) (v : View E) (a b : ℕ) → Fresh newer t.move v → (t.move ≡ propagate a → T (t.link a b))
      → NewerWaits newer v a b → NewerWaits newer (after_turn newer t v) a b
  pair_turn t v a b fresh linked held n = ⊎_elim kept (λ g. g.1) (entry_moved newer t.link t.move v a fresh)
    where
      w : View E
      w = after_turn newer t v

      waits : T (w.waits a) ⊎ (t.move ≡ propagate a) → T (w.waits a)
      waits (inl u) = u
      waits (inr e) = absurd (propagate_reaches newer order t.link v a b (linked e) (rw e at n))

      kept : w.entry a ≡ v.entry a → T (w.waits a)
      kept e = waits (waits_moved newer t.link t.move v a (held (was_newer t v b (v.entry a) fresh (rw e at n))))

  pub pair_turns : (ts : List (Turn E)) (v : View E) (a b : ℕ) → AllFresh newer ts v → PropagateLinked a b ts
      → NewerWaits newer v a b → NewerWaits newer (after_turns newer ts v) a b
  pair_turns [] v a b fresh linked held = held
  pair_turns (t ∷ ts) v a b fresh linked held =
      pair_turns ts (after_turn newer t v) a b fresh.1 linked.1 (pair_turn t v a b fresh.0 linked.0 held)

  -- from a blank view
  module _ (absent : E) (ts : List (Turn E)) (fresh : AllFresh newer ts (blank absent)) where
    abbrev now : View E
    now = after_turns newer ts (blank absent)

    -- (i)
    pub blank_written : (a : ℕ) → (now.entry a ≡ absent) ⊎ Memᴰ (now.entry a) (history ts)
    blank_written a = ⊎_elim (λ p. inl p.1) (λ m. inr m) (written newer ts (blank absent) a)

    -- (ii) two entries of which neither is newer are equal
    pub blank_equal : Comparable newer (history ts) → (a b : ℕ)
        → (T (newer (now.entry a) (now.entry b)) → ⊥) → (T (newer (now.entry b) (now.entry a)) → ⊥)
        → now.entry a ≡ now.entry b
    blank_equal comparable a b p q = by (blank_written a) (blank_written b)
      where
        -- an entry is newer than an absent one
        both_absent : (c d : ℕ) → (T (newer (now.entry c) (now.entry d)) → ⊥) → now.entry d ≡ absent → now.entry c ≡ absent
        both_absent c d n e = ⊎_elim (λ z. z) (λ g. absurd (n (rw e g))) (never_older ts (blank absent) c fresh)

        by : (now.entry a ≡ absent) ⊎ Memᴰ (now.entry a) (history ts) → (now.entry b ≡ absent) ⊎ Memᴰ (now.entry b) (history ts)
            → now.entry a ≡ now.entry b
        by (inl e) (inl f) = e ∙ sym f
        by (inl e) (inr m) = e ∙ sym (both_absent b a q e)
        by (inr m) (inl f) = both_absent a b p f ∙ sym f
        by (inr m) (inr n) = ⊎_elim (λ e. e) (λ d. ⊎_elim (λ t. absurd (p t)) (λ t. absurd (q t)) d) (comparable _ _ m n)
