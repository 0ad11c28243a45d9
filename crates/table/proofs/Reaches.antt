-- What a node reaches, where the fields of all nodes fit: itself, what it names, and what that reaches.
-- Assumes nothing.
use Prim.Native.Nat.{ℕ, zero, suc, ◌<◌}
use mathlib.Core.Bool.{Bool, true, false, ◌&&◌, ◌||◌}
use mathlib.Core.Path.{◌≡◌, refl, sym, ap, ◌∙◌}
use mathlib.Core.Logic.{◌⊎◌, inl, inr, ⊎_elim}
use native.Mathlib.Omega.{arith}
use lib.Dec.{eqb}
use borrow.Author.Tests.{eqb-true, eq-eqb}
use Rattle.basis.specs.Below.{below}
use Rattle.basis.proofs.Below.{below_at, below_same}
use Rattle.basis.proofs.Numbers.{some_at, some_witness}
use Rattle.basis.proofs.Tests.{and_left, and_right, and_both, and_when, or_either, or_left, or_right, same_or_other}
use Rattle.table.specs.Tables.{Table, p_at, q_at}
use Rattle.table.specs.Nodes.{fitting, left_node, right_node, names}
use Rattle.table.specs.Reach.{reach_step, reaches, reached_from}
use Rattle.table.proofs.Operands.{left_lower, right_lower, names_lower, names_left, names_right}

module _ (t : Table) (good : (k : ℕ) → k < t.sizes.nodes → fitting t k ≡ true) where
  abbrev N : ℕ
  N = t.sizes.nodes

  abbrev L : ℕ → Bool
  L n = left_node t n

  abbrev R : ℕ → Bool
  R n = right_node t n

  abbrev P : ℕ → ℕ
  P n = p_at t n

  abbrev Q : ℕ → ℕ
  Q n = q_at t n

  abbrev to : ℕ → ℕ → Bool
  to n m = reaches t n m

  abbrev none : ℕ → Bool
  none m = false

  pub reaches_is : (n m : ℕ) → n < N → to n m ≡ (eqb n m || ((L n && to (P n) m) || (R n && to (Q n) m)))
  unfolding reach_step
  reaches_is n m h =
      ap (λ (f : ℕ → Bool). f m) (below_at (reach_step t) none N n h)
      ∙ ap (λ (b : Bool). eqb n m || (b || (R n && below (reach_step t) none n (Q n) m)))
      (and_when (L n) (below (reach_step t) none n (P n) m) (to (P n) m)
      (λ e. let l = left_lower t n (good n h) e in ap (λ (f : ℕ → Bool). f m) (below_same (reach_step t) none n N (P n) l (omega arith))))
      ∙ ap (λ (b : Bool). eqb n m || ((L n && to (P n) m) || b))
      (and_when (R n) (below (reach_step t) none n (Q n) m) (to (Q n) m)
      (λ e. let l = right_lower t n (good n h) e in ap (λ (f : ℕ → Bool). f m) (below_same (reach_step t) none n N (Q n) l (omega arith))))

  pub reaches_self : (n : ℕ) → n < N → to n n ≡ true
  reaches_self n h = reaches_is n n h ∙ or_left (eqb n n) ((L n && to (P n) n) || (R n && to (Q n) n)) (eq-eqb n n refl)

  pub reaches_left : (n m : ℕ) → n < N → L n ≡ true → to (P n) m ≡ true → to n m ≡ true
  reaches_left n m h l e =
      reaches_is n m h
      ∙ or_right (eqb n m) ((L n && to (P n) m) || (R n && to (Q n) m)) (or_left (L n && to (P n) m) (R n && to (Q n) m) (and_both (L n) (to (P n) m) l e))

  pub reaches_right : (n m : ℕ) → n < N → R n ≡ true → to (Q n) m ≡ true → to n m ≡ true
  reaches_right n m h r e =
      reaches_is n m h
      ∙ or_right (eqb n m) ((L n && to (P n) m) || (R n && to (Q n) m)) (or_right (L n && to (P n) m) (R n && to (Q n) m) (and_both (R n) (to (Q n) m) r e))

  -- the ways to reach a node
  abbrev pub ByLeft : ℕ → ℕ → Type 0
  ByLeft n m = (L n ≡ true) × (to (P n) m ≡ true)

  abbrev pub ByRight : ℕ → ℕ → Type 0
  ByRight n m = (R n ≡ true) × (to (Q n) m ≡ true)

  pub reaches_how : (n m : ℕ) → n < N → to n m ≡ true → (n ≡ m) ⊎ (ByLeft n m ⊎ ByRight n m)
  reaches_how n m h e =
      ⊎_elim
      (λ (a : eqb n m ≡ true). inl (eqb-true n m a))
      (λ (a : ((L n && to (P n) m) || (R n && to (Q n) m)) ≡ true).
      ⊎_elim
      (λ (b : (L n && to (P n) m) ≡ true). inr (inl (and_left (L n) (to (P n) m) b, and_right (L n) (to (P n) m) b)))
      (λ (b : (R n && to (Q n) m) ≡ true). inr (inr (and_left (R n) (to (Q n) m) b, and_right (R n) (to (Q n) m) b)))
      (or_either (L n && to (P n) m) (R n && to (Q n) m) a))
      (or_either (eqb n m) ((L n && to (P n) m) || (R n && to (Q n) m)) (sym (reaches_is n m h) ∙ e))

  pub reaches_named : (n m : ℕ) → n < N → names t n m ≡ true → to n m ≡ true
  reaches_named n m h e =
      let w : m < n = names_lower t n (good n h) m e in
      ⊎_elim
      (λ (a : (L n && eqb (P n) m) ≡ true).
      let d : P n ≡ m = eqb-true (P n) m (and_right (L n) (eqb (P n) m) a) in
      reaches_left n m h (and_left (L n) (eqb (P n) m) a) (ap (λ (k : ℕ). to k m) d ∙ reaches_self m (omega arith)))
      (λ (a : (R n && eqb (Q n) m) ≡ true).
      let d : Q n ≡ m = eqb-true (Q n) m (and_right (R n) (eqb (Q n) m) a) in
      reaches_right n m h (and_left (R n) (eqb (Q n) m) a) (ap (λ (k : ℕ). to k m) d ∙ reaches_self m (omega arith)))
      (or_either (L n && eqb (P n) m) (R n && eqb (Q n) m) e)

  -- what is reached reaches on to what it names (b bounds the number that falls)
  reaches_on : (b n j m : ℕ) → n < b → n < N → to n j ≡ true → names t j m ≡ true → to n m ≡ true
  reaches_on zero n j m l h e f = absurd (omega arith)
  reaches_on (suc b) n j m l h e f =
      ⊎_elim
      (λ (a : n ≡ j). reaches_named n m h (ap (λ (k : ℕ). names t k m) a ∙ f))
      (λ (a : ByLeft n j ⊎ ByRight n j).
      ⊎_elim
      (λ (w : ByLeft n j).
      let d = left_lower t n (good n h) w.0 in
      reaches_left n m h w.0 (reaches_on b (P n) j m (omega arith) (omega arith) w.1 f))
      (λ (w : ByRight n j).
      let d = right_lower t n (good n h) w.0 in
      reaches_right n m h w.0 (reaches_on b (Q n) j m (omega arith) (omega arith) w.1 f))
      a)
      (reaches_how n j h e)

  -- what another node reaches is named by one that it reaches
  abbrev Last : ℕ → ℕ → Type 0
  Last n m = (j : ℕ) × (j < N) × (names t j m ≡ true) × (to n j ≡ true)

  reaches_last : (b n m : ℕ) → n < b → n < N → to n m ≡ true → (n ≡ m → ⊥) → Last n m
  reaches_last zero n m l h e f = absurd (omega arith)
  reaches_last (suc b) n m l h e f =
      ⊎_elim
      (λ (a : n ≡ m). absurd (f a))
      (λ (a : ByLeft n m ⊎ ByRight n m).
      ⊎_elim
      (λ (w : ByLeft n m).
      let d = left_lower t n (good n h) w.0 in
      ⊎_elim
      (λ (q : P n ≡ m). (n, h, names_left t n m w.0 q, reaches_self n h))
      (λ (q : P n ≡ m → ⊥).
      let r = reaches_last b (P n) m (omega arith) (omega arith) w.1 q in (r.0, r.1, r.2, reaches_left n r.0 h w.0 r.3))
      (same_or_other (P n) m))
      (λ (w : ByRight n m).
      let d = right_lower t n (good n h) w.0 in
      ⊎_elim
      (λ (q : Q n ≡ m). (n, h, names_right t n m w.0 q, reaches_self n h))
      (λ (q : Q n ≡ m → ⊥).
      let r = reaches_last b (Q n) m (omega arith) (omega arith) w.1 q in (r.0, r.1, r.2, reaches_right n r.0 h w.0 r.3))
      (same_or_other (Q n) m))
      a)
      (reaches_how n m h e)

  -- what is reached from the nodes that pass a test
  module _ (start : ℕ → Bool) where
    abbrev from : ℕ → Bool
    from m = reached_from t start m

    pub reached_by : (n m : ℕ) → n < N → start n ≡ true → to n m ≡ true → from m ≡ true
    unfolding reached_from
    reached_by n m h e f = some_at (λ (n : ℕ). start n && to n m) N n h (and_both (start n) (to n m) e f)

    pub reached_which : (m : ℕ) → from m ≡ true → (n : ℕ) × (n < N) × (start n ≡ true) × (to n m ≡ true)
    unfolding reached_from
    reached_which m e =
        let w = some_witness (λ (n : ℕ). start n && to n m) N e in
        (w.0, w.1, and_left (start w.0) (to w.0 m) w.2, and_right (start w.0) (to w.0 m) w.2)

    pub reached_start : (n : ℕ) → n < N → start n ≡ true → from n ≡ true
    reached_start n h e = reached_by n n h e (reaches_self n h)

    pub reached_named : (k m : ℕ) → from k ≡ true → names t k m ≡ true → from m ≡ true
    reached_named k m e f =
        let w = reached_which k e in
        reached_by w.0 m w.1 w.2 (reaches_on (suc w.0) w.0 k m (omega arith) w.1 w.3 f)

    -- and nothing else is reached
    pub reached_how : (m : ℕ) → from m ≡ true → (start m ≡ true) ⊎ ((k : ℕ) × (k < N) × (from k ≡ true) × (names t k m ≡ true))
    reached_how m e =
        let w = reached_which m e in
        ⊎_elim
        (λ (a : w.0 ≡ m). inl (sym (ap start a) ∙ w.2))
        (λ (a : w.0 ≡ m → ⊥).
        let r = reaches_last (suc w.0) w.0 m (omega arith) w.1 w.3 a in inr (r.0, r.1, reached_by w.0 r.0 w.1 w.2 r.3, r.2))
        (same_or_other w.0 m)
