-- Two well-formed states that show the same are the same words.
-- Assumes nothing.
use Prim.Native.Nat.{ℕ, ◌<◌, ◌≤◌}
use mathlib.Core.Bool.{Bool, true, false, cond}
use mathlib.Core.Logic.{⊎_elim}
use mathlib.Core.Path.{◌≡◌, refl, sym, ap, ◌∙◌}
use mathlib.Core.List.{List}
use native.Mathlib.Omega.{arith}
use lib.Dec.{eqb}
use lib.ListN.{length, get_or}
use lib.Seq.{ext_get_or}
use borrow.Author.Tests.{eqb-true, eqb-false, lt-ltb}
use Rattle.basis.specs.KeySets.{has}
use Rattle.basis.proofs.KeySets.{same_keys}
use Rattle.basis.proofs.Tests.{lt_or_le}
use Rattle.std.specs.Prelude.{None, Some}
use Rattle.table.specs.Tables.{Table}
use Rattle.term.specs.Terms.{Term, words}
use Rattle.state.specs.declared.Store.{Store}
use Rattle.state.specs.declared.Store.TheVariants.{Environment, Attributes, Entries}
use Rattle.state.specs.Layout.{state_words, key_limit, mark_of, word_of, stamp_of, writer_of, term_in, value_in}
use Rattle.state.specs.Entries.{clock_of}
use Rattle.state.proofs.Places.{Place, KeySet, Clock, Agents, Mark, Word, Writer, Waits, Length, Residual, place_at, Inside, place_kind, place_agent, place_past, placed}
use Rattle.state.proofs.Frames.{word_at, SameAt}
use Rattle.state.specs.Formed.{PairFormed, WellFormed, There, highest_in, keys_in}
use Rattle.state.proofs.Formed.{sets_of}

-- what two states show of a table's fleet is the same: clock, values, stamps, writers of entries, pending keys, residual terms
pub record ShowSame (t : Table) (s u : List ℕ) : Type 0 where
  pub clock : clock_of s ≡ clock_of u
  pub values : (store : Store) → There t store → (k : ℕ) → k < key_limit → value_in s store k ≡ value_in u store k
  pub stamps : (a : ℕ) → a < t.sizes.agents → (k : ℕ) → k < key_limit → stamp_of s a k ≡ stamp_of u a k
  pub writers : (a : ℕ) → a < t.sizes.agents → (k : ℕ) → k < key_limit → 0 < stamp_of s a k → writer_of s a k ≡ writer_of u a k
  pub sets : (z : KeySet) (a : ℕ) → a < t.sizes.agents → (k : ℕ) → k < key_limit → has (word_at s (Waits z a)) k ≡ has (word_at u (Waits z a)) k
  pub terms : (a : ℕ) → a < t.sizes.agents → term_in s a ≡ term_in u a

-- the same value of two pairs whose absent values are 0
same_value : (m v n w : ℕ) → (m ≡ 0 → v ≡ 0) → (n ≡ 0 → w ≡ 0) → cond (eqb m 0) None (Some v) ≡ cond (eqb n 0) None (Some w)
    → (v ≡ w) × (m ≡ 0 → n ≡ 0) × (n ≡ 0 → m ≡ 0)
same_value m v n w zm zn e = by (eqb m 0) refl (eqb n 0) refl e
  where
    by : (b : Bool) → eqb m 0 ≡ b → (c : Bool) → eqb n 0 ≡ c → cond b None (Some v) ≡ cond c None (Some w)
        → (v ≡ w) × (m ≡ 0 → n ≡ 0) × (n ≡ 0 → m ≡ 0)
    by true p true q h = let i = eqb-true m 0 p in let j = eqb-true n 0 q in (zm i ∙ sym (zn j), λ x. j, λ x. i)
    by true p false q h = let z : ◌≡◌ {A = ℕ} 0 1 = cc in absurd (omega arith)
    by false p true q h = let z : ◌≡◌ {A = ℕ} 0 1 = cc in absurd (omega arith)
    by false p false q h = (cc, λ x. absurd (eqb-false m 0 p x), λ x. absurd (eqb-false n 0 q x))

-- two marks that are 0 or 1
same_flag : (m n : ℕ) → m ≤ 1 → n ≤ 1 → (m ≡ 0 → n ≡ 0) → (n ≡ 0 → m ≡ 0) → m ≡ n
same_flag m n l h f g = ⊎_elim (λ (i : m < 1). omega (arith, f (omega arith))) (λ (i : 1 ≤ m). ⊎_elim (λ (j : n < 1). absurd (omega (arith, g (omega arith)))) (λ (j : 1 ≤ n). omega arith) (lt_or_le n 1)) (lt_or_le m 1)

module _ (t : Table) (s u : List ℕ) (w : WellFormed t s) (x : WellFormed t u) (same : ShowSame t s u) where
  module _ (store : Store) (there : There t store) (k : ℕ) (key : k < key_limit) where
    here : PairFormed s store (highest_in (clock_of s) store) (keys_in t store) k
    here = w.formed.pairs store there k key

    other : PairFormed u store (highest_in (clock_of u) store) (keys_in t store) k
    other = x.formed.pairs store there k key

    pair : (word_of s store k ≡ word_of u store k) × (mark_of s store k ≡ 0 → mark_of u store k ≡ 0) × (mark_of u store k ≡ 0 → mark_of s store k ≡ 0)
    unfolding value_in
    pair = same_value (mark_of s store k) (word_of s store k) (mark_of u store k) (word_of u store k) here.absent other.absent (rw (lt-ltb k key_limit key) at (same.values store there k key))

  marks : (store : Store) → There t store → (k : ℕ) → k < key_limit → mark_of s store k ≡ mark_of u store k
  marks Environment h k l = let p = pair Environment h k l in same_flag _ _ (here Environment h k l).bound (other Environment h k l).bound p.1 p.2
  marks (Attributes a) h k l = let p = pair (Attributes a) h k l in same_flag _ _ (here (Attributes a) h k l).bound (other (Attributes a) h k l).bound p.1 p.2
  marks (Entries a) h k l = same.stamps a h k l

  -- the writers of entries are the same, and the others are 0
  writer : (a : ℕ) → a < t.sizes.agents → (k : ℕ) → k < key_limit → writer_of s a k ≡ writer_of u a k
  writer a l k h =
      ⊎_elim (same.writers a l k h)
      (λ (z : stamp_of s a k ≤ 0). (w.formed.writers a l k h).none (omega arith) ∙ sym ((x.formed.writers a l k h).none (omega (arith, same.stamps a l k h))))
      (lt_or_le 0 (stamp_of s a k))

  -- an agent's place: the blocks past the last agent's are not used
  owned : (p : Place) → 0 < place_kind p → (place_agent p < t.sizes.agents → SameAt s u p) → SameAt s u p
  owned p k h =
      ⊎_elim h (λ l. let m = place_past p t.sizes.agents k l in w.formed.unused (place_at p) m ∙ sym (x.formed.unused (place_at p) m))
      (lt_or_le (place_agent p) t.sizes.agents)

  at : (p : Place) → Inside p → SameAt s u p
  at Clock h = same.clock
  at Agents h = w.formed.agents ∙ sym x.formed.agents
  at (Mark Environment k) h = marks Environment tt k h
  at (Mark (Attributes a) k) h = owned (Mark (Attributes a) k) (omega arith) (λ l. marks (Attributes a) l k h)
  at (Mark (Entries a) k) h = owned (Mark (Entries a) k) (omega arith) (λ l. marks (Entries a) l k h)
  at (Word Environment k) h = (pair Environment tt k h).0
  at (Word (Attributes a) k) h = owned (Word (Attributes a) k) (omega arith) (λ l. (pair (Attributes a) l k h).0)
  at (Word (Entries a) k) h = owned (Word (Entries a) k) (omega arith) (λ l. (pair (Entries a) l k h).0)
  at (Writer a k) h = owned (Writer a k) (omega arith) (λ l. writer a l k h)
  at (Waits z a) h =
      owned (Waits z a) (omega arith) (λ l.
      same_keys key_limit (word_at s (Waits z a)) (word_at u (Waits z a)) (sets_of t (clock_of s) s w.formed z a l).narrow (sets_of t (clock_of u) u x.formed z a l).narrow (same.sets z a l))
  at (Length a) h =
      owned (Length a) (omega arith) (λ l.
      (w.formed.residuals a l).long ∙ ap (λ (T : Term). length (words T)) (same.terms a l) ∙ sym (x.formed.residuals a l).long)
  at (Residual a i) h =
      owned (Residual a i) (omega arith) (λ l.
      (w.formed.residuals a l).reads i h ∙ ap (λ (T : Term). get_or (words T) i 0) (same.terms a l) ∙ sym ((x.formed.residuals a l).reads i h))

  word : (i : ℕ) → get_or s i 0 ≡ get_or u i 0
  word i = let p = placed i in ap (λ (j : ℕ). get_or s j 0) (sym p.at) ∙ at p.place p.inside ∙ ap (λ (j : ℕ). get_or u j 0) p.at

  pub show_exact : length s ≡ state_words → length u ≡ state_words → s ≡ u
  show_exact l m = ext_get_or 0 s u (l ∙ sym m) (λ i h. word i)
