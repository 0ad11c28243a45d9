-- What is read after a change: at the changed place the new word, at any other the old one.
-- Assumes nothing.
use Prim.Native.Nat.{ℕ, ◌^◌, ◌<◌, ◌≤◌}
use mathlib.Core.Bool.{Bool, true, false, cond, not, ◌&&◌, ◌||◌}
use mathlib.Core.Logic.{⊎_elim}
use mathlib.Core.Path.{◌≡◌, refl, sym, ap, ap₂, ◌∙◌}
use mathlib.Core.List.{List}
use native.Mathlib.Omega.{arith}
use lib.Dec.{eqb, ltb}
use lib.ListN.{length, get_or, set, take, drop, length-set, length-take, length-drop}
use lib.Seq.{set_out, get_or-set_same, get_or-set_other, ext_get_or}
use borrow.Author.Tests.{eqb-false, ne_eqb, ltb-true, ltb-false}
use Rattle.basis.specs.KeySets.{has, plus, minus}
use Rattle.basis.proofs.KeySets.{has_plus, has_minus}
use Rattle.basis.proofs.Lists.{get_d_set, get_d_part}
use Rattle.basis.proofs.Tests.{not_both, lt_or_le, same_or_other}
use Rattle.std.specs.Prelude.{None, Some}
use Rattle.term.specs.Terms.{term_of}
use Rattle.state.specs.declared.Store.{Store}
use Rattle.state.specs.declared.Store.TheVariants.{Entries}
use Rattle.state.specs.declared.Entry.{Entry}
use Rattle.state.specs.Entries.{entry, put_entry}
use Rattle.state.specs.Standing.{HasBlocks}
use Rattle.state.specs.WellFormed.{Words}
use Rattle.state.specs.Layout.{key_limit, residual_words, residual_at, writer_at, mark_of, word_of, stamp_of, writer_of, residual_of, term_in, value_in, put, add_key, drop_key}
use Rattle.state.proofs.Places.{Place, KeySet, Mark, Word, Writer, Waits, Length, Residual, place_at, Inside, place_agent, store_agent, same, same_store, same_self, same_not, settled, same_place, place_fits}

abbrev pub word_at : List ℕ → Place → ℕ
word_at s p = get_or s (place_at p) 0

-- two states have the same word at a place
abbrev pub SameAt : List ℕ → List ℕ → Place → Type 0
SameAt s u p = word_at s p ≡ word_at u p

-- ONE WORD
pub set_small : (s : List ℕ) (i v : ℕ) → Words s → v < 2 ^ 32 → Words (set s i v)
set_small s i v small h j = ⊎_elim (λ (e : j ≡ i). at e) (λ (e : j ≡ i → ⊥). rw (get_or-set_other s i j v 0 e) (small j)) (same_or_other j i)
  where
    at : j ≡ i → get_or (set s i v) j 0 < 2 ^ 32
    at e = ⊎_elim (λ (l : i < length s). rw (e, get_or-set_same s i v 0 l) h) (λ (l : length s ≤ i). rw (set_out s i v l) (small j)) (lt_or_le i (length s))

module _ (s : List ℕ) (p : Place) (v : ℕ) (inside : Inside p) where
  pub set_other : (q : Place) → Inside q → same q p ≡ false → SameAt (set s (place_at p) v) s q
  set_other q h e = get_or-set_other s (place_at p) (place_at q) v 0 (eqb-false (place_at q) (place_at p) (same_place q p h inside ∙ e))

  -- a settled word, after a change of the clock, a writer or a set of keys
  pub set_settled : settled p ≡ false → (q : Place) → Inside q → settled q ≡ true → SameAt (set s (place_at p) v) s q
  set_settled e q h f = set_other q h (same_not q p (λ i. not_both f (ap settled i ∙ e)))

  module _ (room : HasBlocks s) (there : place_agent p < 32) where
    pub set_word : (q : Place) → Inside q → word_at (set s (place_at p) v) q ≡ cond (same q p) v (word_at s q)
    set_word q h =
        get_d_set s (place_at p) (place_at q) v 0 (omega (arith, room, place_fits p inside there))
        ∙ ap (λ b. cond b v (word_at s q)) (same_place q p h inside)

    pub set_here : word_at (set s (place_at p) v) p ≡ v
    set_here = get_or-set_same s (place_at p) v 0 (omega (arith, room, place_fits p inside there))

-- A PAIR of any store
module _ (store : Store) (k v m : ℕ) (s : List ℕ) where
  pub put_length : length (put store k v m s) ≡ length s
  unfolding put
  put_length = simp length-set

  pub put_small : Words s → v < 2 ^ 32 → m < 2 ^ 32 → Words (put store k v m s)
  unfolding put
  put_small small h l = set_small (set s (place_at (Word store k)) v) (place_at (Mark store k)) m (set_small s (place_at (Word store k)) v small h) l

  module _ (key : k < key_limit) where
    pub put_other : (q : Place) → Inside q → same q (Mark store k) ≡ false → same q (Word store k) ≡ false → SameAt (put store k v m s) s q
    unfolding put
    put_other q h e f =
        set_other (set s (place_at (Word store k)) v) (Mark store k) m key q h e
        ∙ set_other s (Word store k) v key q h f

    module _ (room : HasBlocks s) (there : store_agent store < 32) where
      pub put_word : (q : Place) → Inside q
          → word_at (put store k v m s) q ≡ cond (same q (Mark store k)) m (cond (same q (Word store k)) v (word_at s q))
      unfolding put
      put_word q h =
          set_word (set s (place_at (Word store k)) v) (Mark store k) m key (omega (arith, length-set s (place_at (Word store k)) v, room)) there q h
          ∙ ap (λ w. cond (same q (Mark store k)) m w) (set_word s (Word store k) v key room there q h)

      pub put_mark : mark_of (put store k v m s) store k ≡ m
      put_mark = put_word (Mark store k) key ∙ rw (same_self (Mark store k))

      -- the value that it then has, and those of all other keys
      pub put_value_in : 0 < m → (other : Store) (j : ℕ) → value_in (put store k v m s) other j ≡ cond (eqb j k && same_store other store) (Some v) (value_in s other j)
      unfolding value_in
      put_value_in pos other j = by (ltb j key_limit) refl
        where
          pick : (b : Bool)
              → cond (eqb (cond b m (mark_of s other j)) 0) None (Some (cond b v (word_of s other j)))
              ≡ cond b (Some v) (cond (eqb (mark_of s other j) 0) None (Some (word_of s other j)))
          pick true = rw (ne_eqb m 0 (omega arith))
          pick false = refl

          by : (b : Bool) → ltb j key_limit ≡ b
              → cond b (cond (eqb (mark_of (put store k v m s) other j) 0) None (Some (word_of (put store k v m s) other j))) None
              ≡ cond (eqb j k && same_store other store) (Some v) (cond b (cond (eqb (mark_of s other j) 0) None (Some (word_of s other j))) None)
          by true e =
              let l = ltb-true j key_limit e in
              rw (put_word (Mark other j) l, put_word (Word other j) l) (pick (eqb j k && same_store other store))
          by false e = let l = ltb-false j key_limit e in rw (ne_eqb j k (omega arith))

-- AN ENTRY: its pair and its writer
pub pick_entry : (b : Bool) (e f : Entry) → entry (cond b e.value f.value) (cond b e.stamp f.stamp) (cond b e.writer f.writer) ≡ cond b e f
pick_entry true e f = refl
pick_entry false e f = refl

module _ (a k : ℕ) (e : Entry) (s : List ℕ) where
  abbrev pair_put : List ℕ
  pair_put = put (Entries a) k e.value e.stamp s

  pub put_entry_length : length (put_entry a k e s) ≡ length s
  put_entry_length = length-set pair_put (writer_at a k) e.writer ∙ put_length (Entries a) k e.value e.stamp s

  module _ (key : k < key_limit) where
    pub put_entry_other : (q : Place) → Inside q → same q (Mark (Entries a) k) ≡ false → same q (Word (Entries a) k) ≡ false → same q (Writer a k) ≡ false
        → SameAt (put_entry a k e s) s q
    put_entry_other q h m w r = set_other pair_put (Writer a k) e.writer key q h r ∙ put_other (Entries a) k e.value e.stamp s key q h m w

    module _ (room : HasBlocks s) (there : a < 32) where
      pub put_entry_word : (q : Place) → Inside q → word_at (put_entry a k e s) q
          ≡ cond (same q (Writer a k)) e.writer (cond (same q (Mark (Entries a) k)) e.stamp (cond (same q (Word (Entries a) k)) e.value (word_at s q)))
      put_entry_word q h =
          set_word pair_put (Writer a k) e.writer key (omega (arith, put_length (Entries a) k e.value e.stamp s, room)) there q h
          ∙ ap (λ w. cond (same q (Writer a k)) e.writer w) (put_word (Entries a) k e.value e.stamp s key room there q h)

      pub put_entry_stamp : stamp_of (put_entry a k e s) a k ≡ e.stamp
      put_entry_stamp = put_entry_word (Mark (Entries a) k) key ∙ rw (same_self (Mark (Entries a) k))

      pub put_entry_value : word_of (put_entry a k e s) (Entries a) k ≡ e.value
      put_entry_value = put_entry_word (Word (Entries a) k) key ∙ rw (same_self (Word (Entries a) k))

      pub put_entry_writer : writer_of (put_entry a k e s) a k ≡ e.writer
      put_entry_writer = put_entry_word (Writer a k) key ∙ rw (same_self (Writer a k))

-- A SET OF KEYS, Zc or Zp of agent a
module _ (z : KeySet) (a k : ℕ) (s : List ℕ) where
  pub add_length : length (add_key (place_at (Waits z a)) k s) ≡ length s
  unfolding add_key
  add_length = simp length-set

  pub drop_length : length (drop_key (place_at (Waits z a)) k s) ≡ length s
  unfolding drop_key
  drop_length = simp length-set

  pub add_other : (q : Place) → Inside q → same q (Waits z a) ≡ false → SameAt (add_key (place_at (Waits z a)) k s) s q
  unfolding add_key
  add_other q h e = set_other s (Waits z a) _ tt q h e

  pub drop_other : (q : Place) → Inside q → same q (Waits z a) ≡ false → SameAt (drop_key (place_at (Waits z a)) k s) s q
  unfolding drop_key
  drop_other q h e = set_other s (Waits z a) _ tt q h e

  module _ (room : HasBlocks s) (there : a < 32) where
    pub add_word : (q : Place) → Inside q → word_at (add_key (place_at (Waits z a)) k s) q ≡ cond (same q (Waits z a)) (plus (word_at s (Waits z a)) k) (word_at s q)
    unfolding add_key
    add_word q h = set_word s (Waits z a) _ tt room there q h

    pub drop_word : (q : Place) → Inside q → word_at (drop_key (place_at (Waits z a)) k s) q ≡ cond (same q (Waits z a)) (minus (word_at s (Waits z a)) k) (word_at s q)
    unfolding drop_key
    drop_word q h = set_word s (Waits z a) _ tt room there q h

    pub has_add : (j : ℕ) → has (word_at (add_key (place_at (Waits z a)) k s) (Waits z a)) j ≡ (eqb k j || has (word_at s (Waits z a)) j)
    has_add j = rw (add_word (Waits z a) tt, same_self (Waits z a)) (has_plus (word_at s (Waits z a)) k j)

    pub has_drop : (j : ℕ) → has (word_at (drop_key (place_at (Waits z a)) k s) (Waits z a)) j ≡ (not (eqb k j) && has (word_at s (Waits z a)) j)
    has_drop j = rw (drop_word (Waits z a) tt, same_self (Waits z a)) (has_minus (word_at s (Waits z a)) k j)

-- WHAT IS READ FROM SEVERAL WORDS is the same where they are
module _ (s u : List ℕ) where
  pub value_same : (store : Store) (k : ℕ) → (k < key_limit → SameAt s u (Mark store k)) → (k < key_limit → SameAt s u (Word store k)) → value_in s store k ≡ value_in u store k
  unfolding value_in
  value_same store k f g = by (ltb k key_limit) refl
    where
      by : (b : Bool) → ltb k key_limit ≡ b
          → cond b (cond (eqb (mark_of s store k) 0) None (Some (word_of s store k))) None
          ≡ cond b (cond (eqb (mark_of u store k) 0) None (Some (word_of u store k))) None
      by true e = rw (f (ltb-true k key_limit e), g (ltb-true k key_limit e))
      by false e = refl

  pub residual_same : (a : ℕ) → length s ≡ length u → ((i : ℕ) → i < residual_words → SameAt s u (Residual a i)) → residual_of s a ≡ residual_of u a
  residual_same a e h =
      let n = residual_at a in
      let l : length (take residual_words (drop n s)) ≡ length (take residual_words (drop n u)) = simp (length-take, length-drop, e) in
      ext_get_or 0 (residual_of s a) (residual_of u a) l (λ i b. let c : i < residual_words = omega (arith, length-take residual_words (drop n s)) in
      get_d_part s n residual_words i 0 c ∙ h i c ∙ sym (get_d_part u n residual_words i 0 c))

  pub term_same : (a : ℕ) → length s ≡ length u → SameAt s u (Length a) → ((i : ℕ) → i < residual_words → SameAt s u (Residual a i)) → term_in s a ≡ term_in u a
  term_same a e f h = ap₂ (λ (n : ℕ) (ws : List ℕ). term_of (take n ws)) f (residual_same a e h)
