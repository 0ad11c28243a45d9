-- What a choice of an accepted table is, and what is read after an act: the key that it sets, Zc, and the residual.
-- Assumes nothing.
use Prim.Native.Nat.{ℕ, zero, suc, ◌<◌, ◌≤◌}
use mathlib.Core.Bool.{false, cond}
use mathlib.Core.Path.{◌≡◌, refl, ap, ap₂, subst, ◌∙◌}
use mathlib.Core.Logic.{⊎_elim}
use mathlib.Core.List.{List, []}
use native.Mathlib.Omega.{arith}
use lib.Dec.{eqb}
use lib.ListN.{length, set, length-set}
use borrow.Author.Tests.{eqb-true, ne_eqb}
use Rattle.basis.specs.KeySets.{plus, plus_all}
use Rattle.basis.proofs.Lists.{nth_in}
use Rattle.basis.proofs.Tests.{cond_cases, same_or_other}
use Rattle.table.specs.Tables.{Table, kind_at, p_at}
use Rattle.table.specs.Sound.{Sound}
use Rattle.table.proofs.Promises.{attribute_set_operands, stigmergy_set_operands, environment_set_operands}
use Rattle.term.specs.declared.Label.{Label}
use Rattle.term.specs.declared.Label.TheVariants.{Ticking, Acting}
use Rattle.term.specs.Terms.{words, Idle}
use Rattle.term.specs.Accepted.{Over}
use Rattle.term.specs.Processes.{Derivation, derivation}
use Rattle.term.specs.Accepted.{ActionNode}
use Rattle.term.proofs.Words.{Low}
use Rattle.term.proofs.Members.{place_in}
use Rattle.term.proofs.Inside.{Inside as InsideTable, derivation_inside}
use Rattle.state.specs.declared.Store.{Store}
use Rattle.state.specs.declared.Store.TheVariants.{Environment, Attributes, Entries}
use Rattle.state.specs.declared.Entry.{Entry}
use Rattle.state.specs.Layout.{clock_at, zc_at, zp_at, key_limit, residual_words, zc_of, zp_of, term_in, put, add_key}
use Rattle.state.specs.Entries.{entry, put_entry, next_stamp}
use Rattle.state.specs.Standing.{HasBlocks}
use Rattle.state.proofs.Places.{Place, Zc, Zp, Clock, Mark, Word, Writer, Waits, Length, Residual, Inside, store_kind, same}
use Rattle.state.proofs.Frames.{word_at, SameAt, set_other, set_here, set_word, put_length, put_other, put_entry_length, put_entry_other, put_entry_word, add_length, add_other, add_word}
use Rattle.steps.specs.Acts.{entered, word_in, choices, chosen, value_for, to_confirm, store_of, set_key, acted}
use Rattle.steps.proofs.Leave.{leave_length, leave_other, leave_term}

-- THE STORE that an action sets
module _ (t : Table) (x : ℕ) where
  pub store_attribute : (n : ℕ) → kind_at t n ≡ 2 → store_of t x n ≡ Attributes x
  store_attribute n e = rw e

  pub store_entry : (n : ℕ) → kind_at t n ≡ 3 → store_of t x n ≡ Entries x
  store_entry n e = rw e

  pub store_environment : (n : ℕ) → kind_at t n ≡ 4 → store_of t x n ≡ Environment
  store_environment n e = rw e

module _ (t : Table) (was : List ℕ) (x : ℕ) where
  -- what a choice does, asks and leaves is of the table's nodes
  pub chosen_inside : Sound t → Over t (term_in was x) → (c : ℕ) → c < length (choices t was x) → InsideTable t (chosen t was x c)
  chosen_inside sound over c h =
      derivation_inside t sound (term_in was x) over (place_in (choices t was x) c (nth_in (choices t was x) c (derivation Ticking [] Idle) h))

  -- the key that an action sets
  pub action_key : Sound t → (n : ℕ) → ActionNode t n → p_at t n < key_limit
  action_key sound n a = by (kind_at t n) refl a.1 a.2
    where
      by : (k : ℕ) → kind_at t n ≡ k → 2 ≤ k → k ≤ 4 → p_at t n < key_limit
      by zero e l m = absurd (omega arith)
      by (suc zero) e l m = absurd (omega arith)
      by (suc (suc zero)) e l m = let p = (attribute_set_operands t sound n e).0 in omega arith
      by (suc (suc (suc zero))) e l m = let p = (stigmergy_set_operands t sound n e).0 in omega arith
      by (suc (suc (suc (suc zero)))) e l m = let p = (environment_set_operands t sound n e).0 in omega arith
      by (suc (suc (suc (suc (suc k))))) e l m = absurd (omega arith)

  -- a stigmergy key is an entry only
  pub store_other : (n : ℕ) → ActionNode t n → (kind_at t n ≡ 3 → ⊥) → store_kind (store_of t x n) ≡ 2 → ⊥
  store_other n a d f = by (kind_at t n) refl a.1 a.2
    where
      by : (k : ℕ) → kind_at t n ≡ k → 2 ≤ k → k ≤ 4 → ⊥
      by zero e l m = omega arith
      by (suc zero) e l m = omega arith
      by (suc (suc zero)) e l m = omega (arith, ap store_kind (store_attribute t x n e))
      by (suc (suc (suc zero))) e l m = d e
      by (suc (suc (suc (suc zero)))) e l m = omega (arith, ap store_kind (store_environment t x n e))
      by (suc (suc (suc (suc (suc k))))) e l m = omega arith

  -- SETTING A KEY
  pub set_tick : set_key t was x Ticking ≡ was
  unfolding set_key
  set_tick = refl

  pub set_value : (n : ℕ) → (kind_at t n ≡ 3 → ⊥) → set_key t was x (Acting n) ≡ put (store_of t x n) (p_at t n) (word_in (value_for t was x n)) 1 was
  unfolding set_key
  set_value n d = rw (set_key, ne_eqb (kind_at t n) 3 d)

  pub set_attribute_lem : (n : ℕ) → kind_at t n ≡ 2 → set_key t was x (Acting n) ≡ put (Attributes x) (p_at t n) (word_in (value_for t was x n)) 1 was
  unfolding set_key
  set_attribute_lem n e = rw e

  pub set_environment_lem : (n : ℕ) → kind_at t n ≡ 4 → set_key t was x (Acting n) ≡ put Environment (p_at t n) (word_in (value_for t was x n)) 1 was
  unfolding set_key
  set_environment_lem n e = rw e

  module _ (n : ℕ) where
    abbrev k : ℕ
    k = p_at t n

    abbrev v : ℕ
    v = word_in (value_for t was x n)

    abbrev written : Entry
    written = entry v (next_stamp was) x

    abbrev put_in : List ℕ
    put_in = put_entry x k written was

    abbrev queued : List ℕ
    queued = add_key (zp_at x) k put_in

    pub set_entry : kind_at t n ≡ 3
        → set_key t was x (Acting n) ≡ entered was x (p_at t n) (word_in (value_for t was x n))
    unfolding set_key
    set_entry e = rw e

    queued_length : length queued ≡ length was
    queued_length = add_length Zp x k put_in ∙ put_entry_length x k written was

    -- the word that is at q after a stigmergy write
    pub entry_word : HasBlocks was → x < 32 → kind_at t n ≡ 3 → p_at t n < key_limit → (q : Place) → Inside q
        → word_at (set_key t was x (Acting n)) q
        ≡ cond (same q Clock) (next_stamp was)
        (cond (same q (Waits Zp x)) (plus (zp_of was x) (p_at t n))
        (cond (same q (Writer x (p_at t n))) x
        (cond (same q (Mark (Entries x) (p_at t n))) (next_stamp was)
        (cond (same q (Word (Entries x) (p_at t n))) (word_in (value_for t was x n)) (word_at was q)))))
    entry_word room there e key q h =
        ap (λ (s : List ℕ). word_at s q) (set_entry e)
        ∙ set_word queued Clock (next_stamp was) tt (omega (arith, queued_length, room)) (omega arith) q h
        ∙ ap (λ w. cond (same q Clock) (next_stamp was) w)
        (add_word Zp x k put_in (omega (arith, put_entry_length x k written was, room)) there q h
        ∙ ap₂ (λ a b. cond (same q (Waits Zp x)) (plus a k) b)
        (put_entry_other x k written was key (Waits Zp x) tt refl refl refl)
        (put_entry_word x k written was key room there q h))

    -- of other words, the clock, Zp and the writer change where it is a stigmergy key, and nothing else
    pub set_key_other : p_at t n < key_limit → (q : Place) → Inside q → same q Clock ≡ false → same q (Waits Zp x) ≡ false
        → same q (Mark (store_of t x n) (p_at t n)) ≡ false → same q (Word (store_of t x n) (p_at t n)) ≡ false → same q (Writer x (p_at t n)) ≡ false
        → SameAt (set_key t was x (Acting n)) was q
    unfolding set_key
    set_key_other key q h c z m w r =
        cond_cases (λ (u : List ℕ). SameAt u was q) (eqb (kind_at t n) 3)
        (λ e. let f = store_entry t x n (eqb-true (kind_at t n) 3 e) in
        set_other queued Clock (next_stamp was) tt q h c ∙ add_other Zp x k put_in q h z
        ∙ put_entry_other x k written was key q h (subst (λ (s : Store). same q (Mark s k) ≡ false) f m) (subst (λ (s : Store). same q (Word s k) ≡ false) f w) r)
        (λ e. put_other store k v 1 was key q h m w)
      where
        store : Store
        store = store_of t x n

  pub set_length : (l : Label) → length (set_key t was x l) ≡ length was
  set_length Ticking = ap (λ (s : List ℕ). length s) set_tick
  set_length (Acting n) =
      ⊎_elim (λ (e : kind_at t n ≡ 3). ap (λ (s : List ℕ). length s) (set_entry n e) ∙ length-set (queued n) clock_at (next_stamp was) ∙ queued_length n)
      (λ (d : kind_at t n ≡ 3 → ⊥). ap (λ (s : List ℕ). length s) (set_value n d) ∙ put_length (store_of t x n) (k n) (v n) 1 was) (same_or_other (kind_at t n) 3)

  -- THE WHOLE ACT
  module _ (d : Derivation) where
    abbrev key_set : List ℕ
    key_set = set_key t was x d.label

    abbrev gains : ℕ
    gains = plus_all (to_confirm t was x d) key_limit (zc_of key_set x)

    pub acted_length : length (acted t was x d) ≡ length was
    unfolding acted
    acted_length = leave_length x (words d.leaving) (set key_set (zc_at x) gains) ∙ length-set key_set (zc_at x) gains ∙ set_length d.label

    -- what is neither Zc nor residual is as the key's setting leaves it
    pub acted_other : (q : Place) → Inside q → same q (Waits Zc x) ≡ false → same q (Length x) ≡ false
        → ((i : ℕ) → i < residual_words → same q (Residual x i) ≡ false) → SameAt (acted t was x d) (set_key t was x d.label) q
    unfolding acted
    acted_other q h e f g = leave_other x (words d.leaving) (set key_set (zc_at x) gains) q h f g ∙ set_other key_set (Waits Zc x) gains tt q h e

    module _ (room : HasBlocks was) (there : x < 32) where
      pub acted_zc : zc_of (acted t was x d) x ≡ plus_all (to_confirm t was x d) key_limit (zc_of (set_key t was x d.label) x)
      unfolding acted
      acted_zc =
          leave_other x (words d.leaving) (set key_set (zc_at x) gains) (Waits Zc x) tt refl (λ i l. refl)
          ∙ set_here key_set (Waits Zc x) gains tt (omega (arith, set_length d.label, room)) there

      pub acted_term : Low d.leaving → length (words d.leaving) ≤ residual_words → term_in (acted t was x d) x ≡ d.leaving
      unfolding acted
      acted_term low short = leave_term x d.leaving (set key_set (zc_at x) gains) (omega (arith, length-set key_set (zc_at x) gains, set_length d.label, room)) there low short
