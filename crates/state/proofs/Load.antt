-- What load leaves: every word of it, and that it is well formed.
-- Assumes nothing.
use Prim.Native.Nat.{ℕ, zero, suc, ◌<◌, ◌≤◌}
use mathlib.Core.Bool.{false}
use mathlib.Core.Path.{◌≡◌, refl, sym, ap, ◌∙◌}
use mathlib.Core.List.{List}
use native.Mathlib.Nat.{add-zero}
use native.Mathlib.Omega.{arith}
use lib.Dec.{ltb}
use lib.ListN.{length, get_or, set, replicate, length-set, length-replicate}
use borrow.Author.Tests.{ne_eqb, ltb-true}
use Rattle.basis.specs.Numbers.{for_each}
use Rattle.basis.proofs.KeySets.{has_nothing}
use Rattle.basis.proofs.Numbers.{for_each_same, for_each_at, for_each_keeps}
use Rattle.basis.proofs.Lists.{get_d_row}
use Rattle.basis.proofs.Tests.{not_both, cond_cases}
use Rattle.value.specs.Values.{Value}
use Rattle.std.specs.Prelude.{None}
use Rattle.table.specs.Tables.{Table, start_at}
use Rattle.table.specs.Sound.{Limits}
use Rattle.term.specs.Terms.{Node, words}
use Rattle.term.specs.Accepted.{Over}
use Rattle.state.specs.declared.Store.{Store}
use Rattle.state.specs.declared.Store.TheVariants.{Entries}
use Rattle.state.specs.Layout.{state_words, agents_at, block_at, length_at, residual_at, residual_words, key_limit, mark_of, writer_of, length_of, term_in, value_in}
use Rattle.state.specs.Entries.{clock_of}
use Rattle.state.specs.WellFormed.{started, loaded, Words}
use Rattle.state.proofs.Places.{Place, KeySet, Zc, Zp, Clock, Agents, Mark, Word, Writer, Waits, Length, Residual, place_at, Inside, place_agent, same, other_agent, past_agent, placed}
use Rattle.state.proofs.Frames.{word_at, SameAt, set_small, set_other, set_here}
use Rattle.state.proofs.Residuals.{term_read}
use Rattle.state.specs.Formed.{SetFormed, WellFormed, ProperFacts}
use Rattle.state.proofs.Formed.{residual_formed_lem}

abbrev zeros : ℕ → List ℕ
zeros n = replicate n 0

zeros_length : (n : ℕ) → length (zeros n) ≡ n
zeros_length n = length-replicate {A = ℕ} n 0

module _ (t : Table) where
  abbrev agents : ℕ
  agents = t.sizes.agents

  abbrev begun : ℕ → List ℕ
  begun n = for_each (started t) n (zeros state_words)

  started_length : (a : ℕ) (s : List ℕ) → length (started t a s) ≡ length s
  started_length a s = length-set (set s (length_at a) 1) (residual_at a) (start_at t a) ∙ length-set s (length_at a) 1

  begun_length : (n : ℕ) → length (begun n) ≡ state_words
  begun_length n = for_each_same (started t) (λ (s : List ℕ). length s) n (λ a l s. started_length a s) (zeros state_words) ∙ zeros_length state_words

  pub loaded_length : length (loaded t) ≡ state_words
  unfolding loaded
  loaded_length = length-set (begun agents) agents_at agents ∙ begun_length agents

  -- a start writes two words, the second at the residual's first place
  first_place : (a : ℕ) → residual_at a ≡ place_at (Residual a 0)
  first_place a = sym (add-zero (residual_at a))

  started_other : (a : ℕ) (s : List ℕ) (p : Place) → Inside p → same p (Length a) ≡ false → same p (Residual a 0) ≡ false → SameAt (started t a s) s p
  started_other a s p h e f =
      ap (λ (i : ℕ). get_or (set (set s (length_at a) 1) i (start_at t a)) (place_at p) 0) (first_place a)
      ∙ set_other (set s (length_at a) 1) (Residual a 0) (start_at t a) (omega arith) p h f
      ∙ set_other s (Length a) 1 tt p h e

  -- everything that no agent starts with is 0
  pub loaded_zero : (p : Place) → Inside p → same p Agents ≡ false → ((a : ℕ) → a < agents → same p (Length a) ≡ false)
      → ((a : ℕ) → a < agents → same p (Residual a 0) ≡ false) → word_at (loaded t) p ≡ 0
  unfolding loaded
  loaded_zero p h e f g =
      set_other (begun agents) Agents agents tt p h e
      ∙ for_each_same (started t) (λ (s : List ℕ). word_at s p) agents (λ a l s. started_other a s p h (f a l) (g a l)) (zeros state_words)
      ∙ get_d_row state_words (place_at p) 0

  pub loaded_agents : get_or (loaded t) agents_at 0 ≡ agents
  unfolding loaded
  loaded_agents = set_here (begun agents) Agents agents tt (omega (arith, begun_length agents)) (omega arith)

  pub loaded_clock : clock_of (loaded t) ≡ 0
  loaded_clock = loaded_zero Clock tt refl (λ a l. refl) (λ a l. refl)

  -- no value, no entry, no pending key
  pub loaded_mark : (store : Store) (k : ℕ) → k < key_limit → mark_of (loaded t) store k ≡ 0
  loaded_mark store k l = loaded_zero (Mark store k) l refl (λ a i. refl) (λ a i. refl)

  pub loaded_writer : (a k : ℕ) → k < key_limit → writer_of (loaded t) a k ≡ 0
  loaded_writer a k l = loaded_zero (Writer a k) l refl (λ b i. refl) (λ b i. refl)

  pub loaded_value : (store : Store) (k : ℕ) → value_in (loaded t) store k ≡ None
  unfolding value_in
  loaded_value store k =
      cond_cases (λ (v : Value). v ≡ None) (ltb k key_limit) (λ e. rw (loaded_mark store k (ltb-true k key_limit e))) (λ e. refl)

  pub loaded_set : (z : KeySet) (a : ℕ) → word_at (loaded t) (Waits z a) ≡ 0
  loaded_set z a = loaded_zero (Waits z a) tt refl (λ b i. refl) (λ b i. refl)

  -- an agent's own place is as its start leaves it
  started_last : (a : ℕ) → a < agents → (p : Place) → Inside p → same p Agents ≡ false → place_agent p ≡ a → word_at (loaded t) p ≡ word_at (started t a (begun a)) p
  unfolding loaded
  started_last a l p h e o =
      set_other (begun agents) Agents agents tt p h e
      ∙ for_each_at (started t) (λ (s : List ℕ). word_at s p) a agents l
      (λ b m d s. started_other b s p h (other_agent p (Length b) (λ i. d (sym i ∙ o))) (other_agent p (Residual b 0) (λ i. d (sym i ∙ o)))) (zeros state_words)

  module _ (few : agents ≤ 32) (a : ℕ) (there : a < agents) where
    pub loaded_size : length_of (loaded t) a ≡ 1
    loaded_size =
        started_last a there (Length a) tt refl refl
        ∙ ap (λ (i : ℕ). get_or (set (set (begun a) (length_at a) 1) i (start_at t a)) (length_at a) 0) (first_place a)
        ∙ set_other (set (begun a) (length_at a) 1) (Residual a 0) (start_at t a) (omega arith) (Length a) tt refl
        ∙ set_here (begun a) (Length a) 1 tt (omega (arith, begun_length a)) (omega arith)

    pub loaded_word : (i : ℕ) → i < residual_words → word_at (loaded t) (Residual a i) ≡ get_or (words (Node (start_at t a))) i 0
    unfolding words
    loaded_word zero l =
        started_last a there (Residual a 0) l refl refl
        ∙ ap (λ (i : ℕ). get_or (set (set (begun a) (length_at a) 1) i (start_at t a)) (place_at (Residual a 0)) 0) (first_place a)
        ∙ set_here (set (begun a) (length_at a) 1) (Residual a 0) (start_at t a) l (omega (arith, length-set (begun a) (length_at a) 1, begun_length a)) (omega arith)
    loaded_word (suc i) l = loaded_zero (Residual a (suc i)) l refl (λ b m. refl) (λ b m. rw (ne_eqb (suc i) 0 (omega arith)))

  module _ (limits : Limits t.sizes) (starts : (a : ℕ) → a < agents → Over t (Node (start_at t a))) where
    pub loaded_term : (a : ℕ) → a < agents → term_in (loaded t) a ≡ Node (start_at t a)
    unfolding words
    loaded_term a l =
        term_read (loaded t) a (omega (arith, loaded_length)) (omega arith) (Node (start_at t a)) (let o = starts a l in omega arith) (omega arith)
        (loaded_size (omega arith) a l) (loaded_word (omega arith) a l)

    pub loaded_small : Words (loaded t)
    unfolding loaded
    loaded_small =
        set_small (begun agents) agents_at agents
        (for_each_keeps (started t) Words agents
        (λ a l s h. let o = starts a l in
        set_small (set s (length_at a) 1) (residual_at a) (start_at t a) (set_small s (length_at a) 1 h (omega arith)) (omega arith)) (zeros state_words)
        (λ i. rw (get_d_row {A = ℕ} state_words i 0) (omega arith)))
        (omega arith)

    -- the blocks past the last agent's
    rest : (i : ℕ) → block_at agents ≤ i → get_or (loaded t) i 0 ≡ 0
    rest i h =
        let p = placed i in
        let past = past_agent p.place agents p.inside (omega (arith, p.at)) in
        ap (λ (j : ℕ). get_or (loaded t) j 0) (sym p.at)
        ∙ loaded_zero p.place p.inside (other_agent p.place Agents (λ e. omega arith))
        (λ a l. other_agent p.place (Length a) (λ e. omega arith)) (λ a l. other_agent p.place (Residual a 0) (λ e. omega arith))

    empty : (z : KeySet) (a : ℕ) → SetFormed (loaded t) a (word_at (loaded t) (Waits z a))
    empty z a = rw (loaded_set z a) (record { narrow = omega arith; entered = λ k h e. absurd (not_both e (has_nothing k)) })

    formed : WellFormed t (loaded t)
    unfolding words
    formed =
        record {
          clock = rw loaded_clock (omega arith);
          formed = record {
            agents = loaded_agents;
            pairs = λ store h k l.
                let m = loaded_mark store k l in
                record {
                  bound = rw m (omega arith);
                  absent = λ e. loaded_zero (Word store k) l refl (λ a i. refl) (λ a i. refl);
                  unused = λ e. m;
                };
            writers = λ a l k h. record { none = λ e. loaded_writer a k h; agent = λ i. absurd (omega (arith, loaded_mark (Entries a) k h)) };
            zc_formed = λ a l. empty Zc a;
            zp_formed = λ a l. empty Zp a;
            residuals = λ a l. residual_formed_lem t (omega arith) (loaded t) (omega (arith, loaded_length)) a (omega arith) (Node (start_at t a)) (starts a l) (loaded_size (omega arith) a l) (omega arith) (loaded_word (omega arith) a l);
            unused = rest;
          };
        }

    pub loaded_proper : ProperFacts t (loaded t)
    loaded_proper = record { whole = loaded_length; small = loaded_small; formed = formed }
