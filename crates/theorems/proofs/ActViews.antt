-- What an act is to each key's view.
-- Assumes nothing.
use Prim.Native.Nat.{ℕ, ◌<◌}
use mathlib.Core.Bool.{Bool, true, false, cond, ◌&&◌, ◌||◌, and-true, and-false}
use mathlib.Core.Path.{◌≡◌, refl, sym, ap, ◌∙◌}
use mathlib.Core.Logic.{⊎_elim}
use mathlib.Core.List.{List}
use lib.Dec.{eqb}
use borrow.Author.Tests.{eqb-true, eq-eqb, ne_eqb}
use Rattle.basis.specs.KeySets.{has, plus}
use Rattle.basis.proofs.KeySets.{has_plus}
use Rattle.basis.proofs.Tests.{same_or_other, eqb_swap}
use Rattle.agreement.specs.Moves.{Move, quiet, write, moved}
use Rattle.table.specs.Tables.{Table, kind_at, p_at}
use Rattle.term.specs.declared.Label.{Label}
use Rattle.term.specs.declared.Label.TheVariants.{Ticking, Acting}
use Rattle.term.specs.Processes.{Derivation}
use Rattle.term.specs.Accepted.{ActionNode, Labelled}
use Rattle.state.specs.declared.Store.{Store}
use Rattle.state.specs.declared.Store.TheVariants.{Entries}
use Rattle.state.specs.declared.Entry.{Entry}
use Rattle.state.specs.Layout.{key_limit, word_of, stamp_of, writer_of, zp_of}
use Rattle.state.specs.Entries.{entry as stored, entry_of, next_stamp, newer}
use Rattle.state.specs.Standing.{HasBlocks}
use Rattle.state.proofs.Places.{Place, Zp, Mark, Word, Writer, Waits, Inside, place_kind, same, same_not}
use Rattle.state.proofs.Frames.{word_at, SameAt, pick_entry, put_other}
use Rattle.steps.specs.Acts.{word_in, value_for, store_of, set_key, acted}
use Rattle.steps.proofs.Acts.{set_tick, set_value, store_other, entry_word, acted_other}
use Rattle.theorems.proofs.Views.{seen, links, same_entry, Shows, shows_same, shows_itself}

-- an act of agent x, seen from key j
module _ (t : Table) (s : List ℕ) (x j : ℕ) where
  -- the write of node n
  abbrev pub written : ℕ → Move Entry
  written n = write x (stored (word_in (value_for t s x n)) (next_stamp s) x)

  abbrev pub act_move : Label → Move Entry
  act_move Ticking = quiet
  act_move (Acting n) = cond (eqb (kind_at t n) 3) (cond (eqb (p_at t n) j) (written n) quiet) quiet

  module _ (room : HasBlocks s) (there : x < 32) (low : j < key_limit) where
    -- a stigmergy write
    write_shows : (n : ℕ) → kind_at t n ≡ 3 → p_at t n < key_limit → (a : ℕ)
        → Shows (set_key t s x (Acting n)) j (moved newer (links t s j) (cond (eqb (p_at t n) j) (written n) quiet) (seen s j)) a
    unfolding moved
    write_shows n e key a =
        let after = entry_word t s x n room there e key in
        record {
          entry = same_entry (after (Word (Entries a) j) low) (after (Mark (Entries a) j) low) (after (Writer a j) low) ∙ rw (eqb_swap j k, eqb_swap a x) (entry (eqb k j));
          waits = ap (λ (w : ℕ). has w j) (after (Waits Zp a) tt) ∙ rw (eqb_swap a x) (gained (eqb x a) refl) ∙ waits (eqb k j);
        }
      where
        k : ℕ
        k = p_at t n

        v : ℕ
        v = word_in (value_for t s x n)

        entry : (b : Bool) → stored (cond (b && eqb x a) v (word_of s (Entries a) j)) (cond (b && eqb x a) (next_stamp s) (stamp_of s a j)) (cond (b && eqb x a) x (writer_of s a j))
            ≡ (moved newer (links t s j) (cond b (written n) quiet) (seen s j)).entry a
        entry true = pick_entry (eqb x a) (stored v (next_stamp s) x) (entry_of s a j)
        entry false = refl

        gained : (b : Bool) → eqb x a ≡ b → has (cond b (plus (zp_of s x) k) (zp_of s a)) j ≡ ((eqb k j && b) || has (zp_of s a) j)
        gained true f = has_plus (zp_of s x) k j ∙ rw (eqb-true x a f, and-true (eqb k j))
        gained false f = rw (and-false (eqb k j))

        waits : (b : Bool) → ((b && eqb x a) || has (zp_of s a) j) ≡ (moved newer (links t s j) (cond b (written n) quiet) (seen s j)).waits a
        waits true = refl
        waits false = refl

    -- setting an attribute or an environment key changes no entry and no Zp
    value_shows : (n : ℕ) → ActionNode t n → (kind_at t n ≡ 3 → ⊥) → p_at t n < key_limit → (a : ℕ) → Shows (set_key t s x (Acting n)) j (seen s j) a
    value_shows n i d key a =
        shows_same (set_key t s x (Acting n)) s j (seen s j) a
        (kept (Word (Entries a) j) low refl (apart (Word (Entries a) j) (Word store (p_at t n)) (λ e. store_other t s x n i d (sym e))))
        (kept (Mark (Entries a) j) low (apart (Mark (Entries a) j) (Mark store (p_at t n)) (λ e. store_other t s x n i d (sym e))) refl)
        (kept (Writer a j) low refl refl) (kept (Waits Zp a) tt refl refl) (shows_itself s j a)
      where
        store : Store
        store = store_of t x n

        apart : (q p : Place) → (place_kind q ≡ place_kind p → ⊥) → same q p ≡ false
        apart q p f = same_not q p (λ e. f (ap place_kind e))

        kept : (q : Place) → Inside q → same q (Mark store (p_at t n)) ≡ false → same q (Word store (p_at t n)) ≡ false → SameAt (set_key t s x (Acting n)) s q
        kept q h e f = ap (λ (u : List ℕ). word_at u q) (set_value t s x n d) ∙ put_other store (p_at t n) (word_in (value_for t s x n)) 1 s key q h e f

    set_shows : (l : Label) → Labelled t l → ((n : ℕ) → ActionNode t n → p_at t n < key_limit) → (a : ℕ) → Shows (set_key t s x l) j (moved newer (links t s j) (act_move l) (seen s j)) a
    unfolding moved
    set_shows Ticking i key a = rw (set_tick t s x) (shows_itself s j a)
    set_shows (Acting n) i key a =
        ⊎_elim (λ (e : kind_at t n ≡ 3). rw (eq-eqb (kind_at t n) 3 e) (write_shows n e (key n i) a))
        (λ (d : kind_at t n ≡ 3 → ⊥). rw (ne_eqb (kind_at t n) 3 d) (value_shows n i d (key n i) a)) (same_or_other (kind_at t n) 3)

    pub act_shows : (d : Derivation) → Labelled t d.label → ((n : ℕ) → ActionNode t n → p_at t n < key_limit) → (a : ℕ)
        → Shows (acted t s x d) j (moved newer (links t s j) (act_move d.label) (seen s j)) a
    act_shows d i key a =
        shows_same (acted t s x d) (set_key t s x d.label) j _ a
        (acted_other t s x d (Word (Entries a) j) low refl refl (λ i l. refl))
        (acted_other t s x d (Mark (Entries a) j) low refl refl (λ i l. refl))
        (acted_other t s x d (Writer a j) low refl refl (λ i l. refl))
        (acted_other t s x d (Waits Zp a) tt refl refl (λ i l. refl))
        (set_shows d.label i key a)
