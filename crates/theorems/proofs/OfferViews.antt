-- What propagate and confirm are to each key's view.
-- Assumes nothing.
use Prim.Native.Nat.{ℕ, ◌<◌, ◌≤◌}
use mathlib.Core.Bool.{Bool, true, false, cond, not, ◌&&◌, ◌||◌, and-true, and-false, or_assoc}
use mathlib.Core.Path.{◌≡◌, refl, sym, ap, ◌∙◌}
use mathlib.Core.Logic.{⊎_elim}
use mathlib.Core.List.{List}
use native.Mathlib.Omega.{arith}
use lib.Dec.{eqb}
use borrow.Author.Tests.{eqb-true, eq-eqb, ne_eqb, lt-ltb, le-ltb}
use Rattle.basis.specs.KeySets.{has, minus}
use Rattle.basis.proofs.KeySets.{has_minus}
use Rattle.basis.proofs.Tests.{lt_or_le, eqb_swap}
use Rattle.agreement.specs.View.{View}
use Rattle.agreement.specs.Moves.{quiet, propagate, confirm, takes, holds_newer, moved}
use Rattle.table.specs.Tables.{Table}
use Rattle.state.specs.declared.Store.TheVariants.{Entries}
use Rattle.state.specs.declared.Entry.{Entry}
use Rattle.state.specs.Layout.{key_limit, zp_of}
use Rattle.state.specs.Entries.{entry_of, newer}
use Rattle.state.specs.Standing.{HasBlocks}
use Rattle.state.proofs.Places.{Place, Zp, Zc, Mark, Word, Writer, Waits, Inside, place_agent}
use Rattle.state.proofs.Frames.{SameAt, drop_other, drop_word}
use Rattle.steps.specs.Offers.{linked, offered, sent}
use Rattle.steps.proofs.Offers.{takes as takes_entry, holds_newer as answers_entry, offered_length, offered_other, offered_entry, offered_zp}
use Rattle.theorems.proofs.Views.{seen, links, same_entry, Shows, shows_same, shows_itself, shows_key}

-- AN OFFER of agent x's entry for key k
module _ (t : Table) (s : List ℕ) (x k : ℕ) where
  abbrev A : ℕ
  A = t.sizes.agents

  abbrev took : ℕ → Bool
  took = takes newer (links t s k) (seen s k) x

  abbrev newer_there : ℕ → Bool
  newer_there = holds_newer newer (links t s k) (seen s k) x

  linked_past : (a : ℕ) → A ≤ a → (e f : Bool) → ((not e && links t s k x a) && f) ≡ false
  linked_past a l true f = refl
  linked_past a l false f = rw (le-ltb a A l)

  took_past : (a : ℕ) → A ≤ a → took a ≡ false
  took_past a l = linked_past a l (eqb x a) (newer (entry_of s x k) (entry_of s a k))

  newer_past : (a : ℕ) → A ≤ a → newer_there a ≡ false
  newer_past a l = linked_past a l (eqb x a) (newer (entry_of s a k) (entry_of s x k))

  took_there : (a : ℕ) → a < A → took a ≡ takes_entry t s x k true a
  unfolding takes_entry linked
  took_there a l = rw (lt-ltb a A l)

  newer_there_below : (a : ℕ) → a < A → newer_there a ≡ answers_entry t s x k true a
  unfolding answers_entry linked
  newer_there_below a l = rw (lt-ltb a A l)

  -- what the offer gives the key, before x's own set changes
  abbrev given : Bool → View Entry
  given confirming = record { entry = λ a. cond (took a) (entry_of s x k) (entry_of s a k); waits = λ a. took a || ((confirming && newer_there a) || has (zp_of s a) k) }

  module _ (confirming : Bool) (key : k < key_limit) (few : A ≤ 32) (room : HasBlocks s) where
    abbrev after : List ℕ
    after = offered t s x k true confirming A

    -- an agent that there is not
    past_shows : (a : ℕ) → A ≤ a → (j : ℕ) → j < key_limit → Shows after j (seen s j) a
    past_shows a l j low =
        shows_same after s j (seen s j) a (kept (Word (Entries a) j) low refl) (kept (Mark (Entries a) j) low refl) (kept (Writer a j) low refl) (kept (Waits Zp a) tt refl) (shows_itself s j a)
      where
        kept : (q : Place) → Inside q → place_agent q ≡ a → SameAt after s q
        kept q h e = offered_other t s x k true confirming key A q h (λ y m d c. absurd (omega arith))

    offered_shows : (a : ℕ) → Shows after k (given confirming) a
    offered_shows a = ⊎_elim there past (lt_or_le a A)
      where
        own : Bool
        own = takes_entry t s x k true a

        there : a < A → Shows after k (given confirming) a
        there l = record {
          entry = offered_entry t s x k true confirming key A few room a l k key
              ∙ ap (λ b. cond b (entry_of s x k) (entry_of s a k)) (ap (λ b. own && b) (eq-eqb k k refl) ∙ and-true own ∙ sym (took_there a l));
          waits = offered_zp t s x k true confirming key A few room a l k
              ∙ rw (took_there a l, newer_there_below a l, eq-eqb k k refl, and-true (own || (confirming && answers_entry t s x k true a))) (or_assoc own (confirming && answers_entry t s x k true a) (has (zp_of s a) k));
        }

        past : A ≤ a → Shows after k (given confirming) a
        past l =
            let w = past_shows a l k key in
            record {
              entry = w.entry ∙ ap (λ b. cond b (entry_of s x k) (entry_of s a k)) (sym (took_past a l));
              waits = w.waits ∙ rw (took_past a l, newer_past a l, and-false confirming);
            }

    -- to another key the offer is nothing
    offered_apart : (j : ℕ) → (k ≡ j → ⊥) → j < key_limit → (a : ℕ) → Shows after j (seen s j) a
    offered_apart j d low a = ⊎_elim there (λ (l : A ≤ a). past_shows a l j low) (lt_or_le a A)
      where
        fails : (b c : Bool) → c ≡ false → (b && c) ≡ false
        fails b c e = ap (λ d. b && d) e ∙ and-false b

        there : a < A → Shows after j (seen s j) a
        there l = record {
          entry = offered_entry t s x k true confirming key A few room a l j low
              ∙ ap (λ b. cond b (entry_of s x k) (entry_of s a j)) (fails (takes_entry t s x k true a) (eqb j k) (ne_eqb j k (λ e. d (sym e))));
          waits = offered_zp t s x k true confirming key A few room a l j
              ∙ ap (λ b. b || has (zp_of s a) j) (fails (takes_entry t s x k true a || (confirming && answers_entry t s x k true a)) (eqb k j) (ne_eqb k j d));
        }

  module _ (key : k < key_limit) (few : A ≤ 32) (room : HasBlocks s) (there : x < A) (j : ℕ) (low : j < key_limit) where
    -- CONFIRM takes the key from Zc
    pub confirm_shows : (a : ℕ) → Shows (sent t s x k true true A) j (moved newer (links t s j) (cond (eqb k j) (confirm x) quiet) (seen s j)) a
    unfolding moved
    confirm_shows a =
        shows_key t s (sent t s x k true true A) k j a (confirm x) (kept k key (given true) (offered_shows true key few room a))
        (λ d. kept j low (seen s j) (offered_apart true key few room j d low a))
      where
        all : List ℕ
        all = offered t s x k true true A

        kept : (i : ℕ) → i < key_limit → (v : View Entry) → Shows all i v a → Shows (sent t s x k true true A) i v a
        kept i l v w =
            shows_same (sent t s x k true true A) all i v a (drop_other Zc x k all (Word (Entries a) i) l refl)
            (drop_other Zc x k all (Mark (Entries a) i) l refl) (drop_other Zc x k all (Writer a i) l refl) (drop_other Zc x k all (Waits Zp a) tt refl) w

    -- PROPAGATE takes it from Zp
    pub propagate_shows : (a : ℕ) → Shows (sent t s x k true false A) j (moved newer (links t s j) (cond (eqb k j) (propagate x) quiet) (seen s j)) a
    unfolding moved
    propagate_shows a =
        shows_key t s (sent t s x k true false A) k j a (propagate x)
        (let w = offered_shows false key few room a in
        record {
          entry = kept k key (given false) w;
          waits = lost k ∙ rw (eq-eqb k k refl, eqb_swap a x, w.waits) (own (eqb x a) (links t s k x a) (newer (entry_of s x k) (entry_of s a k)) (has (zp_of s a) k));
        })
        (λ d. let w = offered_apart false key few room j d low a in
        record { entry = kept j low (seen s j) w; waits = lost j ∙ rw (ne_eqb k j d) w.waits })
      where
        all : List ℕ
        all = offered t s x k true false A

        kept : (i : ℕ) → i < key_limit → (v : View Entry) → Shows all i v a → (seen (sent t s x k true false A) i).entry a ≡ v.entry a
        kept i l v w =
            same_entry (drop_other Zp x k all (Word (Entries a) i) l refl) (drop_other Zp x k all (Mark (Entries a) i) l refl) (drop_other Zp x k all (Writer a i) l refl) ∙ w.entry

        -- x loses the key
        lost : (i : ℕ) → has (zp_of (sent t s x k true false A) a) i ≡ (not (eqb k i && eqb a x) && has (zp_of all a) i)
        lost i =
            ap (λ (w : ℕ). has w i) (drop_word Zp x k all (omega (arith, offered_length t s x k true false A, room)) (omega arith) (Waits Zp a) tt)
            ∙ by (eqb a x) refl
          where
            by : (b : Bool) → eqb a x ≡ b → has (cond b (minus (zp_of all x) k) (zp_of all a)) i ≡ (not (eqb k i && b) && has (zp_of all a) i)
            by true e = has_minus (zp_of all x) k i ∙ rw (eqb-true a x e, and-true (eqb k i))
            by false e = rw (and-false (eqb k i))

        -- and takes nothing
        own : (e l n z : Bool) → (not e && (((not e && l) && n) || z)) ≡ (((not e && l) && n) || (not e && z))
        own true l n z = refl
        own false l n z = refl
