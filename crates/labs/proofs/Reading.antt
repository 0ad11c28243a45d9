-- The agents that a state's words stand for, after a change of the words.
-- Assumes nothing.
use Prim.Native.Nat.{ℕ, zero, suc, ◌<◌}
use mathlib.Core.Bool.{Bool, true, false, cond, not, ◌&&◌, and-false}
use mathlib.Core.Logic.{⊎_elim}
use mathlib.Core.Option.{Option, none, some}
use mathlib.Core.Path.{◌≡◌, refl, sym, ap, ◌∙◌, fun_ext}
use mathlib.Core.List.{List}
use native.Mathlib.Omega.{arith}
use lib.Dec.{eqb, ltb}
use lib.ListN.{length}
use borrow.Author.Tests.{ltb-true, lt-ltb, ne_eqb, eq-eqb}
use Rattle.basis.specs.KeySets.{has}
use Rattle.basis.proofs.Tests.{same_or_other}
use Rattle.term.specs.Terms.{Term}
use Rattle.state.specs.declared.Store.TheVariants.{Attributes, Entries}
use Rattle.state.specs.declared.Entry.{Entry as Stored}
use Rattle.state.specs.Layout.{key_limit, word_of, stamp_of, writer_of, zp_at, add_key, drop_key}
use Rattle.state.specs.Entries.{put_entry}
use Rattle.state.specs.Standing.{HasBlocks}
use Rattle.state.proofs.Places.{Place, KeySet, Zc, Zp, Mark, Word, Writer, Waits, Length, Residual, place_at, Inside, place_kind, place_agent, same}
use Rattle.state.proofs.Frames.{word_at, SameAt, value_same, term_same, put_entry_length, put_entry_other, put_entry_value, put_entry_stamp, put_entry_writer, add_length, add_other, has_add, drop_length, drop_other, has_drop}
use Rattle.labs.specs.Agents.{⟨◌⸴◌⸴◌⸴◌⸴◌⟩, Agent, Entry, Interface, Stigmergy, Keys, ◌⟦◌≔◌⟧, ◌∪｛◌｝, ◌∖｛◌｝}
use Rattle.labs.specs.Reading.{entry_of, agent_of}

pub tuple : {I I' : Interface} {L L' : Stigmergy} {P P' : Term} {C C' Q Q' : Keys} → I ≡ I' → L ≡ L' → P ≡ P' → C ≡ C' → Q ≡ Q' →
    ⟨ I ⸴ L ⸴ P ⸴ C ⸴ Q ⟩ ≡ ⟨ I' ⸴ L' ⸴ P' ⸴ C' ⸴ Q' ⟩
tuple p q r u v = cc

abbrev pub entry : ℕ → ℕ → ℕ → Entry
entry v time writer = record { value = v; time = time; writer = writer }

-- an entry of this value, stamp and writer; a stamp of 0 is none
abbrev pub stamped : ℕ → ℕ → ℕ → Option Entry
stamped v stamp writer = cond (eqb stamp 0) none (some (entry v stamp writer))

-- its stamp
abbrev pub time_in : Option Entry → ℕ
time_in none = 0
time_in (some e) = e.time

-- its writer
abbrev pub writer_in : Option Entry → ℕ
writer_in none = 0
writer_in (some e) = e.writer

module _ (s : List ℕ) (a k : ℕ) where
  pub entry_read : k < key_limit → entry_of s a k ≡ stamped (word_of s (Entries a) k) (stamp_of s a k) (writer_of s a k)
  entry_read l = rw (lt-ltb k key_limit l)

  pub entry_present : k < key_limit → 0 < stamp_of s a k → entry_of s a k ≡ some (entry (word_of s (Entries a) k) (stamp_of s a k) (writer_of s a k))
  entry_present l h = entry_read l ∙ rw (ne_eqb (stamp_of s a k) 0 (omega arith))

  pub entry_writer : k < key_limit → 0 < stamp_of s a k → writer_in (entry_of s a k) ≡ writer_of s a k
  entry_writer l h = ap writer_in (entry_present l h)

  pub entry_stamp : k < key_limit → time_in (entry_of s a k) ≡ stamp_of s a k
  entry_stamp l = ap time_in (entry_read l) ∙ by (stamp_of s a k)
    where
      by : (m : ℕ) → time_in (stamped (word_of s (Entries a) k) m (writer_of s a k)) ≡ m
      by zero = refl
      by (suc m) = rw (ne_eqb (suc m) 0 (omega arith))

-- EACH PART IS READ OFF ITS OWN WORDS
module _ (s u : List ℕ) (a : ℕ) where
  pub ISame : ((k : ℕ) → k < key_limit → SameAt s u (Mark (Attributes a) k)) → ((k : ℕ) → k < key_limit → SameAt s u (Word (Attributes a) k)) → (agent_of s a).I ≡ (agent_of u a).I
  ISame f g = fun_ext λ k. value_same s u (Attributes a) k (f k) (g k)

  pub entry_same : (k : ℕ) → (k < key_limit → SameAt s u (Mark (Entries a) k)) → (k < key_limit → SameAt s u (Word (Entries a) k)) → (k < key_limit → SameAt s u (Writer a k))
      → entry_of s a k ≡ entry_of u a k
  entry_same k f g h = by (ltb k key_limit) refl
    where
      by : (b : Bool) → ltb k key_limit ≡ b →
          cond {A = Option Entry} b (stamped (word_of s (Entries a) k) (stamp_of s a k) (writer_of s a k)) none
          ≡ cond {A = Option Entry} b (stamped (word_of u (Entries a) k) (stamp_of u a k) (writer_of u a k)) none
      by true e = rw (f (ltb-true k key_limit e), g (ltb-true k key_limit e), h (ltb-true k key_limit e))
      by false e = refl

  pub LSame : ((k : ℕ) → k < key_limit → SameAt s u (Mark (Entries a) k)) → ((k : ℕ) → k < key_limit → SameAt s u (Word (Entries a) k))
      → ((k : ℕ) → k < key_limit → SameAt s u (Writer a k)) → (agent_of s a).L ≡ (agent_of u a).L
  LSame f g h = fun_ext λ k. entry_same k (f k) (g k) (h k)

  pub ZcSame : SameAt s u (Waits Zc a) → (agent_of s a).Zc ≡ (agent_of u a).Zc
  ZcSame e = ap (λ (w : ℕ). λ (x : ℕ). has w x) e

  pub ZpSame : SameAt s u (Waits Zp a) → (agent_of s a).Zp ≡ (agent_of u a).Zp
  ZpSame e = ap (λ (w : ℕ). λ (x : ℕ). has w x) e

  -- an agent whose words are the same is the same
  pub agent_same : length s ≡ length u → ((p : Place) → Inside p → 0 < place_kind p → place_agent p ≡ a → SameAt s u p) → agent_of s a ≡ agent_of u a
  agent_same e h = tuple
      (ISame (λ k l. h (Mark (Attributes a) k) l (omega arith) refl) (λ k l. h (Word (Attributes a) k) l (omega arith) refl))
      (LSame (λ k l. h (Mark (Entries a) k) l (omega arith) refl) (λ k l. h (Word (Entries a) k) l (omega arith) refl) (λ k l. h (Writer a k) l (omega arith) refl))
      (term_same s u a e (h (Length a) tt (omega arith) refl) (λ i l. h (Residual a i) l (omega arith) refl))
      (ZcSame (h (Waits Zc a) tt (omega arith) refl)) (ZpSame (h (Waits Zp a) tt (omega arith) refl))

-- AN ENTRY IS PUT
-- a stored entry, as one of crate labs
abbrev pub labs_entry : Stored → Entry
labs_entry e = entry e.value e.stamp e.writer

module _ (a k : ℕ) (e : Stored) (s : List ℕ) (key : k < key_limit) (room : HasBlocks s) (there : a < 32) (pos : 0 < e.stamp) where
  abbrev after : List ℕ
  after = put_entry a k e s

  put_L : (j : ℕ) → entry_of after a j ≡ cond (eqb k j) (some (labs_entry e)) (entry_of s a j)
  put_L j = ⊎_elim here elsewhere (same_or_other k j)
    where
      here : k ≡ j → entry_of after a j ≡ cond (eqb k j) (some (labs_entry e)) (entry_of s a j)
      here i = rw (← i, eq-eqb k k refl)
          (entry_read after a k key
          ∙ rw (put_entry_stamp a k e s key room there, put_entry_value a k e s key room there, put_entry_writer a k e s key room there, ne_eqb e.stamp 0 (omega arith)))

      elsewhere : (k ≡ j → ⊥) → entry_of after a j ≡ cond (eqb k j) (some (labs_entry e)) (entry_of s a j)
      elsewhere d =
          let i = ne_eqb j k (λ (h : j ≡ k). d (sym h)) in
          rw (ne_eqb k j d) (entry_same after s a j
          (λ l. put_entry_other a k e s key (Mark (Entries a) j) l (rw i) refl refl)
          (λ l. put_entry_other a k e s key (Word (Entries a) j) l refl (rw i) refl)
          (λ l. put_entry_other a k e s key (Writer a j) l refl refl (rw i)))

  pub put_agent : agent_of after a ≡ ⟨ (agent_of s a).I ⸴ (agent_of s a).L ⟦ k ≔ some (labs_entry e) ⟧ ⸴ (agent_of s a).P ⸴ (agent_of s a).Zc ⸴ (agent_of s a).Zp ⟩
  put_agent = tuple
      (ISame after s a (λ j l. other (Mark (Attributes a) j) l (rw and-false) refl refl) (λ j l. other (Word (Attributes a) j) l refl (rw and-false) refl))
      (fun_ext λ j. put_L j)
      (term_same after s a (put_entry_length a k e s) (other (Length a) tt refl refl refl) (λ i l. other (Residual a i) l refl refl refl))
      (ZcSame after s a (other (Waits Zc a) tt refl refl refl))
      (ZpSame after s a (other (Waits Zp a) tt refl refl refl))
    where
      other : (q : Place) → Inside q → same q (Mark (Entries a) k) ≡ false → same q (Word (Entries a) k) ≡ false → same q (Writer a k) ≡ false → SameAt after s q
      other = put_entry_other a k e s key

-- A SET OF KEYS IS CHANGED
abbrev pub with : KeySet → Agent → Keys → Agent
with Zc b Z = ⟨ b.I ⸴ b.L ⸴ b.P ⸴ Z ⸴ b.Zp ⟩
with Zp b Z = ⟨ b.I ⸴ b.L ⸴ b.P ⸴ b.Zc ⸴ Z ⟩

abbrev pub keys_in : KeySet → Agent → Keys
keys_in Zc b = b.Zc
keys_in Zp b = b.Zp

module _ (u s : List ℕ) (a : ℕ) (e : length u ≡ length s) where
  pub waits_agent : (z : KeySet) → ((q : Place) → Inside q → same q (Waits z a) ≡ false → SameAt u s q) →
      agent_of u a ≡ with z (agent_of s a) (λ j. has (word_at u (Waits z a)) j)
  waits_agent Zc other = tuple
      (ISame u s a (λ j l. other (Mark (Attributes a) j) l refl) (λ j l. other (Word (Attributes a) j) l refl))
      (LSame u s a (λ j l. other (Mark (Entries a) j) l refl) (λ j l. other (Word (Entries a) j) l refl) (λ j l. other (Writer a j) l refl))
      (term_same u s a e (other (Length a) tt refl) (λ i l. other (Residual a i) l refl))
      refl (ZpSame u s a (other (Waits Zp a) tt refl))
  waits_agent Zp other = tuple
      (ISame u s a (λ j l. other (Mark (Attributes a) j) l refl) (λ j l. other (Word (Attributes a) j) l refl))
      (LSame u s a (λ j l. other (Mark (Entries a) j) l refl) (λ j l. other (Word (Entries a) j) l refl) (λ j l. other (Writer a j) l refl))
      (term_same u s a e (other (Length a) tt refl) (λ i l. other (Residual a i) l refl))
      (ZcSame u s a (other (Waits Zc a) tt refl)) refl

-- a key is added or dropped
module _ (a k : ℕ) (s : List ℕ) (room : HasBlocks s) (there : a < 32) where
  pub add_zp_agent : agent_of (add_key (zp_at a) k s) a ≡ with Zp (agent_of s a) ((agent_of s a).Zp ∪｛ k ｝)
  add_zp_agent =
      waits_agent (add_key (zp_at a) k s) s a (add_length Zp a k s) Zp (add_other Zp a k s)
      ∙ ap (with Zp (agent_of s a)) (fun_ext λ j. has_add Zp a k s room there j)

  pub drop_agent : (z : KeySet) → agent_of (drop_key (place_at (Waits z a)) k s) a ≡ with z (agent_of s a) (keys_in z (agent_of s a) ∖｛ k ｝)
  drop_agent z =
      waits_agent (drop_key (place_at (Waits z a)) k s) s a (drop_length z a k s) z (drop_other z a k s)
      ∙ ap (with z (agent_of s a)) (fun_ext λ j. has_drop z a k s room there j ∙ ap (λ b. not (eqb k j) && b) (by z j))
    where
      by : (z : KeySet) (j : ℕ) → has (word_at s (Waits z a)) j ≡ keys_in z (agent_of s a) j
      by Zc j = refl
      by Zp j = refl
