-- Acts, propagations and confirmations keep states well formed, of the right length, and of words of 32 bits.
-- Assumes nothing.
use Prim.Native.Nat.{ℕ, ◌^◌, ◌<◌, ◌≤◌}
use mathlib.Core.Bool.{Bool, true, false, cond, ◌&&◌, ◌||◌}
use mathlib.Core.Logic.{⊎_elim}
use mathlib.Core.Path.{◌≡◌, refl, sym, ap, subst, ◌∙◌}
use mathlib.Core.List.{List}
use native.Mathlib.Omega.{arith}
use lib.Dec.{ltb}
use lib.ListN.{length, get_or, set}
use borrow.Author.Tests.{ltb-true, eq-eqb}
use Rattle.basis.specs.KeySets.{plus_all}
use Rattle.basis.proofs.Numbers.{for_each_keeps}
use Rattle.basis.proofs.Tests.{and_right, same_or_other, lt_or_le}
use Rattle.value.specs.Values.{Value}
use Rattle.std.specs.Prelude.{None, Some}
use Rattle.table.specs.Tables.{Table, kind_at, p_at, q_at}
use Rattle.table.specs.Sound.{Limits, Sound}
use Rattle.table.proofs.Promises.{attribute_set_operands, stigmergy_set_operands, environment_set_operands}
use Rattle.term.specs.declared.Label.{Label}
use Rattle.term.specs.declared.Label.TheVariants.{Ticking, Acting}
use Rattle.term.specs.Terms.{Term, words}
use Rattle.term.specs.Accepted.{Over}
use Rattle.term.specs.Processes.{Derivation}
use Rattle.term.specs.Accepted.{ActionNode, Labelled}
use Rattle.term.proofs.Inside.{Inside as DerivationInside}
use Rattle.term.proofs.Words.{over_low, words_small}
use Rattle.state.specs.declared.Store.{Store}
use Rattle.state.specs.declared.Store.TheVariants.{Environment, Attributes, Entries}
use Rattle.state.specs.Layout.{block_at, key_limit, residual_words, stamp_of, zc_at, zp_at, zc_of, put, add_key, drop_key}
use Rattle.state.specs.Entries.{entry, entry_of, newer, put_entry, clock_of, next_stamp}
use Rattle.state.specs.declared.Entry.{Entry}
use Rattle.state.proofs.Places.{Place, KeySet, Zc, Zp, Clock, Agents, Mark, Word, Writer, Waits, Length, Residual, place_at, Inside, place_agent, other_agent, past_agent, placed}
use Rattle.state.proofs.Frames.{word_at, SameAt, put_entry_stamp, drop_other}
use Rattle.state.proofs.Evaluation.{SmallValue, value_of_small}
use Rattle.state.specs.Formed.{SetFormed, ResidualFormed, ProperFacts, There, highest_in, keys_in}
use Rattle.state.proofs.Formed.{sets_of, residual_formed_lem}
use Rattle.state.proofs.Keep.{Kept, kept_proper, kept_start, kept_later, kept_clock, kept_keys, kept_add, kept_drop, kept_put, kept_entry, pair_kept, writer_kept, set_kept, residual_kept, set_plus_all}
use Rattle.steps.specs.Acts.{word_in, leave, value_for, writes_entry, guards_read, label_reads, to_confirm, set_key, acted}
use Rattle.steps.specs.declared.Response.{Response}
use Rattle.steps.specs.declared.Response.TheVariants.{Takes, Propagates, Ignores}
use Rattle.steps.specs.Offers.{take_entry, responded, linked, inserts, offer, offered}
use Rattle.steps.proofs.Offers.{takes, holds_newer, response_by_lem}
use Rattle.steps.proofs.Acts.{set_attribute_lem, set_entry, set_environment_lem}
use Rattle.steps.proofs.Leave.{leave_length, leave_small, leave_other, leave_size, leave_word}

module _ (t : Table) (limits : Limits t.sizes) (was : List ℕ) where
  abbrev agents : ℕ
  agents = t.sizes.agents

  -- WHAT AN ACT LEAVES
  module _ (c n : ℕ) (s : List ℕ) (h : Kept t c n was s) (x : ℕ) (there : x < agents) (T : Term) (over : Over t T) (short : length (words T) ≤ residual_words) where
    abbrev left : List ℕ
    left = leave x (words T) s

    other : (p : Place) → Inside p → (place_agent p ≡ x → ⊥) → SameAt left s p
    other p i d = leave_other x (words T) s p i (other_agent p (Length x) d) (λ j l. other_agent p (Residual x j) d)

    residuals : (a : ℕ) → a < agents → ResidualFormed t left a
    residuals a l = ⊎_elim mine else (same_or_other a x)
      where
        mine : a ≡ x → ResidualFormed t left a
        mine e = subst (ResidualFormed t left) (sym e)
            (residual_formed_lem t (omega arith) left (omega (arith, leave_length x (words T) s, h.whole)) x (omega arith) T over
            (leave_size x (words T) s (omega (arith, h.whole)) (omega arith)) short (leave_word x (words T) s (omega (arith, h.whole)) (omega arith)))

        else : (a ≡ x → ⊥) → ResidualFormed t left a
        else d = residual_kept t s left a (leave_length x (words T) s) (other (Length a) tt d) (λ i m. other (Residual a i) m d) (h.formed.residuals a l)

    sets : (z : KeySet) (a : ℕ) → a < agents → SetFormed left a (word_at left (Waits z a))
    sets z a l = rw (leave_other x (words T) s (Waits z a) tt refl (λ j m. refl))
        (set_kept s left a (word_at s (Waits z a)) (λ k i m. rw (leave_other x (words T) s (Mark (Entries a) k) i refl (λ j o. refl)) m) (sets_of t c s h.formed z a l))

    unused : (i : ℕ) → block_at agents ≤ i → get_or left i 0 ≡ 0
    unused i l =
        let p = placed i in
        let m = past_agent p.place agents p.inside (omega (arith, p.at)) in
        ap (λ (j : ℕ). get_or left j 0) (sym p.at) ∙ other p.place p.inside (λ e. omega arith) ∙ ap (λ (j : ℕ). get_or s j 0) p.at ∙ h.formed.unused i l

    pub kept_leave : Kept t c n was left
    kept_leave = record {
      whole = leave_length x (words T) s ∙ h.whole;
      small = leave_small x (words T) s h.small (λ i. omega (arith, words_small T (over_low t (omega arith) T over) i)) (omega arith);
      clock = leave_other x (words T) s Clock tt refl (λ j l. refl) ∙ h.clock;
      formed = record {
        agents = leave_other x (words T) s Agents tt refl (λ j l. refl) ∙ h.formed.agents;
        pairs = λ store i k l. pair_kept s left store (highest_in c store) (keys_in t store) k
            (leave_other x (words T) s (Mark store k) l refl (λ j m. refl)) (leave_other x (words T) s (Word store k) l refl (λ j m. refl)) (h.formed.pairs store i k l);
        writers = λ a l k i. writer_kept s left agents a k (leave_other x (words T) s (Mark (Entries a) k) i refl (λ j m. refl)) (leave_other x (words T) s (Writer a k) i refl (λ j m. refl)) (h.formed.writers a l k i);
        zc_formed = sets Zc;
        zp_formed = sets Zp;
        residuals = residuals;
        unused = unused;
      };
      stamps = λ a k l m. rw (leave_other x (words T) s (Mark (Entries a) k) l refl (λ j i. refl)) (h.stamps a k l m);
    }

  -- OFFERS of x's entry for key k
  module _ (proper : ProperFacts t was) (x k : ℕ) (there : x < agents) (key : k < t.sizes.stigmergy) (entered : 0 < stamp_of was x k) (counts confirming : Bool) where
    abbrev now : ℕ
    now = clock_of was

    k16 : k < key_limit
    k16 = omega arith

    -- the entry that is offered
    early : stamp_of was x k ≤ now
    early = (proper.formed.formed.pairs (Entries x) there k k16).bound

    offer_kept : (y : ℕ) → y < agents → (s : List ℕ) → Kept t now now was s → Kept t now now was (offer t was x k counts confirming y s)
    unfolding offer responded holds_newer take_entry
    offer_kept y l s h =
        subst (λ (r : Response). Kept t now now was (responded k (entry_of was x k) y r s)) (sym (response_by_lem t was x k counts confirming y))
        (by (takes t was x k counts y) confirming (holds_newer t was x k counts y) refl)
      where
        e : Entry
        e = entry_of was x k

        held : Kept t now now was (put_entry y k e s)
        held = kept_entry t limits was now now s h y k e l k16 key entered early (proper.small _) (let c = proper.formed.clock in omega (arith, early)) ((proper.formed.formed.writers x there k k16).agent entered)

        take : Kept t now now was (take_entry k e y s)
        take = kept_add t limits was now now (drop_key (zc_at y) k (put_entry y k e s)) (kept_drop t limits was now now (put_entry y k e s) held Zc y k l) Zp y k l k16
            (rw (drop_other Zc y k (put_entry y k e s) (Mark (Entries y) k) k16 refl, put_entry_stamp y k e s k16 (omega (arith, h.whole)) (omega arith)) entered)

        answer : holds_newer t was x k counts y ≡ true → Kept t now now was (add_key (zp_at y) k s)
        answer f =
            let g = ltb-true (stamp_of was x k) (stamp_of was y k) (and_right (linked t was x k counts y) (newer (entry_of was y k) (entry_of was x k)) f) in
            kept_add t limits was now now s h Zp y k l k16 (h.stamps y k k16 (omega arith))

        by : (a c b : Bool) → holds_newer t was x k counts y ≡ b → Kept t now now was (responded k e y (cond a (Takes (inserts t was x k counts y)) (cond (c && b) Propagates Ignores)) s)
        by true c b f = take
        by false true true f = answer f
        by false true false f = h
        by false false b f = h

    offers_kept : Kept t now now was (offered t was x k counts confirming agents)
    offers_kept = for_each_keeps (offer t was x k counts confirming) (Kept t now now was) agents offer_kept was (kept_start t limits was proper)

    -- the key then leaves one of x's sets
    pub dropped_proper : (z : KeySet) → ProperFacts t (drop_key (place_at (Waits z x)) k (offered t was x k counts confirming agents))
    dropped_proper z = kept_proper t now was _ proper.formed.clock (kept_drop t limits was now now (offered t was x k counts confirming agents) offers_kept z x k there)

-- ACTS
word_small : (v : Value) → SmallValue v → word_in v < 2 ^ 32
word_small None h = omega arith
word_small (Some v) h = h

module _ (t : Table) (sound : Sound t) (bytes : (i : ℕ) → get_or t.operands i 0 < 256) (was : List ℕ) (proper : ProperFacts t was) (x : ℕ) (there : x < t.sizes.agents) where
  limits : Limits t.sizes
  limits = sound.shaped.limits

  module _ (n : ℕ) where
    abbrev key : ℕ
    key = p_at t n

    abbrev word : ℕ
    word = word_in (value_for t was x n)

    small : word < 2 ^ 32
    small = word_small (value_for t was x n) (value_of_small t bytes was proper.small x x (q_at t n))

  -- the clock after, and what is kept
  abbrev Set : List ℕ → Type 0
  Set s = (c : ℕ) × (c ≤ 65535) × Kept t c c was s

  start : Kept t (clock_of was) (clock_of was) was was
  start = kept_start t limits was proper

  pair_set : (store : Store) (n : ℕ) → There t store → highest_in (clock_of was) store ≡ 1 → p_at t n < keys_in t store → p_at t n < key_limit → Set (put store (p_at t n) (word_in (value_for t was x n)) 1 was)
  pair_set store n h e l m = (
    clock_of was,
    proper.formed.clock,
    kept_put t limits was (clock_of was) (clock_of was) was start store (p_at t n) (word n) 1 h m l (omega arith) (omega arith) (small n) (omega arith),
  )

  entry_set : (n : ℕ) → p_at t n < t.sizes.stigmergy → clock_of was < 65535
      → Set (set (add_key (zp_at x) (p_at t n) (put_entry x (p_at t n) (entry (word_in (value_for t was x n)) (next_stamp was) x) was)) (place_at Clock) (next_stamp was))
  entry_set n l room =
      let c = next_stamp was in
      let k = p_at t n in
      let e = entry (word n) c x in
      let u = put_entry x k e was in
      let k16 : k < key_limit = omega arith in
      let later = kept_later t limits was (clock_of was) (clock_of was) was start c (omega arith) in
      let held = kept_entry t limits was c (clock_of was) was later x k e there k16 l (omega arith) (omega arith) (small n) (omega arith) there in
      let pending = kept_add t limits was c (clock_of was) u held Zp x k there k16 (rw (put_entry_stamp x k e was k16 (omega (arith, proper.whole)) (omega arith)) (omega arith)) in
      (c, omega arith, kept_clock t limits was c (clock_of was) (add_key (zp_at x) k u) pending c (omega arith))

  node_set : (n : ℕ) → ActionNode t n → (writes_entry t (Acting n) ≡ true → clock_of was < 65535) → Set (set_key t was x (Acting n))
  node_set n a room =
      ⊎_elim
      (λ (h : kind_at t n < 3).
      let e : kind_at t n ≡ 2 = omega arith in
      let l = (attribute_set_operands t sound n e).0 in
      rw (set_attribute_lem t was x n e) (pair_set (Attributes x) n there refl l (omega arith)))
      (λ (h : 3 ≤ kind_at t n).
      ⊎_elim
      (λ (i : kind_at t n < 4).
      let e : kind_at t n ≡ 3 = omega arith in
      let l = (stigmergy_set_operands t sound n e).0 in
      rw (set_entry t was x n e) (entry_set n l (room (eq-eqb (kind_at t n) 3 e))))
      (λ (i : 4 ≤ kind_at t n).
      let e : kind_at t n ≡ 4 = omega arith in
      let l = (environment_set_operands t sound n e).0 in
      rw (set_environment_lem t was x n e) (pair_set Environment n tt refl l (omega arith)))
      (lt_or_le (kind_at t n) 4))
      (lt_or_le (kind_at t n) 3)

  label_set : (l : Label) → Labelled t l → (writes_entry t l ≡ true → clock_of was < 65535) → Set (set_key t was x l)
  unfolding set_key
  label_set Ticking h room = (clock_of was, proper.formed.clock, start)
  label_set (Acting n) h room = node_set n h room

  module _ (d : Derivation) (inside : DerivationInside t d) (room : writes_entry t d.label ≡ true → clock_of was < 65535) (short : length (words d.leaving) ≤ residual_words) where
    pub acted_proper : ProperFacts t (acted t was x d)
    unfolding acted
    acted_proper =
        let s = set_key t was x d.label in
        let b = label_set d.label inside.label room in
        let c = b.0 in
        let w = plus_all (to_confirm t was x d) key_limit (zc_of s x) in
        let gained = set_plus_all s x (zc_of s x) (b.2.formed.zc_formed x there) (to_confirm t was x d) (λ k l e. b.2.stamps x k l (ltb-true 0 (stamp_of was x k) (and_right (guards_read t d.guards k || label_reads t d.label k) (ltb 0 (stamp_of was x k)) e))) in
        let confirmed = kept_keys t limits was c c s b.2 Zc x w there gained in
        kept_proper t c was (acted t was x d) b.1 (kept_leave t limits was c c (set s (zc_at x) w) confirmed x there d.leaving inside.leaving short)
