-- Refusal 9 tests exactly that a state is well formed, and its facts are read and used part by part.
-- Assumes nothing.
use Prim.Native.Nat.{ℕ, ◌+◌, ◌-◌, ◌^◌, ◌<◌, ◌≤◌}
use mathlib.Core.Bool.{Bool, true, false, cond, not, ◌&&◌, ◌||◌}
use mathlib.Core.Logic.{⊎_elim}
use mathlib.Core.Path.{◌≡◌, refl, sym, ap, ◌∙◌}
use mathlib.Core.List.{List}
use native.Mathlib.Omega.{arith}
use lib.Dec.{eqb, ltb, leb}
use lib.ListN.{length, get_or, take, drop}
use lib.Seq.{get_or-drop, length-take-le}
use borrow.Author.Tests.{eqb-true, eqb-false, eq-eqb, ltb-true, lt-ltb, leb-true, le-leb}
use Rattle.basis.specs.KeySets.{has}
use Rattle.basis.specs.Numbers.{every}
use Rattle.basis.proofs.Numbers.{every_at, every_all}
use Rattle.basis.proofs.Tests.{and_left, and_right, and_both, or_left, or_right, lt_or_le}
use Rattle.table.specs.Tables.{Table, first_root}
use Rattle.table.specs.Sound.{Limits}
use Rattle.term.specs.Terms.{Term, words, are_terms}
use Rattle.term.specs.Accepted.{Over}
use Rattle.term.proofs.Words.{over_low, over_whole, whole_read}
use Rattle.state.specs.declared.Store.{Store}
use Rattle.state.specs.declared.Store.TheVariants.{Environment, Attributes, Entries}
use Rattle.state.specs.Layout.{agents_at, block_at, key_limit, residual_words, mark_of, word_of, stamp_of, writer_of, zc_of, zp_of, length_of, residual_of, term_in}
use Rattle.state.specs.Entries.{entry_of, clock_of}
use Rattle.state.specs.WellFormed.{all_zero, writer_formed, pair_formed, pending_formed, entry_formed, residual_formed, agent_formed, well_formed, Proper}
use Rattle.state.proofs.Places.{KeySet, Zc, Zp, Waits, Residual}
use Rattle.state.specs.Standing.{HasBlocks}
use Rattle.state.specs.Formed.{PairFormed, WriterFormed, SetFormed, ResidualFormed, There, highest_in, keys_in, Formed, WellFormed, ProperFacts, FormedExactly}
use Rattle.state.proofs.Frames.{word_at}
use Rattle.state.proofs.Residuals.{zero_at, at_zero, residual_length, residual_front, residual_rest, residual_reads, term_read}

-- Zc or Zp of an agent
pub sets_of : (t : Table) (c : ℕ) (s : List ℕ) → Formed t c s → (z : KeySet) (a : ℕ) → a < t.sizes.agents → SetFormed s a (word_at s (Waits z a))
sets_of t c s f Zc a l = f.zc_formed a l
sets_of t c s f Zp a l = f.zp_formed a l

-- PAIRS
module _ (t : Table) (s : List ℕ) (store : Store) (highest keys k : ℕ) where
  pair_read : pair_formed s store highest keys k ≡ true → PairFormed s store highest keys k
  unfolding pair_formed
  pair_read e =
      let b = leb (mark_of s store k) highest in
      let f = by (eqb (mark_of s store k) 0) refl (and_right b _ e) in
      record { bound = leb-true (mark_of s store k) highest (and_left b _ e); absent = f.0; unused = f.1 }
    where
      by : (z : Bool) → eqb (mark_of s store k) 0 ≡ z → cond z (eqb (word_of s store k) 0) (ltb k keys) ≡ true
          → (mark_of s store k ≡ 0 → word_of s store k ≡ 0) × (keys ≤ k → mark_of s store k ≡ 0)
      by true f g = (λ h. eqb-true (word_of s store k) 0 g, λ l. eqb-true (mark_of s store k) 0 f)
      by false f g = (λ h. absurd (eqb-false (mark_of s store k) 0 f h), λ l. let m = ltb-true k keys g in absurd (omega arith))

  pair_test : PairFormed s store highest keys k → pair_formed s store highest keys k ≡ true
  unfolding pair_formed
  pair_test p = and_both (leb (mark_of s store k) highest) _ (le-leb (mark_of s store k) highest p.bound) (by (eqb (mark_of s store k) 0) refl)
    where
      by : (z : Bool) → eqb (mark_of s store k) 0 ≡ z → cond z (eqb (word_of s store k) 0) (ltb k keys) ≡ true
      by true f = eq-eqb (word_of s store k) 0 (p.absent (eqb-true (mark_of s store k) 0 f))
      by false f = ⊎_elim (λ (l : k < keys). lt-ltb k keys l) (λ (l : keys ≤ k). absurd (eqb-false (mark_of s store k) 0 f (p.unused l))) (lt_or_le k keys)

-- WRITERS
module _ (s : List ℕ) (agents a k : ℕ) where
  writer_read : writer_formed agents (entry_of s a k) ≡ true → WriterFormed s agents a k
  unfolding writer_formed
  writer_read e = by (eqb (stamp_of s a k) 0) refl e
    where
      by : (z : Bool) → eqb (stamp_of s a k) 0 ≡ z → cond z (eqb (writer_of s a k) 0) (ltb (writer_of s a k) agents) ≡ true → WriterFormed s agents a k
      by true f g = record { none = λ h. eqb-true (writer_of s a k) 0 g; agent = λ l. absurd (omega (arith, eqb-true (stamp_of s a k) 0 f)) }
      by false f g = record { none = λ h. absurd (eqb-false (stamp_of s a k) 0 f h); agent = λ l. ltb-true (writer_of s a k) agents g }

  writer_test : WriterFormed s agents a k → writer_formed agents (entry_of s a k) ≡ true
  unfolding writer_formed
  writer_test w = by (eqb (stamp_of s a k) 0) refl
    where
      by : (z : Bool) → eqb (stamp_of s a k) 0 ≡ z → cond z (eqb (writer_of s a k) 0) (ltb (writer_of s a k) agents) ≡ true
      by true f = eq-eqb (writer_of s a k) 0 (w.none (eqb-true (stamp_of s a k) 0 f))
      by false f = ⊎_elim (λ (l : 0 < stamp_of s a k). lt-ltb (writer_of s a k) agents (w.agent l))
          (λ (l : stamp_of s a k ≤ 0). absurd (eqb-false (stamp_of s a k) 0 f (omega arith))) (lt_or_le 0 (stamp_of s a k))

-- SETS
module _ (t : Table) (s : List ℕ) (a : ℕ) where
  sets_read : zc_of s a < 2 ^ key_limit → zp_of s a < 2 ^ key_limit → ((k : ℕ) → k < key_limit → pending_formed s a k ≡ true) → (z : KeySet) → SetFormed s a (word_at s (Waits z a))
  unfolding pending_formed
  sets_read c p h z = record { narrow = narrow z; entered = λ k l e. held k z e (h k l) }
    where
      narrow : (z : KeySet) → word_at s (Waits z a) < 2 ^ key_limit
      narrow Zc = c
      narrow Zp = p

      pending : (k : ℕ) (z : KeySet) → has (word_at s (Waits z a)) k ≡ true → (has (zc_of s a) k || has (zp_of s a) k) ≡ true
      pending k Zc e = or_left (has (zc_of s a) k) (has (zp_of s a) k) e
      pending k Zp e = or_right (has (zc_of s a) k) (has (zp_of s a) k) e

      held : (k : ℕ) (z : KeySet) → has (word_at s (Waits z a)) k ≡ true → (not (has (zc_of s a) k || has (zp_of s a) k) || ltb 0 (stamp_of s a k)) ≡ true → 0 < stamp_of s a k
      held k z e f = ltb-true 0 (stamp_of s a k) (rw (pending k z e) at f)

  sets_test : ((z : KeySet) → SetFormed s a (word_at s (Waits z a))) → (k : ℕ) → k < key_limit → pending_formed s a k ≡ true
  unfolding pending_formed
  sets_test h k l = by (has (zc_of s a) k) refl (has (zp_of s a) k) refl
    where
      by : (c : Bool) → has (zc_of s a) k ≡ c → (p : Bool) → has (zp_of s a) k ≡ p → (not (c || p) || ltb 0 (stamp_of s a k)) ≡ true
      by true e p f = lt-ltb 0 (stamp_of s a k) ((h Zc).entered k l e)
      by false e true f = lt-ltb 0 (stamp_of s a k) ((h Zp).entered k l f)
      by false e false f = refl

-- RESIDUALS
module _ (t : Table) (few : first_root t ≤ 65532) (s : List ℕ) (room : HasBlocks s) (a : ℕ) (there : a < 32) where
  pub residual_read : residual_formed t s a ≡ true → ResidualFormed t s a
  unfolding residual_formed
  residual_read e =
      let n = length_of s a in
      let ws = take n (residual_of s a) in
      let b = leb n residual_words in
      let short = leb-true n residual_words (and_left b _ e) in
      let f = and_right b _ e in
      let r = whole_read t few ws (and_left (are_terms t 1 ws) _ f) in
      let l : length ws ≡ n = length-take-le n (residual_of s a) (rw (residual_length s a room there) short) in
      let long : n ≡ length (words (term_in s a)) = sym l ∙ ap (λ (vs : List ℕ). length vs) (sym r.1) in
      record {
        over = r.0;
        long = long;
        short = short;
        reads = residual_reads s a (words (term_in s a)) (ap (λ (m : ℕ). take m (residual_of s a)) (sym long) ∙ sym r.1)
            (ap (λ (m : ℕ). all_zero (drop m (residual_of s a))) (sym long) ∙ and_right (are_terms t 1 ws) _ f);
      }

  -- the words of a term, and 0 after them
  pub residual_formed_lem : (T : Term) → Over t T → length_of s a ≡ length (words T) → length (words T) ≤ residual_words
      → ((i : ℕ) → i < residual_words → word_at s (Residual a i) ≡ get_or (words T) i 0) → ResidualFormed t s a
  residual_formed_lem T o l m r =
      let e = term_read s a room there T (over_low t few T o) m l r in
      record { over = rw e o; long = rw e l; short = omega arith; reads = rw e r }

  pub residual_test : ResidualFormed t s a → residual_formed t s a ≡ true
  unfolding residual_formed
  residual_test r =
      let n = length_of s a in
      let T = term_in s a in
      let short : length (words T) ≤ residual_words = omega (arith, r.long, r.short) in
      let front = ap (λ (m : ℕ). take m (residual_of s a)) r.long ∙ residual_front s a room there (words T) short r.reads in
      let rest = ap (λ (m : ℕ). all_zero (drop m (residual_of s a))) r.long ∙ residual_rest s a room there (words T) short r.reads in
      and_both (leb n residual_words) _ (le-leb n residual_words r.short)
      (and_both (are_terms t 1 (take n (residual_of s a))) _ (ap (are_terms t 1) front ∙ over_whole t few T r.over) rest)

-- THE STATE
module _ (t : Table) (limits : Limits t.sizes) (s : List ℕ) (room : HasBlocks s) where
  few : first_root t ≤ 65532
  few = omega arith

  -- the tests of an agent
  record Tested (a : ℕ) : Type 0 where
    attributes : every (pair_formed s (Attributes a) 1 t.sizes.attributes) key_limit ≡ true
    entries : every (pair_formed s (Entries a) (clock_of s) t.sizes.stigmergy) key_limit ≡ true
    to_confirm : zc_of s a < 2 ^ key_limit
    to_propagate : zp_of s a < 2 ^ key_limit
    each_entry : every (entry_formed s t.sizes.agents a) key_limit ≡ true
    residual : residual_formed t s a ≡ true

  tested : (a : ℕ) → agent_formed t s a ≡ true → Tested a
  unfolding agent_formed
  tested a e =
      let f = and_right (every (pair_formed s (Attributes a) 1 t.sizes.attributes) key_limit) _ e in
      let g = and_right (every (pair_formed s (Entries a) (clock_of s) t.sizes.stigmergy) key_limit) _ f in
      let h = and_left (ltb (zc_of s a) (2 ^ key_limit) && ltb (zp_of s a) (2 ^ key_limit)) _ g in
      let i = and_right (ltb (zc_of s a) (2 ^ key_limit) && ltb (zp_of s a) (2 ^ key_limit)) _ g in
      record {
        attributes = and_left (every (pair_formed s (Attributes a) 1 t.sizes.attributes) key_limit) _ e;
        entries = and_left (every (pair_formed s (Entries a) (clock_of s) t.sizes.stigmergy) key_limit) _ f;
        to_confirm = ltb-true (zc_of s a) (2 ^ key_limit) (and_left (ltb (zc_of s a) (2 ^ key_limit)) _ h);
        to_propagate = ltb-true (zp_of s a) (2 ^ key_limit) (and_right (ltb (zc_of s a) (2 ^ key_limit)) _ h);
        each_entry = and_left (every (entry_formed s t.sizes.agents a) key_limit) _ i;
        residual = and_right (every (entry_formed s t.sizes.agents a) key_limit) _ i;
      }

  -- an entry's test: its writer's, and that of its key in the sets
  entry_tested : (a k : ℕ) → entry_formed s t.sizes.agents a k ≡ true → (writer_formed t.sizes.agents (entry_of s a k) ≡ true) × (pending_formed s a k ≡ true)
  unfolding entry_formed
  entry_tested a k e = (and_left (writer_formed t.sizes.agents (entry_of s a k)) _ e, and_right (writer_formed t.sizes.agents (entry_of s a k)) _ e)

  entries_tested : (a : ℕ) → Tested a → (k : ℕ) → k < key_limit → (writer_formed t.sizes.agents (entry_of s a k) ≡ true) × (pending_formed s a k ≡ true)
  entries_tested a b k l = entry_tested a k (every_at (entry_formed s t.sizes.agents a) key_limit b.each_entry k l)

  pub well_formed_read : well_formed t s ≡ true → WellFormed t s
  unfolding well_formed
  well_formed_read e =
      let n = t.sizes.agents in
      let f = and_right (eqb (get_or s agents_at 0) n) _ e in
      let g = and_right (leb (clock_of s) 65535) _ f in
      let h = and_right (every (pair_formed s Environment 1 t.sizes.environment) key_limit) _ g in
      let each : (a : ℕ) → a < n → Tested a = λ a l. tested a (every_at (agent_formed t s) n (and_left (every (agent_formed t s) n) _ h) a l) in
      let zeros = zero_at (drop (block_at n) s) (and_right (every (agent_formed t s) n) _ h) in
      record {
        clock = leb-true (clock_of s) 65535 (and_left (leb (clock_of s) 65535) _ f);
        formed = record {
          agents = eqb-true (get_or s agents_at 0) n (and_left (eqb (get_or s agents_at 0) n) _ e);
          pairs = pairs (and_left (every (pair_formed s Environment 1 t.sizes.environment) key_limit) _ g) each;
          writers = λ a l k h. writer_read s n a k (entries_tested a (each a l) k h).0;
          zc_formed = λ a l. sets a (each a l) Zc;
          zp_formed = λ a l. sets a (each a l) Zp;
          residuals = λ a l. residual_read t few s room a (omega arith) (each a l).residual;
          unused = λ i l. let j : i ≡ block_at n + (i - block_at n) = omega arith in
              ap (λ (m : ℕ). get_or s m 0) j ∙ sym (get_or-drop (block_at n) s (i - block_at n) 0) ∙ zeros (i - block_at n);
        };
      }
    where
      sets : (a : ℕ) → Tested a → (z : KeySet) → SetFormed s a (word_at s (Waits z a))
      sets a b = sets_read t s a b.to_confirm b.to_propagate (λ k h. (entries_tested a b k h).1)

      pairs : every (pair_formed s Environment 1 t.sizes.environment) key_limit ≡ true → ((a : ℕ) → a < t.sizes.agents → Tested a)
          → (store : Store) → There t store → (k : ℕ) → k < key_limit → PairFormed s store (highest_in (clock_of s) store) (keys_in t store) k
      pairs g each Environment h k l = pair_read t s Environment 1 t.sizes.environment k (every_at _ key_limit g k l)
      pairs g each (Attributes a) h k l = pair_read t s (Attributes a) 1 t.sizes.attributes k (every_at _ key_limit (each a h).attributes k l)
      pairs g each (Entries a) h k l = pair_read t s (Entries a) (clock_of s) t.sizes.stigmergy k (every_at _ key_limit (each a h).entries k l)

  module _ (w : WellFormed t s) where
    pairs_test : (store : Store) → There t store → every (pair_formed s store (highest_in (clock_of s) store) (keys_in t store)) key_limit ≡ true
    pairs_test store h = every_all (pair_formed s store (highest_in (clock_of s) store) (keys_in t store)) key_limit
        (λ k l. pair_test t s store (highest_in (clock_of s) store) (keys_in t store) k (w.formed.pairs store h k l))

    entry_test : (a : ℕ) → a < t.sizes.agents → (k : ℕ) → k < key_limit → entry_formed s t.sizes.agents a k ≡ true
    unfolding entry_formed
    entry_test a l k h =
        and_both (writer_formed t.sizes.agents (entry_of s a k)) (pending_formed s a k) (writer_test s t.sizes.agents a k (w.formed.writers a l k h))
        (sets_test t s a (λ z. sets_of t (clock_of s) s w.formed z a l) k h)

    agent_test : (a : ℕ) → a < t.sizes.agents → agent_formed t s a ≡ true
    unfolding agent_formed
    agent_test a l =
        and_both _ _ (pairs_test (Attributes a) l)
        (and_both _ _ (pairs_test (Entries a) l)
        (and_both _ _ (and_both _ _ (lt-ltb (zc_of s a) (2 ^ key_limit) (w.formed.zc_formed a l).narrow) (lt-ltb (zp_of s a) (2 ^ key_limit) (w.formed.zp_formed a l).narrow))
        (and_both _ _ (every_all (entry_formed s t.sizes.agents a) key_limit (entry_test a l))
        (residual_test t few s room a (omega arith) (w.formed.residuals a l)))))

    pub well_formed_test : well_formed t s ≡ true
    unfolding well_formed
    well_formed_test =
        let n = t.sizes.agents in
        and_both _ _ (eq-eqb (get_or s agents_at 0) n w.formed.agents)
        (and_both _ _ (le-leb (clock_of s) 65535 w.clock)
        (and_both _ _ (pairs_test Environment tt)
        (and_both _ _ (every_all (agent_formed t s) n agent_test)
        (at_zero (drop (block_at n) s) (λ i l. get_or-drop (block_at n) s i 0 ∙ w.formed.unused (block_at n + i) (omega arith))))))

pub formed_exactly : FormedExactly
formed_exactly t limits s room = (well_formed_read t limits s room, well_formed_test t limits s room)

-- PROPER WORDS
module _ (t : Table) (limits : Limits t.sizes) (s : List ℕ) where
  pub proper_facts : Proper t s → ProperFacts t s
  proper_facts p = record { whole = p.whole; small = p.small; formed = well_formed_read t limits s (omega (arith, p.whole)) p.formed }

  pub facts_proper : ProperFacts t s → Proper t s
  facts_proper p = record { whole = p.whole; small = p.small; formed = well_formed_test t limits s (omega (arith, p.whole)) p.formed }
