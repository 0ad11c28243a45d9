-- Each change of a state keeps it well formed, and entries that there are.
-- Assumes nothing.
use Prim.Native.Nat.{ℕ, ◌^◌, ◌<◌, ◌≤◌}
use mathlib.Core.Bool.{Bool, true, false, not, ◌&&◌}
use mathlib.Core.Logic.{⊎_elim}
use mathlib.Core.Path.{◌≡◌, refl, sym, ap, subst, ◌∙◌}
use mathlib.Core.List.{List}
use native.Mathlib.Omega.{arith}
use lib.Dec.{eqb, ltb}
use lib.ListN.{length, get_or, set, length-set}
use lib.Seq.{get_or-set_other}
use borrow.Author.Tests.{eqb-true}
use Rattle.basis.specs.KeySets.{has, plus, minus, plus_all}
use Rattle.basis.proofs.KeySets.{has_plus, has_minus, has_plus_all, plus_small, minus_small, plus_all_small}
use Rattle.basis.proofs.Tests.{and_right, or_either, lt_or_le, cond_cases, either}
use Rattle.table.specs.Tables.{Table}
use Rattle.table.specs.Sound.{Limits}
use Rattle.state.specs.declared.Store.{Store}
use Rattle.state.specs.declared.Store.TheVariants.{Environment, Attributes, Entries}
use Rattle.state.specs.Layout.{state_words, block_at, key_limit, residual_words, clock_at, stamp_of, term_in, put, add_key, drop_key}
use Rattle.state.specs.declared.Entry.{Entry}
use Rattle.state.specs.Entries.{put_entry, clock_of}
use Rattle.state.proofs.Places.{settled, Place, KeySet, Zc, Zp, Clock, Agents, Mark, Word, Writer, Waits, Length, Residual, place_at, Inside, place_agent, place_index, store_agent, same, same_one, place_bound}
use Rattle.state.specs.Standing.{HasBlocks}
use Rattle.state.specs.WellFormed.{Words}
use Rattle.state.proofs.Frames.{word_at, SameAt, set_small, set_other, set_here, set_settled, set_word, put_other, put_word, put_mark, put_length, put_small, term_same}
use Rattle.state.specs.Formed.{PairFormed, WriterFormed, SetFormed, ResidualFormed, There, highest_in, keys_in, Formed, ProperFacts}
use Rattle.state.proofs.Formed.{sets_of}

-- WHAT STAYS where the words stay
pub pair_kept : (s u : List ℕ) (store : Store) (highest keys k : ℕ) → SameAt u s (Mark store k) → SameAt u s (Word store k) → PairFormed s store highest keys k → PairFormed u store highest keys k
pair_kept s u store highest keys k e f p = record { bound = rw e p.bound; absent = λ z. f ∙ p.absent (sym e ∙ z); unused = λ l. e ∙ p.unused l }

pub writer_kept : (s u : List ℕ) (agents a k : ℕ) → SameAt u s (Mark (Entries a) k) → SameAt u s (Writer a k) → WriterFormed s agents a k → WriterFormed u agents a k
writer_kept s u agents a k e f w = record { none = λ z. f ∙ w.none (sym e ∙ z); agent = λ l. rw f (w.agent (rw e at l)) }

pub set_kept : (s u : List ℕ) (a w : ℕ) → ((k : ℕ) → k < key_limit → 0 < stamp_of s a k → 0 < stamp_of u a k) → SetFormed s a w → SetFormed u a w
set_kept s u a w h f = record { narrow = f.narrow; entered = λ k l e. h k l (f.entered k l e) }

pub residual_kept : (t : Table) (s u : List ℕ) (a : ℕ) → length u ≡ length s → SameAt u s (Length a) → ((i : ℕ) → i < residual_words → SameAt u s (Residual a i)) → ResidualFormed t s a → ResidualFormed t u a
residual_kept t s u a l e f r =
    let g : term_in u a ≡ term_in s a = term_same u s a l e f in
    record { over = rw g r.over; long = rw g (e ∙ r.long); short = rw e r.short; reads = λ i h. rw g (f i h ∙ r.reads i h) }

-- SETS OF KEYS that have entries
module _ (s : List ℕ) (a w : ℕ) (f : SetFormed s a w) where
  pub set_plus : (k : ℕ) → k < key_limit → 0 < stamp_of s a k → SetFormed s a (plus w k)
  set_plus k l pos = record { narrow = plus_small key_limit w k l f.narrow; entered = held }
    where
      held : (j : ℕ) → j < key_limit → has (plus w k) j ≡ true → 0 < stamp_of s a j
      held j h e = ⊎_elim (λ (g : eqb k j ≡ true). rw (← eqb-true k j g) pos) (f.entered j h) (or_either (eqb k j) (has w j) (sym (has_plus w k j) ∙ e))

  pub set_minus : (k : ℕ) → SetFormed s a (minus w k)
  set_minus k = record {
    narrow = minus_small key_limit w k f.narrow;
    entered = λ j h e. f.entered j h (and_right (not (eqb k j)) (has w j) (sym (has_minus w k j) ∙ e));
  }

  pub set_plus_all : (test : ℕ → Bool) → ((k : ℕ) → k < key_limit → test k ≡ true → 0 < stamp_of s a k) → SetFormed s a (plus_all test key_limit w)
  set_plus_all test pos = record { narrow = plus_all_small test key_limit key_limit w (omega arith) f.narrow; entered = held }
    where
      held : (j : ℕ) → j < key_limit → has (plus_all test key_limit w) j ≡ true → 0 < stamp_of s a j
      held j h e =
          ⊎_elim (λ (g : (ltb j key_limit && test j) ≡ true). pos j h (and_right (ltb j key_limit) (test j) g)) (f.entered j h)
          (or_either (ltb j key_limit && test j) (has w j) (sym (has_plus_all test key_limit w j) ∙ e))

module _ (t : Table) (limits : Limits t.sizes) where
  abbrev agents : ℕ
  agents = t.sizes.agents

  there_agent : (store : Store) → There t store → store_agent store < agents
  there_agent Environment h = omega arith
  there_agent (Attributes a) h = h
  there_agent (Entries a) h = h

  formed_later : (c d : ℕ) (s : List ℕ) → c ≤ d → Formed t c s → Formed t d s
  formed_later c d s l f = record {
    agents = f.agents;
    pairs = pairs;
    writers = f.writers;
    zc_formed = f.zc_formed;
    zp_formed = f.zp_formed;
    residuals = f.residuals;
    unused = f.unused;
  }
    where
      pairs : (store : Store) → There t store → (k : ℕ) → k < key_limit → PairFormed s store (highest_in d store) (keys_in t store) k
      pairs Environment h k i = f.pairs Environment h k i
      pairs (Attributes a) h k i = f.pairs (Attributes a) h k i
      pairs (Entries a) h k i = let p = f.pairs (Entries a) h k i in record { bound = omega (arith, p.bound); absent = p.absent; unused = p.unused }

  module _ (c : ℕ) (s : List ℕ) (room : HasBlocks s) (f : Formed t c s) where
    -- the unused words, after a change of a place that is used
    still_unused : (u : List ℕ) (p : Place) (v : ℕ) → Inside p → place_agent p < agents → ((i : ℕ) → block_at agents ≤ i → get_or u i 0 ≡ 0) → (i : ℕ) → block_at agents ≤ i → get_or (set u (place_at p) v) i 0 ≡ 0
    still_unused u p v h l z i m = get_or-set_other u (place_at p) i v 0 (λ e. omega (arith, place_bound p agents h l)) ∙ z i m

    -- A SET'S WORD, A WRITER, OR THE CLOCK
    module _ (p : Place) (v : ℕ) (inside : Inside p) (there : place_agent p < agents)
        (loose : settled p ≡ false)
        (sets : (z : KeySet) (a : ℕ) → a < agents → SetFormed s a (word_at (set s (place_at p) v) (Waits z a)))
        (writers : (a : ℕ) → a < agents → (k : ℕ) → k < key_limit → WriterFormed (set s (place_at p) v) agents a k) where
      abbrev changed : List ℕ
      changed = set s (place_at p) v

      still : (q : Place) → Inside q → settled q ≡ true → SameAt changed s q
      still = set_settled s p v inside loose

      formed_set : Formed t c changed
      formed_set = record {
        agents = still Agents tt refl ∙ f.agents;
        pairs = λ store h k l. pair_kept s changed store (highest_in c store) (keys_in t store) k (still (Mark store k) l refl) (still (Word store k) l refl) (f.pairs store h k l);
        writers = writers;
        zc_formed = held Zc;
        zp_formed = held Zp;
        residuals = λ a l. residual_kept t s changed a (length-set s (place_at p) v) (still (Length a) tt refl) (λ i h. still (Residual a i) h refl) (f.residuals a l);
        unused = still_unused s p v inside there f.unused;
      }
        where
          held : (z : KeySet) (a : ℕ) → a < agents → SetFormed changed a (word_at changed (Waits z a))
          held z a l = set_kept s changed a (word_at changed (Waits z a)) (λ k h m. rw (still (Mark (Entries a) k) h refl) m) (sets z a l)

    -- the writers, after a change of no mark and no writer
    same_writers : (p : Place) (v : ℕ) → Inside p → ((a k : ℕ) → same (Mark (Entries a) k) p ≡ false) → ((a k : ℕ) → same (Writer a k) p ≡ false)
        → (a : ℕ) → a < agents → (k : ℕ) → k < key_limit → WriterFormed (set s (place_at p) v) agents a k
    same_writers p v inside m r a l k h =
        writer_kept s (set s (place_at p) v) agents a k (set_other s p v inside (Mark (Entries a) k) h (m a k)) (set_other s p v inside (Writer a k) h (r a k)) (f.writers a l k h)

    formed_clock : (v : ℕ) → Formed t c (set s clock_at v)
    formed_clock v = formed_set Clock v tt (omega arith) refl
        (λ z a l. rw (set_other s Clock v tt (Waits z a) tt refl) (sets_of t c s f z a l))
        (same_writers Clock v tt (λ a k. refl) (λ a k. refl))

    formed_keys : (z : KeySet) (a w : ℕ) → a < agents → SetFormed s a w → Formed t c (set s (place_at (Waits z a)) w)
    formed_keys z a w there g = formed_set (Waits z a) w tt there refl sets (same_writers (Waits z a) w tt (λ b k. refl) (λ b k. refl))
      where
        sets : (y : KeySet) (b : ℕ) → b < agents → SetFormed s b (word_at (set s (place_at (Waits z a)) w) (Waits y b))
        sets y b l = rw (set_word s (Waits z a) w tt room (omega arith) (Waits y b) tt)
            (cond_cases (SetFormed s b) (same (Waits y b) (Waits z a))
            (λ e. subst (λ (d : ℕ). SetFormed s d w) (sym (ap place_agent (same_one (Waits y b) (Waits z a) e))) g) (λ e. sets_of t c s f y b l))

    -- the writer of an entry
    formed_writer : (a k w : ℕ) → a < agents → k < key_limit → 0 < stamp_of s a k → w < agents → Formed t c (set s (place_at (Writer a k)) w)
    formed_writer a k w there key pos below =
        formed_set (Writer a k) w key there refl (λ z b l. rw (set_other s (Writer a k) w key (Waits z b) tt refl) (sets_of t c s f z b l)) writers
      where
        stays : (b j : ℕ) → j < key_limit → stamp_of (set s (place_at (Writer a k)) w) b j ≡ stamp_of s b j
        stays b j h = set_other s (Writer a k) w key (Mark (Entries b) j) h refl

        mine : WriterFormed (set s (place_at (Writer a k)) w) agents a k
        mine = record { none = λ z. absurd (omega (arith, stays a k key)); agent = λ i. rw (set_here s (Writer a k) w key room (omega arith)) below }

        writers : (b : ℕ) → b < agents → (j : ℕ) → j < key_limit → WriterFormed (set s (place_at (Writer a k)) w) agents b j
        writers b l j h =
            ⊎_elim (λ e. let g = same_one (Writer b j) (Writer a k) e in
            let d : b ≡ a = ap place_agent g in
            let i : j ≡ k = ap place_index g in
            rw (d, i) mine)
            (λ e. writer_kept s (set s (place_at (Writer a k)) w) agents b j (stays b j h) (set_other s (Writer a k) w key (Writer b j) h e) (f.writers b l j h))
            (either (same (Writer b j) (Writer a k)))

    -- A PAIR
    module _ (store : Store) (k v m : ℕ) (there : There t store) (key : k < key_limit) (used : k < keys_in t store) (pos : 0 < m) (bound : m ≤ highest_in c store) where
      abbrev with_pair : List ℕ
      with_pair = put store k v m s

      few : store_agent store < 32
      few = omega (arith, there_agent store there)

      pairs : (other : Store) → There t other → (j : ℕ) → j < key_limit → PairFormed with_pair other (highest_in c other) (keys_in t other) j
      pairs other h j l = ⊎_elim mine else (either (same (Mark other j) (Mark store k)))
        where
          mine : same (Mark other j) (Mark store k) ≡ true → PairFormed with_pair other (highest_in c other) (keys_in t other) j
          mine e =
              let g : Mark other j ≡ Mark store k = same_one (Mark other j) (Mark store k) e in
              let d : other ≡ store = cc in
              let i : j ≡ k = cc in
              let q = put_mark store k v m s key room few in
              rw (d, i) (record { bound = rw q bound; absent = λ z. absurd (omega arith); unused = λ z. absurd (omega arith) })

          else : same (Mark other j) (Mark store k) ≡ false → PairFormed with_pair other (highest_in c other) (keys_in t other) j
          else e = pair_kept s with_pair other (highest_in c other) (keys_in t other) j (put_other store k v m s key (Mark other j) l e refl) (put_other store k v m s key (Word other j) l refl e) (f.pairs other h j l)

      stamps : (a j : ℕ) → j < key_limit → 0 < stamp_of s a j → 0 < stamp_of with_pair a j
      stamps a j l h = rw (put_word store k v m s key room few (Mark (Entries a) j) l)
          (cond_cases (λ (n : ℕ). 0 < n) (same (Mark (Entries a) j) (Mark store k)) (λ e. pos) (λ e. h))

      -- writers stay; where there was no entry it is 0, which is an agent
      writers : (a : ℕ) → a < agents → (j : ℕ) → j < key_limit → WriterFormed with_pair agents a j
      writers a below j l =
          let w = f.writers a below j l in
          let r : SameAt with_pair s (Writer a j) = put_other store k v m s key (Writer a j) l refl refl in
          ⊎_elim (λ (p : 0 < stamp_of s a j). record { none = λ z. absurd (omega (arith, stamps a j l p)); agent = λ i. rw r (w.agent p) })
          (λ (p : stamp_of s a j ≤ 0). let z = r ∙ w.none (omega arith) in record { none = λ e. z; agent = λ i. omega arith }) (lt_or_le 0 (stamp_of s a j))

      formed_put : Formed t c (put store k v m s)
      unfolding put
      formed_put = record {
        agents = put_other store k v m s key Agents tt refl refl ∙ f.agents;
        pairs = pairs;
        writers = writers;
        zc_formed = held Zc;
        zp_formed = held Zp;
        residuals = λ a l. residual_kept t s with_pair a (put_length store k v m s) (put_other store k v m s key (Length a) tt refl refl) (λ i h. put_other store k v m s key (Residual a i) h refl refl) (f.residuals a l);
        unused = still_unused (set s (place_at (Word store k)) v) (Mark store k) m key (there_agent store there) (still_unused s (Word store k) v key (there_agent store there) f.unused);
      }
        where
          held : (z : KeySet) (a : ℕ) → a < agents → SetFormed with_pair a (word_at with_pair (Waits z a))
          held z a l = rw (put_other store k v m s key (Waits z a) tt refl refl) (set_kept s with_pair a (word_at s (Waits z a)) (stamps a) (sets_of t c s f z a l))

-- WHAT STEPS KEEP of the state before, `was`: stamps go up to c, and the clock shows n
pub record Kept (t : Table) (c n : ℕ) (was s : List ℕ) : Type 0 where
  pub whole : length s ≡ state_words
  pub small : Words s
  pub clock : clock_of s ≡ n
  pub formed : Formed t c s
  pub stamps : (a k : ℕ) → k < key_limit → 0 < stamp_of was a k → 0 < stamp_of s a k

pub kept_proper : (t : Table) (c : ℕ) (was s : List ℕ) → c ≤ 65535 → Kept t c c was s → ProperFacts t s
kept_proper t c was s l h =
    record { whole = h.whole; small = h.small; formed = record { clock = rw h.clock l; formed = rw h.clock h.formed } }

module _ (t : Table) (limits : Limits t.sizes) (was : List ℕ) where
  pub kept_start : ProperFacts t was → Kept t (clock_of was) (clock_of was) was was
  kept_start p = record { whole = p.whole; small = p.small; clock = refl; formed = p.formed.formed; stamps = λ a k l h. h }

  module _ (c n : ℕ) (s : List ℕ) (h : Kept t c n was s) where
    pub kept_later : (d : ℕ) → c ≤ d → Kept t d n was s
    kept_later d l = record { whole = h.whole; small = h.small; clock = h.clock; formed = formed_later t limits c d s l h.formed; stamps = h.stamps }

    -- the clock, a set's word or a writer changes, and the clock then shows m
    kept_set : (p : Place) (v m : ℕ) → Inside p → settled p ≡ false → v < 2 ^ 32 → clock_of (set s (place_at p) v) ≡ m → Formed t c (set s (place_at p) v)
        → Kept t c m was (set s (place_at p) v)
    kept_set p v m inside loose low shows f = record {
      whole = length-set s (place_at p) v ∙ h.whole;
      small = set_small s (place_at p) v h.small low;
      clock = shows;
      formed = f;
      stamps = λ a k i q. rw (set_settled s p v inside loose (Mark (Entries a) k) i refl) (h.stamps a k i q);
    }

    pub kept_clock : (v : ℕ) → v < 2 ^ 32 → Kept t c v was (set s clock_at v)
    kept_clock v l = kept_set Clock v v tt refl l (set_here s Clock v tt (omega (arith, h.whole)) (omega arith)) (formed_clock t limits c s (omega (arith, h.whole)) h.formed v)

    -- an agent's set gets a word of keys that have entries
    pub kept_keys : (z : KeySet) (a w : ℕ) → a < t.sizes.agents → SetFormed s a w → Kept t c n was (set s (place_at (Waits z a)) w)
    kept_keys z a w l f =
        kept_set (Waits z a) w n tt refl (omega (arith, f.narrow)) (set_other s (Waits z a) w tt Clock tt refl ∙ h.clock)
        (formed_keys t limits c s (omega (arith, h.whole)) h.formed z a w l f)

    -- an entry's writer becomes an agent
    kept_writer : (a k w : ℕ) → a < t.sizes.agents → k < key_limit → 0 < stamp_of s a k → w < t.sizes.agents → Kept t c n was (set s (place_at (Writer a k)) w)
    kept_writer a k w there key pos below =
        kept_set (Writer a k) w n key refl (omega arith) (set_other s (Writer a k) w key Clock tt refl ∙ h.clock)
        (formed_writer t limits c s (omega (arith, h.whole)) h.formed a k w there key pos below)

    pub kept_add : (z : KeySet) (a k : ℕ) → a < t.sizes.agents → k < key_limit → 0 < stamp_of s a k → Kept t c n was (add_key (place_at (Waits z a)) k s)
    unfolding add_key
    kept_add z a k l key pos = kept_keys z a (plus (word_at s (Waits z a)) k) l (set_plus s a (word_at s (Waits z a)) (sets_of t c s h.formed z a l) k key pos)

    pub kept_drop : (z : KeySet) (a k : ℕ) → a < t.sizes.agents → Kept t c n was (drop_key (place_at (Waits z a)) k s)
    unfolding drop_key
    kept_drop z a k l = kept_keys z a (minus (word_at s (Waits z a)) k) l (set_minus s a (word_at s (Waits z a)) (sets_of t c s h.formed z a l) k)

    pub kept_put : (store : Store) (k v m : ℕ) → There t store → k < key_limit → k < keys_in t store → 0 < m → m ≤ highest_in c store → v < 2 ^ 32 → m < 2 ^ 32
        → Kept t c n was (put store k v m s)
    kept_put store k v m there key used pos bound smallValue smallMark = record {
      whole = put_length store k v m s ∙ h.whole;
      small = put_small store k v m s h.small smallValue smallMark;
      clock = put_other store k v m s key Clock tt refl refl ∙ h.clock;
      formed = formed_put t limits c s (omega (arith, h.whole)) h.formed store k v m there key used pos bound;
      stamps = λ a j l i. stamps t limits c s (omega (arith, h.whole)) h.formed store k v m there key used pos bound a j l (h.stamps a j l i);
    }

  pub kept_entry : (c n : ℕ) (s : List ℕ) → Kept t c n was s → (a k : ℕ) (e : Entry) → a < t.sizes.agents → k < key_limit → k < t.sizes.stigmergy
      → 0 < e.stamp → e.stamp ≤ c → e.value < 2 ^ 32 → e.stamp < 2 ^ 32 → e.writer < t.sizes.agents → Kept t c n was (put_entry a k e s)
  kept_entry c n s h a k e there key used pos bound smallValue smallStamp below =
      kept_writer c n (put (Entries a) k e.value e.stamp s) (kept_put c n s h (Entries a) k e.value e.stamp there key used pos bound smallValue smallStamp)
      a k e.writer there key (rw (put_mark (Entries a) k e.value e.stamp s key (omega (arith, h.whole)) (omega arith)) pos) below
