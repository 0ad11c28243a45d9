-- The places of a state's words. Different places have different numbers, and every number is a place's:
-- this module alone knows the layout, by its names, and all that is proved of a state goes through its laws.
-- Assumes nothing.
use Prim.Native.Nat.{ℕ, ◌+◌, ◌-◌, ◌*◌, ◌/◌, ◌%◌, ◌<◌, ◌≤◌}
use mathlib.Core.Bool.{Bool, true, false, cond, ◌&&◌}
use mathlib.Core.Logic.{⊎_elim}
use mathlib.Core.Path.{◌≡◌, refl, sym, ap, ◌∙◌}
use mathlib.Core.List.{[], ◌∷◌}
use native.Mathlib.Omega.{arith}
use lib.Dec.{eqb, ltb}
use lib.ListN.{get_or}
use borrow.Author.Tests.{eqb-true, eq-eqb, ltb-true, ltb-false, lt-ltb, le-ltb}
use Rattle.basis.proofs.Tests.{is_false, and_left, and_right, lt_or_le, cond_cases, same_test}
use Rattle.state.specs.declared.Store.{Store}
use Rattle.state.specs.declared.Store.TheVariants.{Environment, Attributes, Entries}
pub use Rattle.state.specs.Standing.{store_agent}
use Rattle.state.specs.Layout.{agent_limit, key_limit, pair_words, entry_words, residual_words, block_words, state_words, clock_at, agents_at, environment_at, blocks_at, block_at, entries_at, zc_at, zp_at, length_at, residual_at, mark_at, value_at, writer_at}

-- an agent's sets of keys: Zc and Zp
pub data KeySet : Type 0 where
  Zc Zp : KeySet

pub data Place : Type 0 where
  Clock Agents : Place
  Mark Word : Store → ℕ → Place
  Writer : ℕ → ℕ → Place
  Waits : KeySet → ℕ → Place
  Length : ℕ → Place
  Residual : ℕ → ℕ → Place

-- its number
abbrev pub place_at : Place → ℕ
place_at Clock = clock_at
place_at Agents = agents_at
place_at (Mark store k) = mark_at store k
place_at (Word store k) = value_at store k
place_at (Writer a k) = writer_at a k
place_at (Waits Zc a) = zc_at a
place_at (Waits Zp a) = zp_at a
place_at (Length a) = length_at a
place_at (Residual a i) = residual_at a + i

-- keys and residual words that a state has
abbrev pub Inside : Place → Type 0
Inside Clock = Unit {0}
Inside Agents = Unit {0}
Inside (Mark store k) = k < key_limit
Inside (Word store k) = k < key_limit
Inside (Writer a k) = k < key_limit
Inside (Waits z a) = Unit {0}
Inside (Length a) = Unit {0}
Inside (Residual a i) = i < residual_words

-- WHOSE it is: 0 everyone's; 1 an agent's; 2 an agent's entry. The agent is 0 where it is everyone's
abbrev pub store_kind : Store → ℕ
store_kind Environment = 0
store_kind (Attributes a) = 1
store_kind (Entries a) = 2

abbrev pub place_kind : Place → ℕ
place_kind Clock = 0
place_kind Agents = 0
place_kind (Mark store k) = store_kind store
place_kind (Word store k) = store_kind store
place_kind (Writer a k) = 2
place_kind (Waits z a) = 1
place_kind (Length a) = 1
place_kind (Residual a i) = 1

abbrev pub place_agent : Place → ℕ
place_agent Clock = 0
place_agent Agents = 0
place_agent (Mark store k) = store_agent store
place_agent (Word store k) = store_agent store
place_agent (Writer a k) = a
place_agent (Waits z a) = a
place_agent (Length a) = a
place_agent (Residual a i) = a

-- WHICH of its words it is: its sort, and its index among those of one sort
abbrev pub place_sort : Place → ℕ
place_sort Clock = 0
place_sort Agents = 1
place_sort (Mark store k) = 2
place_sort (Word store k) = 3
place_sort (Writer a k) = 4
place_sort (Waits z a) = 5
place_sort (Length a) = 6
place_sort (Residual a i) = 7

abbrev pub place_index : Place → ℕ
place_index Clock = 0
place_index Agents = 0
place_index (Mark store k) = k
place_index (Word store k) = k
place_index (Writer a k) = k
place_index (Waits Zc a) = 0
place_index (Waits Zp a) = 1
place_index (Length a) = 0
place_index (Residual a i) = i

-- a word that is neither the clock, nor a writer, nor a set of keys
abbrev pub settled : Place → Bool
settled Clock = false
settled Agents = true
settled (Mark store k) = true
settled (Word store k) = true
settled (Writer a k) = false
settled (Waits z a) = false
settled (Length a) = true
settled (Residual a i) = true

-- two stores, and two places, are one: it computes where their forms are known
abbrev pub same_store : Store → Store → Bool
same_store s t = eqb (store_kind s) (store_kind t) && eqb (store_agent s) (store_agent t)

abbrev pub same : Place → Place → Bool
same p q = eqb (place_sort p) (place_sort q) && (eqb (place_index p) (place_index q) && (eqb (place_kind p) (place_kind q) && eqb (place_agent p) (place_agent q)))

abbrev store_from : ℕ → ℕ → Store
store_from kind a = get_or (Environment ∷ Attributes a ∷ Entries a ∷ []) kind Environment

abbrev place_from : ℕ → ℕ → ℕ → ℕ → Place
place_from sort i kind a =
    get_or
    (Clock ∷ Agents ∷ Mark (store_from kind a) i ∷ Word (store_from kind a) i ∷ Writer a i ∷
    Waits (get_or (Zc ∷ Zp ∷ []) i Zc) a ∷ Length a ∷ Residual a i ∷ []) sort Clock

store_made : (s : Store) → store_from (store_kind s) (store_agent s) ≡ s
store_made Environment = refl
store_made (Attributes a) = refl
store_made (Entries a) = refl

place_made : (p : Place) → place_from (place_sort p) (place_index p) (place_kind p) (place_agent p) ≡ p
place_made Clock = refl
place_made Agents = refl
place_made (Mark store k) = ap (λ s. Mark s k) (store_made store)
place_made (Word store k) = ap (λ s. Word s k) (store_made store)
place_made (Writer a k) = refl
place_made (Waits Zc a) = refl
place_made (Waits Zp a) = refl
place_made (Length a) = refl
place_made (Residual a i) = refl

pub same_one : (p q : Place) → same p q ≡ true → p ≡ q
same_one p q e =
    let r = and_right (eqb (place_sort p) (place_sort q)) _ e in
    let u = and_right (eqb (place_index p) (place_index q)) _ r in
    let a : place_sort p ≡ place_sort q = eqb-true _ _ (and_left (eqb (place_sort p) (place_sort q)) _ e) in
    let b : place_index p ≡ place_index q = eqb-true _ _ (and_left (eqb (place_index p) (place_index q)) _ r) in
    let c : place_kind p ≡ place_kind q = eqb-true _ _ (and_left (eqb (place_kind p) (place_kind q)) _ u) in
    let d : place_agent p ≡ place_agent q = eqb-true _ _ (and_right (eqb (place_kind p) (place_kind q)) _ u) in
    sym (place_made p) ∙ (cc) ∙ place_made q

pub same_self : (p : Place) → same p p ≡ true
same_self p = rw (eq-eqb (place_sort p) (place_sort p) refl, eq-eqb (place_index p) (place_index p) refl, eq-eqb (place_kind p) (place_kind p) refl, eq-eqb (place_agent p) (place_agent p) refl)

pub same_not : (p q : Place) → (p ≡ q → ⊥) → same p q ≡ false
same_not p q d = is_false (same p q) (λ e. d (same_one p q e))

-- places of different agents; and a place that is everyone's, or of another agent than that of q
pub other_agent : (p q : Place) → (place_agent p ≡ place_agent q → ⊥) → same p q ≡ false
other_agent p q d = same_not p q (λ e. d (ap place_agent e))

pub else_agent : (p q : Place) → 0 < place_kind q → (0 < place_kind p → place_agent p ≡ place_agent q → ⊥) → same p q ≡ false
else_agent p q k d = same_not p q (λ e. d (rw e k) (ap place_agent e))

-- THE PLACE OF A NUMBER. The words of a key stand in a row in its store; `inKey store k j` is word j of key k
abbrev key_words : Store → ℕ
key_words Environment = pair_words
key_words (Attributes a) = pair_words
key_words (Entries a) = entry_words

abbrev in_key : Store → ℕ → ℕ → Place
in_key Environment k j = cond (ltb j 1) (Mark Environment k) (Word Environment k)
in_key (Attributes a) k j = cond (ltb j 1) (Mark (Attributes a) k) (Word (Attributes a) k)
in_key (Entries a) k j = cond (ltb j 1) (Word (Entries a) k) (cond (ltb j 2) (Mark (Entries a) k) (Writer a k))

abbrev in_store : Store → ℕ → Place
in_store store i = in_key store (i / key_words store) (i % key_words store)

-- where a thing begins in a block, from where it begins in the first
abbrev inside : (ℕ → ℕ) → ℕ
inside at = at 0 - blocks_at

abbrev in_block : ℕ → ℕ → Place
in_block a i =
    cond (ltb i (inside entries_at)) (in_store (Attributes a) i)
    (cond (ltb i (inside zc_at)) (in_store (Entries a) (i - inside entries_at))
    (cond (ltb i (inside zp_at)) (Waits Zc a)
    (cond (ltb i (inside length_at)) (Waits Zp a)
    (cond (ltb i (inside residual_at)) (Length a)
    (Residual a (i - inside residual_at))))))

unfoldable pub place_of : ℕ → Place
place_of n =
    cond (ltb n agents_at) Clock
    (cond (ltb n environment_at) Agents
    (cond (ltb n blocks_at) (in_store Environment (n - environment_at))
    (in_block ((n - blocks_at) / block_words) ((n - blocks_at) % block_words))))

-- a number's key and which of its words it is
divided : (store : Store) (i k j : ℕ) → j < key_words store → i ≡ key_words store * k + j → (i / key_words store ≡ k) × (i % key_words store ≡ j)
divided Environment i k j l h = (omega arith, omega arith)
divided (Attributes a) i k j l h = (omega arith, omega arith)
divided (Entries a) i k j l h = (omega arith, omega arith)

in_key_lem : (store : Store) (k j : ℕ) → j < key_words store → in_store store (key_words store * k + j) ≡ in_key store k j
in_key_lem store k j l = let d = divided store (key_words store * k + j) k j l refl in rw (d.0, d.1)

in_environment : (i n : ℕ) → i < key_limit * pair_words → n ≡ environment_at + i → place_of n ≡ in_store Environment i
unfolding place_of
in_environment i n h e =
    let q : n - environment_at ≡ i = omega arith in
    rw (le-ltb n agents_at (omega arith), le-ltb n environment_at (omega arith), lt-ltb n blocks_at (omega arith), q)

in_block_lem : (a i n : ℕ) → i < block_words → n ≡ block_at a + i → place_of n ≡ in_block a i
unfolding place_of
in_block_lem a i n h e =
    let q : (n - blocks_at) / block_words ≡ a = omega arith in
    let r : (n - blocks_at) % block_words ≡ i = omega arith in
    rw (le-ltb n agents_at (omega arith), le-ltb n environment_at (omega arith), le-ltb n blocks_at (omega arith), q, r)

in_attributes : (a i n : ℕ) → i < key_limit * pair_words → n ≡ block_at a + i → place_of n ≡ in_store (Attributes a) i
in_attributes a i n h e = in_block_lem a i n (omega arith) e ∙ rw (lt-ltb i (inside entries_at) h)

in_entries : (a i n : ℕ) → i < key_limit * entry_words → n ≡ entries_at a + i → place_of n ≡ in_store (Entries a) i
in_entries a i n h e =
    let j = inside entries_at + i in
    let q : j - inside entries_at ≡ i = omega arith in
    in_block_lem a j n (omega arith) (omega arith) ∙ rw (le-ltb j (inside entries_at) (omega arith), lt-ltb j (inside zc_at) (omega arith), q)

-- the place of a place's number is that place
pub place_of_lem : (p : Place) → Inside p → place_of (place_at p) ≡ p
unfolding place_of
place_of_lem Clock h = refl
place_of_lem Agents h = refl
place_of_lem (Mark Environment k) h = in_environment (pair_words * k + 0) (place_at (Mark Environment k)) (omega arith) (omega arith) ∙ in_key_lem Environment k 0 (omega arith)
place_of_lem (Mark (Attributes a) k) h = in_attributes a (pair_words * k + 0) (place_at (Mark (Attributes a) k)) (omega arith) (omega arith) ∙ in_key_lem (Attributes a) k 0 (omega arith)
place_of_lem (Mark (Entries a) k) h = in_entries a (entry_words * k + 1) (place_at (Mark (Entries a) k)) (omega arith) (omega arith) ∙ in_key_lem (Entries a) k 1 (omega arith)
place_of_lem (Word Environment k) h = in_environment (pair_words * k + 1) (place_at (Word Environment k)) (omega arith) (omega arith) ∙ in_key_lem Environment k 1 (omega arith)
place_of_lem (Word (Attributes a) k) h = in_attributes a (pair_words * k + 1) (place_at (Word (Attributes a) k)) (omega arith) (omega arith) ∙ in_key_lem (Attributes a) k 1 (omega arith)
place_of_lem (Word (Entries a) k) h = in_entries a (entry_words * k + 0) (place_at (Word (Entries a) k)) (omega arith) (omega arith) ∙ in_key_lem (Entries a) k 0 (omega arith)
place_of_lem (Writer a k) h = in_entries a (entry_words * k + 2) (place_at (Writer a k)) (omega arith) (omega arith) ∙ in_key_lem (Entries a) k 2 (omega arith)
place_of_lem (Waits Zc a) h = in_block_lem a (inside zc_at) (place_at (Waits Zc a)) (omega arith) (omega arith)
place_of_lem (Waits Zp a) h = in_block_lem a (inside zp_at) (place_at (Waits Zp a)) (omega arith) (omega arith)
place_of_lem (Length a) h = in_block_lem a (inside length_at) (place_at (Length a)) (omega arith) (omega arith)
place_of_lem (Residual a i) h =
    let n = inside residual_at + i in
    let q : n - inside residual_at ≡ i = omega arith in
    in_block_lem a n (place_at (Residual a i)) (omega arith) (omega arith)
    ∙ rw (
      le-ltb n (inside entries_at) (omega arith),
      le-ltb n (inside zc_at) (omega arith),
      le-ltb n (inside zp_at) (omega arith),
      le-ltb n (inside length_at) (omega arith),
      le-ltb n (inside residual_at) (omega arith),
      q,
    )

-- so different places have different numbers
pub place_one : (p q : Place) → Inside p → Inside q → place_at p ≡ place_at q → p ≡ q
place_one p q h i e = sym (place_of_lem p h) ∙ ap place_of e ∙ place_of_lem q i

pub same_place : (p q : Place) → Inside p → Inside q → eqb (place_at p) (place_at q) ≡ same p q
same_place p q h i =
    same_test (eqb (place_at p) (place_at q)) (same p q)
    (λ e. rw (place_one p q h i (eqb-true (place_at p) (place_at q) e)) (same_self q))
    (λ e. eq-eqb (place_at p) (place_at q) (ap place_at (same_one p q e)))

-- AGENTS BELOW n stand before block n, and those from n on do not
pub place_bound : (p : Place) (n : ℕ) → Inside p → place_agent p < n → place_at p < block_at n
place_bound Clock n h l = omega arith
place_bound Agents n h l = omega arith
place_bound (Mark Environment k) n h l = omega arith
place_bound (Mark (Attributes a) k) n h l = omega arith
place_bound (Mark (Entries a) k) n h l = omega arith
place_bound (Word Environment k) n h l = omega arith
place_bound (Word (Attributes a) k) n h l = omega arith
place_bound (Word (Entries a) k) n h l = omega arith
place_bound (Writer a k) n h l = omega arith
place_bound (Waits Zc a) n h l = omega arith
place_bound (Waits Zp a) n h l = omega arith
place_bound (Length a) n h l = omega arith
place_bound (Residual a i) n h l = omega arith

pub place_past : (p : Place) (n : ℕ) → 0 < place_kind p → n ≤ place_agent p → block_at n ≤ place_at p
place_past Clock n h l = absurd (omega arith)
place_past Agents n h l = absurd (omega arith)
place_past (Mark Environment k) n h l = absurd (omega arith)
place_past (Mark (Attributes a) k) n h l = omega arith
place_past (Mark (Entries a) k) n h l = omega arith
place_past (Word Environment k) n h l = absurd (omega arith)
place_past (Word (Attributes a) k) n h l = omega arith
place_past (Word (Entries a) k) n h l = omega arith
place_past (Writer a k) n h l = omega arith
place_past (Waits Zc a) n h l = omega arith
place_past (Waits Zp a) n h l = omega arith
place_past (Length a) n h l = omega arith
place_past (Residual a i) n h l = omega arith

-- a place from block n on is of an agent from n on
pub past_agent : (p : Place) (n : ℕ) → Inside p → block_at n ≤ place_at p → n ≤ place_agent p
past_agent p n h l =
    ⊎_elim (λ (m : place_agent p < n). absurd (omega (arith, place_bound p n h m))) (λ (m : n ≤ place_agent p). m) (lt_or_le (place_agent p) n)

-- there is a block for each agent
pub place_fits : (p : Place) → Inside p → place_agent p < agent_limit → place_at p < state_words
place_fits p h l = place_bound p agent_limit h l

-- EVERY NUMBER IS A PLACE'S
pub record Placed (n : ℕ) : Type 0 where
  pub place : Place
  pub inside : Inside place
  pub at : place_at place ≡ n

inside_key : (store : Store) (k j : ℕ) → k < key_limit → Inside (in_key store k j)
inside_key Environment k j l = cond_cases Inside (ltb j 1) (λ e. l) (λ e. l)
inside_key (Attributes a) k j l = cond_cases Inside (ltb j 1) (λ e. l) (λ e. l)
inside_key (Entries a) k j l = cond_cases Inside (ltb j 1) (λ e. l) (λ e. cond_cases Inside (ltb j 2) (λ f. l) (λ f. l))

-- where word j of key k stands in its store
two_words : (first second : Place) (at k j : ℕ) → j < pair_words → place_at first ≡ at + pair_words * k → place_at second ≡ at + pair_words * k + 1
    → place_at (cond (ltb j 1) first second) ≡ at + (pair_words * k + j)
two_words first second at k j l p q =
    cond_cases (λ (r : Place). place_at r ≡ at + (pair_words * k + j)) (ltb j 1) (λ e. omega (arith, ltb-true j 1 e)) (λ e. omega (arith, ltb-false j 1 e))

word_at : (store : Store) (k j : ℕ) → j < key_words store → place_at (in_key store k j) ≡ place_at (in_key store 0 0) + (key_words store * k + j)
word_at Environment k j l = two_words (Mark Environment k) (Word Environment k) _ k j l (omega arith) (omega arith)
word_at (Attributes a) k j l = two_words (Mark (Attributes a) k) (Word (Attributes a) k) _ k j l (omega arith) (omega arith)
word_at (Entries a) k j l =
    cond_cases (λ (p : Place). place_at p ≡ place_at (in_key (Entries a) 0 0) + (entry_words * k + j)) (ltb j 1) (λ e. omega (arith, ltb-true j 1 e))
    (λ e. cond_cases (λ (p : Place). place_at p ≡ place_at (in_key (Entries a) 0 0) + (entry_words * k + j)) (ltb j 2)
    (λ f. omega (arith, ltb-false j 1 e, ltb-true j 2 f)) (λ f. omega (arith, ltb-false j 2 f)))

-- word i of a store is a word of a key
word_of_key : (store : Store) (i : ℕ) → i < key_words store * key_limit
    → (i / key_words store < key_limit) × (i % key_words store < key_words store) × (key_words store * (i / key_words store) + i % key_words store ≡ i)
word_of_key Environment i l = (omega arith, omega arith, omega arith)
word_of_key (Attributes a) i l = (omega arith, omega arith, omega arith)
word_of_key (Entries a) i l = (omega arith, omega arith, omega arith)

placed_store : (store : Store) (i n : ℕ) → i < key_words store * key_limit → n ≡ place_at (in_key store 0 0) + i → Placed n
placed_store store i n l e =
    let p = word_of_key store i l in
    record {
      place = in_store store i;
      inside = inside_key store (i / key_words store) (i % key_words store) p.0;
      at = word_at store (i / key_words store) (i % key_words store) p.1 ∙ ap (λ (j : ℕ). place_at (in_key store 0 0) + j) p.2 ∙ sym e;
    }

placed_block : (a n : ℕ) → block_at a ≤ n → n < block_at (a + 1) → Placed n
placed_block a n h l =
    ⊎_elim (λ p. placed_store (Attributes a) (n - block_at a) n (omega arith) (omega arith))
    (λ p. ⊎_elim (λ q. placed_store (Entries a) (n - entries_at a) n (omega arith) (omega arith))
    (λ q. ⊎_elim (λ r. record { place = Waits Zc a; inside = tt; at = omega arith })
    (λ r. ⊎_elim (λ u. record { place = Waits Zp a; inside = tt; at = omega arith })
    (λ u. ⊎_elim (λ v. record { place = Length a; inside = tt; at = omega arith })
    (λ v. record { place = Residual a (n - residual_at a); inside = omega arith; at = omega arith })
    (lt_or_le n (residual_at a))) (lt_or_le n (length_at a))) (lt_or_le n (zp_at a))) (lt_or_le n (zc_at a))) (lt_or_le n (entries_at a))

pub placed : (n : ℕ) → Placed n
placed n =
    ⊎_elim (λ h. record { place = Clock; inside = tt; at = omega arith })
    (λ p. ⊎_elim (λ h. record { place = Agents; inside = tt; at = omega arith })
    (λ q. ⊎_elim (λ h. placed_store Environment (n - environment_at) n (omega arith) (omega arith))
    (λ r. placed_block ((n - blocks_at) / block_words) n (omega arith) (omega arith))
    (lt_or_le n blocks_at)) (lt_or_le n environment_at)) (lt_or_le n agents_at)
