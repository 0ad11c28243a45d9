-- What stands where after an offer: each agent is as its own offer leaves it, and nothing else changes.
-- Assumes nothing.
use Prim.Native.Nat.{ℕ, zero, suc, ◌+◌, ◌<◌, ◌≤◌}
use mathlib.Core.Bool.{Bool, true, false, cond, ◌&&◌, ◌||◌, and-true, and-false}
use mathlib.Core.Path.{◌≡◌, refl, sym, ap, ap₂, ◌∙◌}
use mathlib.Core.Logic.{⊎_elim}
use mathlib.Core.List.{List}
use native.Mathlib.Omega.{arith}
use lib.Dec.{eqb}
use lib.ListN.{length}
use borrow.Author.Tests.{eq-eqb}
use Rattle.basis.specs.Numbers.{how_many}
use Rattle.basis.specs.KeySets.{has, plus, minus}
use Rattle.basis.proofs.KeySets.{has_plus}
use Rattle.basis.proofs.Numbers.{for_each_same, for_each_at}
use Rattle.basis.proofs.Tests.{same_or_other, not_both}
use Rattle.table.specs.Tables.{Table}
use Rattle.state.specs.declared.Store.TheVariants.{Entries}
use Rattle.state.specs.declared.Entry.{Entry}
use Rattle.state.specs.declared.Insertion.{Insertion}
use Rattle.state.specs.declared.Insertion.TheVariants.{Add, Update, Discard}
use Rattle.state.specs.Layout.{key_limit, zc_at, stamp_of, zp_of, drop_key}
use Rattle.state.specs.Entries.{entry, entry_of, newer, is_add, is_update, put_entry}
use Rattle.state.specs.Standing.{HasBlocks}
use Rattle.state.proofs.Places.{Place, Zc, Zp, Mark, Word, Writer, Waits, Inside, place_kind, place_agent, same, else_agent}
use Rattle.state.proofs.Frames.{word_at, SameAt, pick_entry, put_entry_length, put_entry_other, put_entry_word, add_length, add_other, add_word, drop_length, drop_other, drop_word}
use Rattle.steps.specs.declared.Response.{Response}
use Rattle.steps.specs.declared.Response.TheVariants.{Takes, Propagates, Ignores}
use Rattle.steps.specs.Tallies.{taken}
use Rattle.steps.specs.Offers.{take_entry, response_by, responded, linked, inserts, response, offer, offered, offer_tally}

-- THE RULE by which an agent inserts the entry: whether that is later than its own, and whether it has none
abbrev pub rule_by : Bool → Bool → Insertion
rule_by later none = cond later (cond none Add Update) Discard

module _ (t : Table) (was : List ℕ) (x k : ℕ) (counts : Bool) where
  -- agent y is linked, and its entry is older, or newer
  unfoldable pub takes : ℕ → Bool
  takes y = linked t was x k counts y && newer (entry_of was x k) (entry_of was y k)

  unfoldable pub holds_newer : ℕ → Bool
  holds_newer y = linked t was x k counts y && newer (entry_of was y k) (entry_of was x k)

  -- ITS RESPONSE, by these
  pub response_by_lem : (confirming : Bool) (y : ℕ) → response t was x k counts confirming y
      ≡ cond (takes y) (Takes (inserts t was x k counts y)) (cond (confirming && holds_newer y) Propagates Ignores)
  unfolding response takes holds_newer inserts
  response_by_lem confirming y =
      by (linked t was x k counts y) (newer (entry_of was x k) (entry_of was y k)) (eqb (stamp_of was y k) 0) (newer (entry_of was y k) (entry_of was x k))
    where
      by : (a b c n : Bool) → response_by (cond a (rule_by b c) Discard) (confirming && (a && n))
          ≡ cond (a && b) (Takes (cond a (rule_by b c) Discard)) (cond (confirming && (a && n)) Propagates Ignores)
      by true true true n = refl
      by true true false n = refl
      by true false c n = refl
      by false b c n = refl

  -- what it does not take it discards
  pub not_taken : (y : ℕ) → takes y ≡ false → inserts t was x k counts y ≡ Discard
  unfolding takes inserts
  not_taken y e = by (linked t was x k counts y) (newer (entry_of was x k) (entry_of was y k)) e
    where
      by : (a b : Bool) → (a && b) ≡ false → cond a (rule_by b (eqb (stamp_of was y k) 0)) Discard ≡ Discard
      by true true f = absurd (not_both refl f)
      by true false f = refl
      by false b f = refl

  -- and what it takes is added or replaces an older one, not both
  counts_one : (y : ℕ) → cond (is_add (inserts t was x k counts y)) 1 0 + cond (is_update (inserts t was x k counts y)) 1 0 ≡ cond (takes y) 1 0
  unfolding takes inserts
  counts_one y = by (linked t was x k counts y) (newer (entry_of was x k) (entry_of was y k)) (eqb (stamp_of was y k) 0)
    where
      by : (a b c : Bool) → cond (is_add (cond a (rule_by b c) Discard)) 1 0 + cond (is_update (cond a (rule_by b c) Discard)) 1 0 ≡ cond (a && b) 1 0
      by true true true = refl
      by true true false = refl
      by true false c = refl
      by false b c = refl

  -- THOSE THAT TAKE THE ENTRY are those that had none and those that had an older one
  pub taken_takes : (agents : ℕ) → taken (offer_tally t was x k counts agents) ≡ how_many takes agents
  unfolding how_many
  taken_takes zero = refl
  taken_takes (suc n) = omega (arith, taken_takes n, counts_one n)

-- place q is not agent y's
abbrev pub Elsewhere : ℕ → Place → Type 0
Elsewhere y q = place_agent q ≡ y → place_kind q ≡ 0

elsewhere : (q p : Place) → 0 < place_kind p → Elsewhere (place_agent p) q → same q p ≡ false
elsewhere q p h f = else_agent q p h (λ k e. omega (arith, f e))

-- agent y takes entry e: the word that is then at q, given those before
abbrev pub took_word : (k : ℕ) (e : Entry) (y : ℕ) → (Place → ℕ) → Place → ℕ
took_word k e y word q =
    cond (same q (Waits Zp y)) (plus (word (Waits Zp y)) k)
    (cond (same q (Waits Zc y)) (minus (word (Waits Zc y)) k)
    (cond (same q (Writer y k)) e.writer
    (cond (same q (Mark (Entries y) k)) e.stamp
    (cond (same q (Word (Entries y) k)) e.value (word q)))))

-- and after any response
abbrev pub responded_word : (k : ℕ) (e : Entry) (y : ℕ) → Response → (Place → ℕ) → Place → ℕ
responded_word k e y (Takes rule) word q = took_word k e y word q
responded_word k e y Propagates word q = cond (same q (Waits Zp y)) (plus (word (Waits Zp y)) k) (word q)
responded_word k e y Ignores word q = word q

-- of words that are the same at y's sets and at q
respond_same : (k : ℕ) (e : Entry) (y : ℕ) (r : Response) (word before : Place → ℕ) (q : Place)
    → word (Waits Zp y) ≡ before (Waits Zp y) → word (Waits Zc y) ≡ before (Waits Zc y) → word q ≡ before q → responded_word k e y r word q ≡ responded_word k e y r before q
respond_same k e y (Takes rule) word before q p c h = rw (p, c, h)
respond_same k e y Propagates word before q p c h = rw (p, h)
respond_same k e y Ignores word before q p c h = h

module _ (k : ℕ) (e : Entry) (y : ℕ) (s : List ℕ) where
  abbrev given : List ℕ
  given = put_entry y k e s

  abbrev settled : List ℕ
  settled = drop_key (zc_at y) k given

  pub take_length : length (take_entry k e y s) ≡ length s
  unfolding take_entry
  take_length = add_length Zp y k settled ∙ drop_length Zc y k given ∙ put_entry_length y k e s

  pub responded_length : (r : Response) → length (responded k e y r s) ≡ length s
  unfolding responded
  responded_length (Takes rule) = take_length
  responded_length Propagates = add_length Zp y k s
  responded_length Ignores = refl

  module _ (key : k < key_limit) where
    pub take_other : (q : Place) → Inside q → Elsewhere y q → SameAt (take_entry k e y s) s q
    unfolding take_entry
    take_other q h f =
        add_other Zp y k settled q h (elsewhere q (Waits Zp y) (omega arith) f)
        ∙ drop_other Zc y k given q h (elsewhere q (Waits Zc y) (omega arith) f)
        ∙ put_entry_other y k e s key q h (elsewhere q (Mark (Entries y) k) (omega arith) f) (elsewhere q (Word (Entries y) k) (omega arith) f) (elsewhere q (Writer y k) (omega arith) f)

    responded_other : (r : Response) (q : Place) → Inside q → Elsewhere y q → SameAt (responded k e y r s) s q
    unfolding responded
    responded_other (Takes rule) q h f = take_other q h f
    responded_other Propagates q h f = add_other Zp y k s q h (elsewhere q (Waits Zp y) (omega arith) f)
    responded_other Ignores q h f = refl

    module _ (room : HasBlocks s) (there : y < 32) where
      pub take_word : (q : Place) → Inside q → word_at (take_entry k e y s) q ≡ took_word k e y (word_at s) q
      unfolding take_entry
      take_word q h =
          let l : HasBlocks given = omega (arith, put_entry_length y k e s, room) in
          let c : SameAt given s (Waits Zc y) = put_entry_other y k e s key (Waits Zc y) tt refl refl refl in
          let p : SameAt settled s (Waits Zp y) =
          drop_other Zc y k given (Waits Zp y) tt refl ∙ put_entry_other y k e s key (Waits Zp y) tt refl refl refl in
          add_word Zp y k settled (omega (arith, drop_length Zc y k given, l)) there q h
          ∙ ap₂ (λ a b. cond (same q (Waits Zp y)) (plus a k) b) p (drop_word Zc y k given l there q h
          ∙ ap₂ (λ a b. cond (same q (Waits Zc y)) (minus a k) b) c (put_entry_word y k e s key room there q h))

      responded_word_lem : (r : Response) (q : Place) → Inside q → word_at (responded k e y r s) q ≡ responded_word k e y r (word_at s) q
      unfolding responded
      responded_word_lem (Takes rule) q h = take_word q h
      responded_word_lem Propagates q h = add_word Zp y k s room there q h
      responded_word_lem Ignores q h = refl

module _ (t : Table) (was : List ℕ) (x k : ℕ) (counts confirming : Bool) where
  -- the same of an offer to y
  abbrev pub offer_word : ℕ → (Place → ℕ) → Place → ℕ
  offer_word y word q = responded_word k (entry_of was x k) y (response t was x k counts confirming y) word q

  pub offer_length : (y : ℕ) (s : List ℕ) → length (offer t was x k counts confirming y s) ≡ length s
  unfolding offer
  offer_length y s = responded_length k _ y s (response t was x k counts confirming y)

  pub offered_length : (agents : ℕ) → length (offered t was x k counts confirming agents) ≡ length was
  offered_length agents = for_each_same (offer t was x k counts confirming) (λ (u : List ℕ). length u) agents (λ y l s. offer_length y s) was

  -- x is offered nothing
  pub offer_self : (s : List ℕ) → offer t was x k counts confirming x s ≡ s
  unfolding offer responded response inserts linked
  offer_self s = simp (eq-eqb x x refl, and-false)

  module _ (key : k < key_limit) where
    pub offer_other : (y : ℕ) (s : List ℕ) (q : Place) → Inside q → Elsewhere y q → SameAt (offer t was x k counts confirming y s) s q
    unfolding offer
    offer_other y s q h f = responded_other k _ y s key (response t was x k counts confirming y) q h f

    pub offer_word_lem : (y : ℕ) (s : List ℕ) → HasBlocks s → y < 32 → (q : Place) → Inside q → word_at (offer t was x k counts confirming y s) q ≡ offer_word y (word_at s) q
    unfolding offer
    offer_word_lem y s room there q h = responded_word_lem k _ y s key room there (response t was x k counts confirming y) q h

    -- the offers to agents below n leave what is everyone's, what is x's, and what is of agents from n on
    pub offered_other : (n : ℕ) (q : Place) → Inside q → ((y : ℕ) → y < n → (y ≡ x → ⊥) → Elsewhere y q) → SameAt (offered t was x k counts confirming n) was q
    offered_other n q h f =
        for_each_same (offer t was x k counts confirming) (λ (u : List ℕ). word_at u q) n
        (λ y l s. ⊎_elim (λ (e : y ≡ x). rw (e, offer_self s)) (λ (d : y ≡ x → ⊥). offer_other y s q h (f y l d)) (same_or_other y x)) was

    -- y's words are as the offer to y leaves them
    pub offered_turn : (n y : ℕ) → y < n → (q : Place) → Inside q → place_agent q ≡ y → SameAt (offered t was x k counts confirming n) (offer t was x k counts confirming y (offered t was x k counts confirming y)) q
    offered_turn n y l q h e =
        for_each_at (offer t was x k counts confirming) (λ (u : List ℕ). word_at u q) y n l (λ z j d s. offer_other z s q h (λ c. absurd (d (sym c ∙ e)))) was

    -- no offer to a lower agent changes y
    untouched : (y : ℕ) (q : Place) → Inside q → place_agent q ≡ y → SameAt (offered t was x k counts confirming y) was q
    untouched y q h e = offered_other y q h (λ z l d c. absurd (omega arith))

    pub own_entry : (y : ℕ) → entry_of (offered t was x k counts confirming y) y k ≡ entry_of was y k
    own_entry y =
        let v = untouched y (Word (Entries y) k) key refl in
        let m = untouched y (Mark (Entries y) k) key refl in
        let w = untouched y (Writer y k) key refl in (λ i. entry (v i) (m i) (w i))

    module _ (agents : ℕ) (few : agents ≤ 32) (room : HasBlocks was) where
      -- an agent is as its own offer leaves it
      pub offered_word : (y : ℕ) → y < agents → (q : Place) → Inside q → place_agent q ≡ y → word_at (offered t was x k counts confirming agents) q ≡ offer_word y (word_at was) q
      offered_word y l q h e =
          offered_turn agents y l q h e
          ∙ offer_word_lem y (offered t was x k counts confirming y) (omega (arith, offered_length y, room)) (omega arith) q h
          ∙ respond_same k (entry_of was x k) y (response t was x k counts confirming y) _ _ q (untouched y (Waits Zp y) tt refl) (untouched y (Waits Zc y) tt refl) (untouched y q h e)

      -- its entries and sets after all offers
      module _ (y : ℕ) (there : y < agents) where
        abbrev T : Bool
        T = takes t was x k counts y

        abbrev N : Bool
        N = confirming && holds_newer t was x k counts y

        -- its response, by whether it takes the entry and whether it has a newer one
        abbrev answer : Bool → Bool → Place → ℕ
        answer a b q = responded_word k (entry_of was x k) y (cond a (Takes (inserts t was x k counts y)) (cond b Propagates Ignores)) (word_at was) q

        offered_answer : (q : Place) → Inside q → place_agent q ≡ y → word_at (offered t was x k counts confirming agents) q ≡ answer T N q
        offered_answer q h e =
            offered_word y there q h e ∙ ap (λ (r : Response). responded_word k (entry_of was x k) y r (word_at was) q) (response_by_lem t was x k counts confirming y)

        -- its entry for key j: x's where it takes that
        pub offered_entry : (j : ℕ) → j < key_limit → entry_of (offered t was x k counts confirming agents) y j ≡ cond (takes t was x k counts y && eqb j k) (entry_of was x k) (entry_of was y j)
        offered_entry j l =
            rw (offered_answer (Word (Entries y) j) l refl, offered_answer (Mark (Entries y) j) l refl, offered_answer (Writer y j) l refl) (by T N)
          where
            by : (a b : Bool) → entry (answer a b (Word (Entries y) j)) (answer a b (Mark (Entries y) j)) (answer a b (Writer y j)) ≡ cond (a && eqb j k) (entry_of was x k) (entry_of was y j)
            by true b = simp (eq-eqb y y refl, and-true) (pick_entry (eqb j k) (entry_of was x k) (entry_of was y j))
            by false true = refl
            by false false = refl

        pub offered_zp : (j : ℕ)
            → has (zp_of (offered t was x k counts confirming agents) y) j ≡ (((takes t was x k counts y || (confirming && holds_newer t was x k counts y)) && eqb k j) || has (zp_of was y) j)
        offered_zp j = ap (λ (w : ℕ). has w j) (offered_answer (Waits Zp y) tt refl) ∙ by T N
          where
            by : (a b : Bool) → has (answer a b (Waits Zp y)) j ≡ (((a || b) && eqb k j) || has (zp_of was y) j)
            by true b = rw (eq-eqb y y refl) (has_plus (zp_of was y) k j)
            by false true = rw (eq-eqb y y refl) (has_plus (zp_of was y) k j)
            by false false = refl
