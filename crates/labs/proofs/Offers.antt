-- TABLE 8 on a state's words: propagate and confirm stand for the message that every other agent receives, and for no other system;
-- the machine's rule for each agent is the one by which it inserts the entry.
-- Assumes nothing.
use Prim.Native.Nat.{ℕ, zero, suc, ◌<◌, ◌≤◌}
use mathlib.Core.Bool.{Bool, true, false, cond, ◌&&◌}
use mathlib.Core.Logic.{◌↔◌}
use mathlib.Core.Option.{Option, none, some}
use mathlib.Core.Path.{◌≡◌, refl, sym, ap, subst, ◌∙◌, fun_ext}
use mathlib.Core.List.{List}
use native.Mathlib.Omega.{arith}
use lib.Dec.{eqb}
use borrow.Author.Tests.{ltb-true, lt-ltb, eq-eqb, ne_eqb}
use Rattle.basis.specs.KeySets.{has}
use Rattle.basis.proofs.Tests.{not_both, and_left, and_right, and_both}
use Rattle.table.specs.Tables.{Table}
use Rattle.table.specs.Sound.{Limits}
use Rattle.state.specs.declared.Store.TheVariants.{Environment, Entries}
use Rattle.state.specs.declared.Entry.{Entry as Stored}
use Rattle.state.specs.declared.Insertion.{Insertion}
use Rattle.state.specs.declared.Insertion.TheVariants.{Add, Update, Discard}
use Rattle.state.specs.Layout.{key_limit, word_of, stamp_of, writer_of, drop_key}
use Rattle.state.specs.Entries.{entry_of, put_entry}
use Rattle.state.specs.Standing.{HasBlocks}
use Rattle.state.specs.Evaluation.{link_holds}
use Rattle.state.proofs.Places.{Place, KeySet, Zc, Zp, Clock, Mark, Word, Waits, place_at, place_kind, Inside, same_not, other_agent}
use Rattle.state.proofs.Frames.{word_at, SameAt, put_entry_length, drop_length, drop_other, value_same}
use Rattle.steps.specs.declared.Response.{Response}
use Rattle.steps.specs.declared.Response.TheVariants.{Takes, Propagates, Ignores}
use Rattle.steps.specs.Offers.{take_entry, responded, linked, inserts, offer, offered, offer_tally, sent}
use Rattle.steps.proofs.Offers.{takes, holds_newer, response_by_lem, not_taken, offer_length, offered_length, offered_other, offered_turn}
use Rattle.labs.specs.Agents.{⟨◌⸴◌⸴◌⸴◌⸴◌⟩, Agent, Entry, System, ◌⟦◌≔◌⟧, ◌∪｛◌｝, ◌∖｛◌｝, Inserted}
use Rattle.labs.specs.Systems.{Kind, put, qry, Message, message, Sends, PROPAGATE, CONFIRM, Older, Newer, Linked, Receives, PUT, QRY₁, QRY₂, STAY, Passed}
use Rattle.labs.specs.Reading.{agent_of, system_of}
use Rattle.labs.specs.Demand2.{rule_tally, Same}
use Rattle.labs.proofs.Expressions.{Narrow, link_holds_lem}
use Rattle.labs.proofs.Reading.{stamped, labs_entry, time_in, entry_read, entry_present, entry_stamp, agent_same, put_agent, with, keys_in, add_zp_agent, drop_agent}
use Rattle.labs.proofs.Passing.{taken_by, inserted, sends_zp, sends_zc, passed_unique, passed_count}

-- older and newer, by the stamp
older_time : (o : Option Entry) (n : ℕ) → 0 < n → Older o n ↔ (time_in o < n)
older_time none n pos = (λ h. pos, λ h. tt)
older_time (some e) n pos = (λ h. h, λ h. h)

newer_time : (o : Option Entry) (n : ℕ) → Newer o n ↔ (n < time_in o)
newer_time none n = (λ h. absurd h, λ h. omega arith)
newer_time (some e) n = (λ h. h, λ h. h)

abbrev sent_kind : Bool → Kind
sent_kind confirming = cond confirming qry put

-- the set that the key is then in
abbrev set_of : Bool → KeySet
set_of confirming = cond confirming Zc Zp

asking : (confirming : Bool) → sent_kind confirming ≡ qry → confirming ≡ true
asking true e = refl
asking false e = let z : ◌≡◌ {A = ℕ} 0 1 = cc in absurd (omega arith)

-- an agent that takes the entry
abbrev took : ℕ → Entry → Agent → Agent
took k e a = ⟨ a.I ⸴ a.L ⟦ k ≔ some e ⟧ ⸴ a.P ⸴ a.Zc ∖｛ k ｝ ⸴ a.Zp ∪｛ k ｝ ⟩

took_agent : (k : ℕ) (e : Stored) (y : ℕ) (s : List ℕ) → k < key_limit → HasBlocks s → y < 32 → 0 < e.stamp → agent_of (take_entry k e y s) y ≡ took k (labs_entry e) (agent_of s y)
unfolding take_entry
took_agent k e y s key room there pos =
    let given = put_entry y k e s in
    let p : HasBlocks given = omega (arith, put_entry_length y k e s, room) in
    add_zp_agent y k (drop_key (place_at (Waits Zc y)) k given) (omega (arith, drop_length Zc y k given, p)) there
    ∙ ap (λ (a : Agent). with Zp a (a.Zp ∪｛ k ｝))
    (drop_agent y k given p there Zc ∙ ap (λ (a : Agent). with Zc a (a.Zc ∖｛ k ｝)) (put_agent y k e s key room there pos))

module _ (t : Table) (limits : Limits t.sizes) (was : List ℕ) (narrow : Narrow t was) (x k agents : ℕ) (room : HasBlocks was) (few : agents ≤ 32) (there : x < agents) (key : k < key_limit) (entered : 0 < stamp_of was x k) where
  abbrev mine : Entry
  mine = labs_entry (entry_of was x k)

  abbrev said : Kind → Message
  said kind = message kind (agent_of was x) k mine

  inserts_self : inserts t was x k true x ≡ Discard
  unfolding inserts linked
  inserts_self = rw (eq-eqb x x refl)

  module _ (confirming : Bool) where
    abbrev spread : List ℕ
    spread = offered t was x k true confirming agents

    sender_same : agent_of spread x ≡ agent_of was x
    sender_same = agent_same spread was x (offered_length t was x k true confirming agents) (λ p i pos e. offered_other t was x k true confirming key agents p i (λ y l d o. absurd (d (sym o ∙ e))))

    -- AN AGENT THAT RECEIVES
    module _ (y : ℕ) (below : y < agents) (other : y ≡ x → ⊥) where
      abbrev now : List ℕ
      now = offered t was x k true confirming y

      now_room : HasBlocks now
      now_room = omega (arith, offered_length t was x k true confirming y, room)

      before : agent_of now y ≡ agent_of was y
      before = agent_same now was y (offered_length t was x k true confirming y) (λ p i pos e. offered_other t was x k true confirming key y p i (λ z l d o. absurd (omega arith)))

      turned : agent_of spread y ≡ agent_of (offer t was x k true confirming y now) y
      turned = agent_same spread (offer t was x k true confirming y now) y (offered_length t was x k true confirming agents ∙ sym (offer_length t was x k true confirming y now ∙ offered_length t was x k true confirming y))
          (λ p i pos e. offered_turn t was x k true confirming key agents y below p i e)

      abbrev Result : Insertion → Agent → Type 0
      Result b a = Receives t (system_of was).E (said (sent_kind confirming)) (agent_of was y) b a

      other_linked : linked t was x k true y ≡ link_holds t was k x y
      unfolding linked
      other_linked = rw (ne_eqb x y (λ (e : x ≡ y). other (sym e)))

      is_linked : linked t was x k true y ≡ true → Linked t (system_of was).E (said (sent_kind confirming)) (agent_of was y)
      is_linked e = (link_holds_lem t was narrow x y limits k).0 (sym other_linked ∙ e)

      of_linked : Linked t (system_of was).E (said (sent_kind confirming)) (agent_of was y) → linked t was x k true y ≡ true
      of_linked h = other_linked ∙ (link_holds_lem t was narrow x y limits k).1 h

      held : time_in ((agent_of was y).L k) ≡ stamp_of was y k
      held = entry_stamp was y k key

      older : Older ((agent_of was y).L k) (stamp_of was x k) ↔ (time_in ((agent_of was y).L k) < stamp_of was x k)
      older = older_time ((agent_of was y).L k) (stamp_of was x k) entered

      newer : Newer ((agent_of was y).L k) (stamp_of was x k) ↔ (stamp_of was x k < time_in ((agent_of was y).L k))
      newer = newer_time ((agent_of was y).L k) (stamp_of was x k)

      -- the rule on words: an entry with stamp 0 is none
      rule_taken : takes t was x k true y ≡ true → inserts t was x k true y ≡ taken_by ((agent_of was y).L k)
      unfolding takes inserts
      rule_taken e =
          rw (and_left (linked t was x k true y) _ e, and_right (linked t was x k true y) _ e, entry_read was y k key) (by (stamp_of was y k))
        where
          by : (m : ℕ) → cond (eqb m 0) Add Update ≡ taken_by (stamped (word_of was (Entries y) k) m (writer_of was y k))
          by zero = refl
          by (suc m) = rw (ne_eqb (suc m) 0 (omega arith))

      taking : (b : Bool) → stamp_of was y k < stamp_of was x k → linked t was x k true y ≡ true →
          Receives t (system_of was).E (said (sent_kind b)) (agent_of was y) (taken_by ((agent_of was y).L k)) (took k mine (agent_of was y))
      taking b l e = by b
        where
          is_inserted : Inserted (agent_of was y).L k mine (taken_by ((agent_of was y).L k)) ((agent_of was y).L ⟦ k ≔ some mine ⟧)
          is_inserted = inserted (agent_of was y).L k mine (λ f i. omega (arith, sym (ap time_in i) ∙ held))

          by : (b : Bool) → Receives t (system_of was).E (said (sent_kind b)) (agent_of was y) (taken_by ((agent_of was y).L k)) (took k mine (agent_of was y))
          by true = QRY₁ refl (is_linked e) (older.1 (omega (arith, held))) is_inserted
          by false = PUT refl (is_linked e) (older.1 (omega (arith, held))) is_inserted

      told : {r q : Insertion} {a b : Agent} → r ≡ q → b ≡ a → Result q b → Result r a
      told {r} {q} {a} {b} e f h = subst (λ (p : Insertion). Result p a) (sym e) (subst (Result q) f h)

      by_offer : (b : Bool) → takes t was x k true y ≡ b → (c : Bool) → (confirming && holds_newer t was x k true y) ≡ c →
          Result (inserts t was x k true y) (agent_of (responded k (entry_of was x k) y (cond b (Takes (inserts t was x k true y)) (cond c Propagates Ignores)) now) y)
      unfolding takes holds_newer responded
      by_offer true e c f =
          told (rule_taken e) (sym (took_agent k (entry_of was x k) y now key now_room (omega arith) entered ∙ ap (took k mine) before))
          (taking confirming (ltb-true (stamp_of was y k) (stamp_of was x k) (and_right (linked t was x k true y) _ e)) (and_left (linked t was x k true y) _ e))
      by_offer false e true f =
          let a = and_right confirming _ f in
          told (not_taken t was x k true y e) (sym (add_zp_agent y k now now_room (omega arith) ∙ ap (λ (a : Agent). with Zp a (a.Zp ∪｛ k ｝)) before))
          (QRY₂ (ap sent_kind (and_left confirming _ f)) (is_linked (and_left (linked t was x k true y) _ a))
          (newer.1 (omega (arith, held, ltb-true (stamp_of was x k) (stamp_of was y k) (and_right (linked t was x k true y) _ a)))))
      by_offer false e false f = told (not_taken t was x k true y e) (sym before) (STAY
          (λ h o. not_both (and_both (linked t was x k true y) _ (of_linked h) (lt-ltb (stamp_of was y k) (stamp_of was x k) (omega (arith, held, older.0 o)))) e)
          (λ q h o. not_both (and_both confirming _ (asking confirming q) (and_both (linked t was x k true y) _ (of_linked h)
          (lt-ltb (stamp_of was x k) (stamp_of was y k) (omega (arith, held, newer.0 o))))) f))

      received_by : (z : KeySet) → Result (inserts t was x k true y) (agent_of (drop_key (place_at (Waits z x)) k spread) y)
      unfolding offer
      received_by z = subst (λ (a : Agent). Result (inserts t was x k true y) a) (sym (drop_away z ∙ turned ∙ answered)) (by_offer (takes t was x k true y) refl (confirming && holds_newer t was x k true y) refl)
        where
          answered : agent_of (offer t was x k true confirming y now) y
              ≡ agent_of (responded k (entry_of was x k) y (cond (takes t was x k true y) (Takes (inserts t was x k true y)) (cond (confirming && holds_newer t was x k true y) Propagates Ignores)) now) y
          answered = ap (λ (r : Response). agent_of (responded k (entry_of was x k) y r now) y) (response_by_lem t was x k true confirming y)

          drop_away : (z : KeySet) → agent_of (drop_key (place_at (Waits z x)) k spread) y ≡ agent_of spread y
          drop_away z = agent_same (drop_key (place_at (Waits z x)) k spread) spread y (drop_length z x k spread)
              (λ p i pos e. drop_other z x k spread p i (other_agent p (Waits z x) (λ (o : _). other (sym e ∙ o))))

  -- THE STEP, by which the key leaves x's set z
  module _ (z : KeySet) (confirming : Bool) where
    abbrev after : List ℕ
    after = drop_key (place_at (Waits z x)) k (spread confirming)

    -- what is everyone's
    stays : (p : Place) → Inside p → place_kind p ≡ 0 → SameAt after was p
    stays p i e = drop_other z x k (spread confirming) p i (same_not p (Waits z x) (λ (o : p ≡ Waits z x). omega (arith, ap place_kind o))) ∙ offered_other t was x k true confirming key agents p i (λ y l d o. e)

    received : Sends (agent_of was x) (said (sent_kind confirming)) (with z (agent_of was x) (keys_in z (agent_of was x) ∖｛ k ｝)) →
        Passed t agents x (sent_kind confirming) k (inserts t was x k true) (system_of was) (system_of after)
    received sends = record {
      there = there;
      entry = mine;
      sends = subst (λ (a : Agent). Sends (agent_of was x) (said (sent_kind confirming)) a)
          (sym (drop_agent x k (spread confirming) (omega (arith, offered_length t was x k true confirming agents, room)) (omega arith) z
          ∙ ap (λ (a : Agent). with z a (keys_in z a ∖｛ k ｝)) (sender_same confirming))) sends;
      itself = inserts_self;
      receives = λ y l d. received_by confirming y l d z;
      environment_stays = fun_ext λ j. value_same after was Environment j (λ i. stays (Mark Environment j) i refl) (λ i. stays (Word Environment j) i refl);
      clock_stays = stays Clock tt refl;
    }

  pub sent_passed : (confirming : Bool) → has (word_at was (Waits (set_of confirming) x)) k ≡ true →
      Passed t agents x (sent_kind confirming) k (inserts t was x k true) (system_of was) (system_of (sent t was x k true confirming agents))
  sent_passed true h = received Zc true (CONFIRM h (entry_present was x k key entered))
  sent_passed false h = received Zp false (PROPAGATE h (entry_present was x k key entered))

-- THE THEOREM: the rules give the step on words and no other, and the same counts. `pending` is what a well-formed state has
module _ (t : Table) (limits : Limits t.sizes) (was : List ℕ) (narrow : Narrow t was) (x k agents : ℕ) (room : HasBlocks was) (few : agents ≤ 32) (key : k < key_limit) (confirming : Bool) {rule : ℕ → Insertion} {S' : System} where
  pub passed_sent : (pending : has (word_at was (Waits (set_of confirming) x)) k ≡ true → 0 < stamp_of was x k) → Passed t agents x (sent_kind confirming) k rule (system_of was) S' →
      (has (word_at was (Waits (set_of confirming) x)) k ≡ true) × (rule_tally rule agents ≡ offer_tally t was x k true agents) × Same agents S' (system_of (sent t was x k true confirming agents))
  passed_sent pending p =
      let h = waiting confirming p.sends in
      let q = sent_passed t limits was narrow x k agents room few p.there key (pending h) confirming h in
      (h, passed_count p q, passed_unique p q)
    where
      waiting : (b : Bool) {e : Entry} {a : Agent} → Sends (agent_of was x) (message (sent_kind b) (agent_of was x) k e) a → has (word_at was (Waits (set_of b) x)) k ≡ true
      waiting true h = sends_zc h refl
      waiting false h = sends_zp h refl
