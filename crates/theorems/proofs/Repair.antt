-- Propagates and confirms that reach, and what follows from there on.
-- Assumes nothing.
use Prim.Native.Nat.{ℕ, ◌<◌}
use mathlib.Core.Path.{◌≡◌, refl, sym, subst, subst₃}
use mathlib.Core.List.Memᴰ
use mathlib.Core.List.{List, [], ◌∷◌}
use native.Mathlib.Omega.{arith}
use Rattle.agreement.specs.Order.{Order}
use Rattle.agreement.proofs.Stamps.{stamp_order}
use Rattle.agreement.proofs.Machine.{after_steps_append}
use Rattle.agreement.proofs.Repair.{propagated as reached, confirmed as answered}
use Rattle.table.specs.Checks.{passes}
use Rattle.table.specs.Tables.{table_of}
use Rattle.state.specs.declared.Entry.{Entry}
use Rattle.state.specs.Layout.{stamp_of}
use Rattle.state.specs.Entries.{newer}
use Rattle.state.specs.WellFormed.{loaded}
use Rattle.steps.proofs.Steps.{Done, done_step, confirms}
use Rattle.labs.specs.Lists.{Step, outcome_of, next, state_after}
use Rattle.theorems.specs.Demand3.{NewerWaits}
use Rattle.theorems.specs.Contact.{InContact}
use Rattle.theorems.specs.Chains.{Silent}
use Rattle.theorems.specs.Repair.{Confirms, PropagateReaches, ConfirmReaches, Repaired, RepairHolds, HeldSince, moment, ended}
use Rattle.theorems.proofs.Views.{stamp_in}
use Rattle.theorems.proofs.Turns.{formed}
use Rattle.theorems.proofs.Lists.{machine, propagates_turn, confirms_turn}
use Rattle.theorems.proofs.Contact.{to_words, link_there}
use Rattle.theorems.proofs.Chains.{members, same_words, agree_since}

order : Order Entry newer
order = stamp_order stamp_in

-- A STEP THAT REACHES, in any words
module _ (bytes s : List ℕ) (x : Step) (k : ℕ) where
  abbrev left : List ℕ
  left = next bytes s x

  -- as a done step of its kind, agent and key
  done_as : {kind a : ℕ} → x.kind ≡ kind → x.agent ≡ a → x.number ≡ k → (outcome_of bytes s x).check ≡ passes → Done bytes s x.scratch kind a k
  done_as p q r e = subst₃ (Done bytes s x.scratch) p q r (done_step bytes s x.scratch x.kind x.agent x.number e)

  pub confirming : (b : ℕ) → Confirms bytes s x b k → Done bytes s x.scratch 2 b k
  confirming b c = done_as c.kind_confirm c.by_agent c.of_key c.is_done

  propagated : (a b : ℕ) → PropagateReaches bytes s x k a b → NewerWaits left k a b
  propagated a b r =
      let p = r.propagates in
      let d = done_as p.kind_propagate p.by_agent p.of_key p.is_done in
      to_words bytes left k a b (d.range.key_below (omega arith))
      (reached order (machine bytes) s x k a b tt (link_there bytes s k a b r.there r.linked) (propagates_turn bytes s x k a p))

  confirmed : (b a : ℕ) → ConfirmReaches bytes s x k b a → NewerWaits left k a b × NewerWaits left k b a
  confirmed b a r =
      let l = (confirming b r.confirms).range.key_below (omega arith) in
      let w = answered order (machine bytes) s x k b a tt (link_there bytes s k b a r.there r.linked) (confirms_turn bytes s x k b r.confirms) in
      (to_words bytes left k a b l w.1, to_words bytes left k b a l w.0)

  -- a key to confirm has an entry
  confirm_has : (b : ℕ) → Confirms bytes s x b k → 0 < stamp_of s b k
  confirm_has b c =
      let d = confirming b c in
      let few = d.accepted.table.sound.shaped.limits.stigmergy in
      let l = d.range.key_below (omega arith) in
      ((formed bytes s x.scratch 2 b k d).formed.zc_formed b d.range.agent_below).entered k (omega arith) ((confirms (table_of bytes) s b k).0 d.own)

-- FROM THERE ON
module _ (bytes : List ℕ) (before since : List Step) (x : Step) where
  abbrev s : List ℕ
  s = state_after bytes before

  -- what holds after the step holds at the moment
  at_moment : (k a b : ℕ) → NewerWaits (next bytes s x) k a b → NewerWaits (state_after bytes (moment bytes before since x)) k a b
  at_moment k a b = subst (λ (u : List ℕ). NewerWaits u k a b) (sym (after_steps_append (next bytes) (loaded (table_of bytes)) before (x ∷ [])))

  by_confirm : (k b a : ℕ) → ConfirmReaches bytes s x k b a
      → (HeldSince bytes before since x k a b → InContact bytes (moment bytes before since x) since k a b)
      × (HeldSince bytes before since x k b a → InContact bytes (moment bytes before since x) since k b a)
  by_confirm k b a r =
      let w = confirmed bytes s x k b a r in (
        λ held. record { newer_waits = at_moment k a b w.0; link_held = held },
        λ held. record { newer_waits = at_moment k b a w.1; link_held = held },
      )

  repaired : Repaired bytes before since x
  repaired = record {
    by_propagate = λ k a b r held. record { newer_waits = at_moment k a b (propagated bytes s x k a b r); link_held = held };
    by_confirm = by_confirm;
    agree = λ k b a r there back qa qb.
        let d = confirming bytes s x k b r.confirms in
        let w = by_confirm k b a r in
        let u = ended bytes before since x in
        same_words u k (a ∷ b ∷ []) (agree_since bytes d.accepted.table.sound.shaped.limits.stigmergy (moment bytes before since x) since k (a ∷ b ∷ [])
        (d.range.key_below (omega arith)) (members (λ c. c < (table_of bytes).sizes.agents) (a ∷ b ∷ []) (r.there, (d.range.agent_below, tt)))
        (w.0 there, w.1 back, tt) (members (Silent u k) (a ∷ b ∷ []) (qa, (qb, tt)))) a b (Memᴰ.head refl) (Memᴰ.tail (Memᴰ.head refl));
  }

pub repair : RepairHolds
repair bytes = (
  record {
    propagated = λ s x k a b r. propagated bytes s x k a b r;
    confirmed = λ s x k b a r. confirmed bytes s x k b a r;
    confirm_has = λ s x b k c. confirm_has bytes s x k b c;
  },
  repaired bytes,
)
