-- The theorems on every list of steps from a start.
use mathlib.Core.Bool.{Bool}
use mathlib.Core.List.{List, ◌∷◌, ◌++◌, Memᴰ}
use mathlib.Core.Logic.{⊎_elim}
use mathlib.Core.Path.{◌≡◌, ◌∙◌, ap}
use native.Mathlib.Omega.{arith}
use Prim.Native.Nat.{ℕ}
use lib.Dec.{T, ltb→lt}
use Rattle.agreement.specs.Order.{Order, NotOlder, Comparable}
use Rattle.agreement.specs.View.{blank, NewerWaits}
use Rattle.agreement.specs.Moves.{write}
use Rattle.agreement.specs.Turns.{Turn, after_turn, after_turns, AllFresh}
use Rattle.agreement.specs.Stamps.{by_stamp}
use Rattle.agreement.specs.History.{Numbered, write_at, WrittenAt}
use Rattle.agreement.specs.Machine.{after_steps, turns_of, Machine, Start, Writes, InContact, view_after, entry_after, history_of, all_writes}
use Rattle.agreement.specs.Agreement.{Agreement, StampAgreement}
use Rattle.agreement.proofs.Moves.{write_enters}
use Rattle.agreement.proofs.Turns.{neighbours_map, chain_agrees, never_older, pair_turns, blank_written, blank_equal}
use Rattle.agreement.proofs.Stamps.{stamp_order, climbing_comparable}
use Rattle.agreement.proofs.History.{write_of_stamp, entry_write, numbered_climbing}
use Rattle.agreement.proofs.Machine.{after_steps_append, before_propagates, invariant_steps, view_split, fresh_steps, start_fresh, start_view, writes_numbered, history_entries}
use Rattle.agreement.proofs.Blame.{to_blame}

-- for any strict order of entries
module _ {E : Type 0} {newer : E → E → Bool} (order : Order E newer) (M : Machine newer) {absent : E} (s : M.State) (start : Start M absent s) (xs : List M.Step) where
  open M use {State, Step, next, view, turn}

  abbrev turns : ℕ → List (Turn E)
  turns k = turns_of next turn s xs k

  final : (k : ℕ) → view (after_steps next s xs) k ≡ after_turns newer (turns k) (blank absent)
  final = start_view M s start xs

  fresh : (k : ℕ) → AllFresh newer (turns k) (blank absent)
  fresh = start_fresh M s start xs

  module _ (before since : List Step) (split : xs ≡ before ++ since) where
    abbrev moment : State
    moment = after_steps next s before

    later : (k : ℕ) → view (after_steps next s xs) k ≡ after_turns newer (turns_of next turn moment since k) (view moment k)
    later = view_split M s xs before since split start.invariant

    fresh_since : (k : ℕ) → AllFresh newer (turns_of next turn moment since k) (view moment k)
    fresh_since k = fresh_steps M moment since k (invariant_steps M s before start.invariant)

    pair_since : (k a b : ℕ) → InContact M s before since k a b → NewerWaits newer (view_after M s xs k) a b
    pair_since k a b c = rw (later k, view_after)
        (pair_turns newer order (turns_of next turn moment since k) (view moment k) a b (fresh_since k) (before_propagates next turn k a b moment since c.link_held) c.newer_waits)

    end : after_steps next s xs ≡ after_steps next moment since
    end = rw split (after_steps_append next s before since)

  pub agreement : Agreement M absent s xs
  agreement = record {
    written = λ k a. rw (final k, entry_after) (blank_written newer order absent (turns k) (fresh k) a);
    equal = equal;
    never_older = λ before since e k a. rw (entry_after, later before since e k)
        (never_older newer order (turns_of next turn (moment before since e) since k) (view (moment before since e) k) a (fresh_since before since e k));
    own = own;
    pair = pair_since;
    blame = λ before since e k a b held n z.
        to_blame order M k a b (moment before since e) since (invariant_steps M s before start.invariant) held (rw (entry_after, end before since e) at n) (λ w. z (rw (view_after, end before since e) w));
    chain = λ before since e k comparable l h. chain_agrees newer (view_after M s xs k) (equal k comparable) l
        (neighbours_map (InContact M s before since k) (NewerWaits newer (view_after M s xs k)) l (λ a b m n. pair_since before since e k a b) h);
  }
    where
      own : (before since : List Step) (x : Step) → xs ≡ before ++ (x ∷ since) → (k a : ℕ) (e : E)
          → (turn (after_steps next s before) x k).move ≡ write a e → NotOlder newer (entry_after M s xs k a) e
      own before since x split k a e m =
          let t = turn (after_steps next s before) x k in
          let v = view (after_steps next s before) k in
          let z : (after_turn newer t v).entry a ≡ e = rw m (write_enters newer t.link v a e) in
          let w = never_older newer order (turns_of next turn (next (after_steps next s before) x) since k) (after_turn newer t v) a (fresh_since before (x ∷ since) split k).1 in
          rw (entry_after, later before (x ∷ since) split k) (rw z at w)

      equal : (k : ℕ) → Comparable newer (history_of M s xs k) → (a b : ℕ)
          → (T (newer (entry_after M s xs k a) (entry_after M s xs k b)) → ⊥) → (T (newer (entry_after M s xs k b) (entry_after M s xs k a)) → ⊥)
          → entry_after M s xs k a ≡ entry_after M s xs k b
      equal k = rw (final k, entry_after) (blank_equal newer order absent (turns k) (fresh k))

-- for stamps from one clock, which is 0 at the start; an absent entry has stamp 0
module _ {E : Type 0} (stamp : E → ℕ) (M : Machine (by_stamp stamp)) (H : Writes stamp M)
    {absent : E} (absent-zero : stamp absent ≡ 0) (s : M.State) (start : Start M absent s) (clock-zero : H.clock s ≡ 0) (xs : List M.Step) where
  all : Agreement M absent s xs
  all = agreement (stamp_order stamp) M s start xs

  numbered : Numbered (λ w. stamp (H.entry w)) 0 (all_writes H s xs)
  numbered = rw clock-zero at (writes_numbered stamp M H s xs start.invariant)

  -- of two different entries written to a key one is newer
  writes_comparable : (k : ℕ) → Comparable (by_stamp stamp) (history_of M s xs k)
  writes_comparable k = rw (history_entries stamp M H s xs k start.invariant)
      (climbing_comparable stamp 0 _ (numbered_climbing H.key H.entry k stamp 0 (all_writes H s xs) numbered))

  written_at : (d : H.Write) (k : ℕ) (e : E) → Memᴰ e (history_of M s xs k) → WrittenAt stamp H.key H.entry d (all_writes H s xs) k e
  written_at d k e m =
      let r = entry_write H.key H.entry k (all_writes H s xs) e (rw (history_entries stamp M H s xs k start.invariant) at m) in
      let p = write_of_stamp (λ w. stamp (H.entry w)) (all_writes H s xs) d r.0 numbered r.1 in
      let q : stamp (H.entry r.0) ≡ stamp e = ap stamp r.3 in
      let w : write_at d (all_writes H s xs) (stamp e) ≡ r.0 = rw q at p.1 in
      record { in_history = omega arith; same_key = ap H.key w ∙ r.2; same_entry = ap H.entry w ∙ r.3 }

  pub stamp_agreement : StampAgreement stamp M H absent s xs
  stamp_agreement = record {
    agreement = all;
    numbered = numbered;
    comparable = writes_comparable;
    written = λ d k a h. ⊎_elim (λ e. absurd (omega (arith, ap stamp e))) (written_at d k (entry_after M s xs k a)) (all.written k a);
    equal = λ k a b e. all.equal k (writes_comparable k) a b (λ t. omega (arith, ltb→lt)) (λ t. omega (arith, ltb→lt));
    never_fall = λ before since e k a. ⊎_elim (λ f. omega (arith, ap stamp f)) (λ t. omega (arith, ltb→lt)) (all.never_older before since e k a);
  }
