-- The words are a machine of agreement, every step a turn to every key.
-- Assumes nothing.
use Prim.Native.Nat.{ℕ, zero, suc, ◌+◌, ◌<◌, ◌≤◌}
use mathlib.Core.Bool.{Bool, true, false, cond}
use mathlib.Core.Path.{◌≡◌, refl, sym, ap, subst, ◌∙◌}
use mathlib.Core.Logic.{◌⊎◌, inl, inr, ⊎_elim}
use mathlib.Core.List.{List, [], ◌∷◌}
use native.Mathlib.Omega.{arith}
use lib.Dec.{eqb, ltb}
use lib.ListN.{length}
use borrow.Author.Tests.{eqb-true, eq-eqb, ne_eqb, ltb-true, ltb-false, lt-ltb}
use Rattle.term.specs.declared.Label.{Label}
use Rattle.term.specs.declared.Label.TheVariants.{Ticking, Acting}
use Rattle.basis.specs.KeySets.{has}
use Rattle.basis.proofs.KeySets.{has_nothing}
use Rattle.basis.proofs.Tests.{same_or_other}
use Rattle.agreement.specs.View.{View, blank}
use Rattle.agreement.specs.Moves.{Move, quiet, write as writing, propagate, confirm, moved, Fresh, wrote}
use Rattle.agreement.specs.Turns.{Turn, after_turn}
use Rattle.agreement.specs.History.{Numbered, entries_of}
use Rattle.agreement.specs.Machine.{Machine, Start, Writes, entry_after}
use Rattle.agreement.specs.Agreement.{StampAgreement}
use Rattle.agreement.proofs.Agreement.{stamp_agreement}
use Rattle.table.specs.Checks.{Check, passes, refuses}
use Rattle.table.specs.Tables.{Table, table_of, kind_at, p_at}
use Rattle.state.specs.declared.Store.TheVariants.{Entries}
use Rattle.state.specs.declared.Entry.{Entry}
use Rattle.state.specs.Layout.{key_limit}
use Rattle.state.specs.Entries.{clock_of, next_stamp, entry_of, newer}
use Rattle.state.specs.WellFormed.{loaded}
use Rattle.state.proofs.Places.{Zp, Word}
use Rattle.state.proofs.Load.{loaded_zero, loaded_clock, loaded_mark, loaded_writer, loaded_set}
use Rattle.steps.specs.Acts.{chosen, word_in, value_for}
use Rattle.steps.specs.Steps.{Outcome, after}
use Rattle.steps.proofs.Steps.{Done, done_step, step_done, step_refused}
use Rattle.labs.specs.Lists.{Step, outcome_of, next, state_after}
use Rattle.theorems.specs.Demand3.{Write, entry_written, if_done, write_of, adds}
use Rattle.theorems.specs.Contact.{Propagates}
use Rattle.theorems.specs.Repair.{Confirms}
use Rattle.theorems.proofs.Views.{absent, stamp_in, same_entry, seen, links}
use Rattle.theorems.proofs.ActViews.{act_move}
use Rattle.theorems.proofs.Turns.{step_move, step_adds, after_shows, quiet_past, step_fresh, step_clock, adds_numbered, adds_entries}

-- a quiet move is no propagate, and what is none is none where it is chosen
quiet_not : (a : ℕ) → ◌≡◌ {A = Move Entry} quiet (propagate a) → ⊥
quiet_not a e = let z : ◌≡◌ {A = ℕ} 0 1 = cc in omega arith

chosen_not : (b : Bool) (m : Move Entry) (a : ℕ) → (m ≡ propagate a → ⊥) → cond b m quiet ≡ propagate a → ⊥
chosen_not true m a h e = h e
chosen_not false m a h e = quiet_not a e

-- a step that is a propagate of key k by agent a is of kind 1, by a, and of k
propagate_step : (t : Table) (s : List ℕ) (kind x n k a : ℕ) → step_move t s kind x n k ≡ propagate a → (kind ≡ 1) × (x ≡ a) × (n ≡ k)
propagate_step t s zero x n k a e = absurd (act (chosen t s x n).label e)
  where
    act : (m : Label) → act_move t s x k m ≡ propagate a → ⊥
    act Ticking e = quiet_not a e
    act (Acting i) e = chosen_not (eqb (kind_at t i) 3) _ a (chosen_not (eqb (p_at t i) k) _ a (λ f. let z : ◌≡◌ {A = ℕ} 0 1 = cc in omega arith)) e
propagate_step t s (suc zero) x n k a e = let w = by (eqb n k) refl e in (refl, w.0, w.1)
  where
    by : (b : Bool) → eqb n k ≡ b → ◌≡◌ {A = Move Entry} (cond b (propagate x) quiet) (propagate a) → (x ≡ a) × (n ≡ k)
    by true e f = (cc, eqb-true n k e)
    by false e f = absurd (quiet_not a f)
propagate_step t s (suc (suc kind)) x n k a e = absurd (chosen_not (eqb n k) _ a (λ f. let z : ◌≡◌ {A = ℕ} 0 1 = cc in omega arith) e)

module _ (bytes : List ℕ) where
  abbrev t : Table
  t = table_of bytes

  abbrev S : ℕ
  S = t.sizes.stigmergy

  -- a key that there is not shows nothing
  abbrev view : List ℕ → ℕ → View Entry
  view s k = cond (ltb k S) (seen s k) (blank absent)

  -- a refused step is quiet
  abbrev if_passed : Check → Move Entry → Move Entry
  if_passed passes m = m
  if_passed (refuses number place) m = quiet

  abbrev move_of : List ℕ → Step → ℕ → Move Entry
  move_of s x k = step_move t s x.kind x.agent x.number k

  abbrev turn : List ℕ → Step → ℕ → Turn Entry
  turn s x k = record { link = links t s k; move = if_passed (outcome_of bytes s x).check (move_of s x k) }

  module _ (s : List ℕ) (x : Step) where
    open x use {kind, agent, number, scratch}

    abbrev IsDone : Type 0
    IsDone = Done bytes s scratch kind agent number

    abbrev left : List ℕ
    left = after t s kind agent number

    -- what a done step has with the state that it leaves, and every refused one with the state before it, the step has
    decided : (P : Check → List ℕ → Type 0) → (IsDone → P passes left) → ((n place : ℕ) → P (refuses n place) s) → P (outcome_of bytes s x).check (next bytes s x)
    decided P f g = by (outcome_of bytes s x).check refl
      where
        comes : (o : Outcome) → outcome_of bytes s x ≡ o → P o.check o.state → P (outcome_of bytes s x).check (next bytes s x)
        comes o e = subst (λ (o : Outcome). P o.check o.state) (sym e)

        by : (c : Check) → (outcome_of bytes s x).check ≡ c → P (outcome_of bytes s x).check (next bytes s x)
        by passes e = let d = done_step bytes s scratch kind agent number e in comes _ (step_done bytes s scratch kind agent number d) (f d)
        by (refuses n place) e = comes _ (step_refused bytes s scratch kind agent number e) (g n place)

    -- to a key that there is not a done step is quiet
    quiet_key : IsDone → (k : ℕ) → ltb k S ≡ false → move_of s x k ≡ quiet
    quiet_key d k e = quiet_past bytes s scratch kind agent number d k (ltb-false k S e)

    -- the key's view after the step is the one before it after its turn
    pub entry_next : (k a : ℕ) → (view (next bytes s x) k).entry a ≡ (after_turn newer (turn s x k) (view s k)).entry a
    unfolding moved
    entry_next k a =
        decided (λ c u. (view u k).entry a ≡ (moved newer (links t s k) (if_passed c (move_of s x k)) (view s k)).entry a)
        (λ d. by d (ltb k S) refl) (λ n place. refl)
      where
        by : IsDone → (b : Bool) → ltb k S ≡ b → (cond b (seen left k) (blank absent)).entry a ≡ (moved newer (links t s k) (move_of s x k) (cond b (seen s k) (blank absent))).entry a
        by d true e = (after_shows bytes s scratch kind agent number d k (ltb-true k S e) a).entry
        by d false e = rw (quiet_key d k e)

    pub waits_next : (k a : ℕ) → (view (next bytes s x) k).waits a ≡ (after_turn newer (turn s x k) (view s k)).waits a
    unfolding moved
    waits_next k a =
        decided (λ c u. (view u k).waits a ≡ (moved newer (links t s k) (if_passed c (move_of s x k)) (view s k)).waits a)
        (λ d. by d (ltb k S) refl) (λ n place. refl)
      where
        by : IsDone → (b : Bool) → ltb k S ≡ b → (cond b (seen left k) (blank absent)).waits a ≡ (moved newer (links t s k) (move_of s x k) (cond b (seen s k) (blank absent))).waits a
        by d true e = (after_shows bytes s scratch kind agent number d k (ltb-true k S e) a).waits
        by d false e = rw (quiet_key d k e)

    pub fresh_next : (k : ℕ) → Fresh newer (turn s x k).move (view s k)
    fresh_next k = decided (λ c u. Fresh newer (if_passed c (move_of s x k)) (view s k)) (λ d. by d (ltb k S) refl) (λ n place. tt)
      where
        by : IsDone → (b : Bool) → ltb k S ≡ b → Fresh newer (move_of s x k) (cond b (seen s k) (blank absent))
        by d true e = step_fresh bytes s scratch kind agent number d k (ltb-true k S e)
        by d false e = rw (quiet_key d k e) tt

    -- and its writes
    abbrev new : List Write
    new = step_adds bytes s kind agent number

    pub numbered_next : Numbered (λ (w : Write). w.stamp) (clock_of s) (adds bytes s x)
    numbered_next = decided (λ c u. Numbered (λ (w : Write). w.stamp) (clock_of s) (if_done c new)) (λ d. adds_numbered bytes s kind agent number) (λ n place. tt)

    pub clock_next : clock_of (next bytes s x) ≡ clock_of s + length (adds bytes s x)
    clock_next = decided (λ c u. clock_of u ≡ clock_of s + length (if_done c new)) (λ d. step_clock bytes s scratch kind agent number d) (λ n place. omega arith)

    pub entries_next : (k : ℕ) → wrote (turn s x k).move ≡ entries_of (λ (w : Write). w.key) entry_written k (adds bytes s x)
    entries_next k =
        decided (λ c u. wrote (if_passed c (move_of s x k)) ≡ entries_of (λ (w : Write). w.key) entry_written k (if_done c new))
        (λ d. adds_entries bytes s kind agent number k) (λ n place. refl)

  -- where the turn is a propagate of key k by agent a, the step is a done propagate of k by a
  pub turn_propagates : (s : List ℕ) (x : Step) (k a : ℕ) → (turn s x k).move ≡ propagate a → Propagates bytes s x a k
  turn_propagates s x k a = by (outcome_of bytes s x).check refl
    where
      by : (c : Check) → (outcome_of bytes s x).check ≡ c → if_passed c (move_of s x k) ≡ propagate a → Propagates bytes s x a k
      by passes e f =
          let w = propagate_step t s x.kind x.agent x.number k a f in
          record { kind_propagate = w.0; by_agent = w.1; of_key = w.2; is_done = e }
      by (refuses n place) e f = absurd (quiet_not a f)

  -- and so the other way round; and of a done confirm
  done_turn : (s : List ℕ) (x : Step) (k : ℕ) → (outcome_of bytes s x).check ≡ passes → (turn s x k).move ≡ move_of s x k
  done_turn s x k e = ap (λ (c : Check). if_passed c (move_of s x k)) e

  pub propagates_turn : (s : List ℕ) (x : Step) (k a : ℕ) → Propagates bytes s x a k → (turn s x k).move ≡ propagate a
  propagates_turn s x k a p = done_turn s x k p.is_done ∙ rw (p.kind_propagate, p.by_agent, eq-eqb x.number k p.of_key)

  pub confirms_turn : (s : List ℕ) (x : Step) (k b : ℕ) → Confirms bytes s x b k → (turn s x k).move ≡ confirm b
  confirms_turn s x k b p = done_turn s x k p.is_done ∙ rw (p.kind_confirm, p.by_agent, eq-eqb x.number k p.of_key)

  -- what a step adds is nothing, or one write of its agent, which the step is to the write's key
  pub record AddsOne (s : List ℕ) (x : Step) : Type 0 where
    pub write : Write
    pub adds_it : adds bytes s x ≡ write ∷ []
    pub is_act : x.kind ≡ 0
    pub by_agent : x.agent ≡ write.agent
    pub is_done : (outcome_of bytes s x).check ≡ passes
    pub moves : (turn s x write.key).move ≡ writing write.agent (entry_written write)

  pub adds_one : (s : List ℕ) (x : Step) → (adds bytes s x ≡ []) ⊎ AddsOne s x
  adds_one s x = by (outcome_of bytes s x).check refl
    where
      label : Label
      label = (chosen t s x.agent x.number).label

      wrote_by : ℕ → Write
      wrote_by n = record { agent = x.agent; key = p_at t n; value = word_in (value_for t s x.agent n); stamp = next_stamp s }

      labelled : (m : Label) → adds bytes s x ≡ write_of bytes s x.agent m → ((j : ℕ) → (turn s x j).move ≡ act_move t s x.agent j m)
          → x.kind ≡ 0 → (outcome_of bytes s x).check ≡ passes → (adds bytes s x ≡ []) ⊎ AddsOne s x
      labelled Ticking a m k e = inl a
      labelled (Acting n) a m k e = at (eqb (kind_at t n) 3) refl
        where
          at : (b : Bool) → eqb (kind_at t n) 3 ≡ b → (adds bytes s x ≡ []) ⊎ AddsOne s x
          at true f = inr (record {
            write = wrote_by n;
            adds_it = a ∙ rw f;
            is_act = k;
            by_agent = refl;
            is_done = e;
            moves = m (p_at t n) ∙ rw (f, eq-eqb (p_at t n) (p_at t n) refl);
          })
          at false f = inl (a ∙ rw f)

      acts : (outcome_of bytes s x).check ≡ passes → x.kind ≡ 0 → (adds bytes s x ≡ []) ⊎ AddsOne s x
      acts e k = labelled label (ap (λ (c : Check). if_done c (new s x)) e ∙ rw (eq-eqb x.kind 0 k))
          (λ j. done_turn s x j e ∙ ap (λ (kind : ℕ). step_move t s kind x.agent x.number j) k) k e

      by : (c : Check) → (outcome_of bytes s x).check ≡ c → (adds bytes s x ≡ []) ⊎ AddsOne s x
      by passes e = ⊎_elim (acts e) (λ (d : x.kind ≡ 0 → ⊥). inl (ap (λ (c : Check). if_done c (new s x)) e ∙ rw (ne_eqb x.kind 0 d))) (same_or_other x.kind 0)
      by (refuses n place) e = inl (ap (λ (c : Check). if_done c (new s x)) e)

  abbrev pub machine : Machine newer
  machine = record {
    State = List ℕ;
    Step = Step;
    next = next bytes;
    view = view;
    turn = turn;
    Invariant = λ s. Unit {0};
    invariant_next = λ s x h. tt;
    entry_next = λ s x k a h. entry_next s x k a;
    waits_next = λ s x k a h. waits_next s x k a;
    fresh_next = λ s x k h. fresh_next s x k;
  }

  abbrev pub writes : Writes stamp_in machine
  writes = record {
    Write = Write;
    key = λ w. w.key;
    entry = entry_written;
    clock = clock_of;
    adds = adds bytes;
    adds_numbered = λ s x h. numbered_next s x;
    clock_next = λ s x h. clock_next s x;
    adds_entries = λ s x k h. entries_next s x k;
  }

  -- load leaves no entry and no key in Zp
  pub loaded_none : S ≤ key_limit → (a k : ℕ) → k < S → entry_of (loaded t) a k ≡ absent
  loaded_none few a k l =
      same_entry (loaded_zero t (Word (Entries a) k) (omega arith) refl (λ b h. refl) (λ b h. refl)) (loaded_mark t (Entries a) k (omega arith)) (loaded_writer t a k (omega arith))

  start : S ≤ key_limit → Start machine absent (loaded t)
  start few = record { invariant = tt; no_entry = λ k a. entry a k (ltb k S) refl; no_waits = λ k a. waits a k (ltb k S) refl }
    where
      entry : (a k : ℕ) (b : Bool) → ltb k S ≡ b → (cond b (seen (loaded t) k) (blank absent)).entry a ≡ absent
      entry a k true e = loaded_none few a k (ltb-true k S e)
      entry a k false e = refl

      waits : (a k : ℕ) (b : Bool) → ltb k S ≡ b → (cond b (seen (loaded t) k) (blank absent)).waits a ≡ false
      waits a k true e = ap (λ (w : ℕ). has w k) (loaded_set t Zp a) ∙ has_nothing k
      waits a k false e = refl

  pub after_list : S ≤ key_limit → (xs : List Step) → StampAgreement stamp_in machine writes absent (loaded t) xs
  after_list few = stamp_agreement stamp_in machine writes refl (loaded t) (start few) (loaded_clock t)

  -- a key that there is shows its words
  pub view_there : (s : List ℕ) (k : ℕ) → k < S → view s k ≡ seen s k
  view_there s k l = rw (lt-ltb k S l)

  pub entry_there : (xs : List Step) (k a : ℕ) → k < S → entry_after machine (loaded t) xs k a ≡ entry_of (state_after bytes xs) a k
  entry_there xs k a l = ap (λ (v : View Entry). v.entry a) (view_there (state_after bytes xs) k l)
