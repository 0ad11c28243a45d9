-- What a done step is to each key, which writes it adds, and that the words after it show this.
-- Assumes nothing.
use Prim.Native.Nat.{ℕ, zero, suc, ◌+◌, ◌<◌, ◌≤◌}
use mathlib.Core.Bool.{Bool, true, false, cond}
use mathlib.Core.Path.{◌≡◌, refl, ap, ◌∙◌}
use mathlib.Core.Logic.{⊎_elim}
use mathlib.Core.List.{List, [], ◌∷◌, ◌++◌}
use native.Mathlib.Omega.{arith}
use lib.Dec.{eqb, lt→ltb, eqb-suc-zero}
use lib.ListN.{length}
use borrow.Author.Tests.{eq-eqb, ne_eqb}
use Rattle.basis.proofs.Tests.{same_or_other}
use Rattle.agreement.specs.View.{View}
use Rattle.agreement.specs.Moves.{Move, quiet, write, propagate, confirm, moved, Fresh, wrote}
use Rattle.agreement.specs.History.{Numbered, entries_of}
use Rattle.table.specs.Tables.{Table, table_of, kind_at, p_at}
use Rattle.table.proofs.Promises.{stigmergy_set_operands}
use Rattle.term.specs.declared.Label.{Label}
use Rattle.term.specs.declared.Label.TheVariants.{Ticking, Acting}
use Rattle.term.specs.Accepted.{ActionNode, Labelled}
use Rattle.state.specs.declared.Store.TheVariants.{Entries}
use Rattle.state.specs.declared.Entry.{Entry}
use Rattle.state.specs.Layout.{key_limit, stamp_of}
use Rattle.state.specs.Entries.{clock_of, next_stamp, newer}
use Rattle.state.specs.Standing.{HasBlocks}
use Rattle.state.proofs.Places.{Zp, Zc, Clock}
use Rattle.state.proofs.Frames.{put_other, drop_other}
use Rattle.state.specs.Formed.{WellFormed}
use Rattle.state.proofs.Formed.{well_formed_read}
use Rattle.steps.specs.Acts.{chosen, word_in, value_for, store_of, set_key}
use Rattle.steps.specs.Offers.{offered}
use Rattle.steps.specs.Steps.{after}
use Rattle.steps.proofs.Steps.{Done, act_able}
use Rattle.steps.proofs.Acts.{chosen_inside, action_key, set_tick, set_value, entry_word, acted_other}
use Rattle.steps.proofs.Offers.{offered_other}
use Rattle.theorems.specs.Demand3.{Write, entry_written, write_of}
use Rattle.theorems.proofs.Views.{seen, links, Shows}
use Rattle.theorems.proofs.ActViews.{act_move, act_shows}
use Rattle.theorems.proofs.OfferViews.{propagate_shows, confirm_shows}

-- what a done step is to key j
abbrev pub step_move : Table → List ℕ → ℕ → ℕ → ℕ → ℕ → Move Entry
step_move t s zero x c j = act_move t s x j (chosen t s x c).label
step_move t s (suc zero) x k j = cond (eqb k j) (propagate x) quiet
step_move t s (suc (suc kind)) x k j = cond (eqb k j) (confirm x) quiet

-- what it adds to the history
abbrev pub step_adds : List ℕ → List ℕ → ℕ → ℕ → ℕ → List Write
step_adds bytes s kind x number = cond (eqb kind 0) (write_of bytes s x (chosen (table_of bytes) s x number).label) []

-- a well-formed state, as facts
pub formed : (bytes s : List ℕ) (scratch kind x number : ℕ) → Done bytes s scratch kind x number → WellFormed (table_of bytes) s
formed bytes s scratch kind x number done = well_formed_read (table_of bytes) done.accepted.table.sound.shaped.limits s (omega (arith, done.whole)) done.formed

-- an act's label is of an action node
labelled : (bytes s : List ℕ) (scratch x c : ℕ) → Done bytes s scratch 0 x c → Labelled (table_of bytes) (chosen (table_of bytes) s x c).label
labelled bytes s scratch x c done =
    let t = table_of bytes in
    let over = ((formed bytes s scratch 0 x c done).formed.residuals x done.range.agent_below).over in
    (chosen_inside t s x done.accepted.table.sound over c ((act_able t s x c).0 done.own).there).label

-- the words after a step show what it is to a key
pub after_shows : (bytes s : List ℕ) (scratch kind x number : ℕ) → Done bytes s scratch kind x number → (j : ℕ) → j < (table_of bytes).sizes.stigmergy → (a : ℕ)
    → Shows (after (table_of bytes) s kind x number) j (moved newer (links (table_of bytes) s j) (step_move (table_of bytes) s kind x number j) (seen s j)) a
after_shows bytes s scratch zero x c done j l a =
    let t = table_of bytes in
    act_shows t s x j (omega (arith, done.whole)) (omega arith) (omega arith) (chosen t s x c) (labelled bytes s scratch x c done)
    (action_key t s x done.accepted.table.sound) a
after_shows bytes s scratch (suc zero) x k done j l a =
    let key = done.range.key_below (omega arith) in
    propagate_shows (table_of bytes) s x k (omega arith) (omega arith) (omega (arith, done.whole)) done.range.agent_below j (omega arith) a
after_shows bytes s scratch (suc (suc kind)) x k done j l a =
    let key = done.range.key_below (omega arith) in
    confirm_shows (table_of bytes) s x k (omega arith) (omega arith) (omega (arith, done.whole)) done.range.agent_below j (omega arith) a

-- to a key that there is not a step is nothing
pub quiet_past : (bytes s : List ℕ) (scratch kind x number : ℕ) → Done bytes s scratch kind x number → (j : ℕ) → (table_of bytes).sizes.stigmergy ≤ j
    → step_move (table_of bytes) s kind x number j ≡ quiet
quiet_past bytes s scratch zero x c done j l = by (chosen (table_of bytes) s x c).label
  where
    t : Table
    t = table_of bytes

    by : (m : Label) → act_move (table_of bytes) s x j m ≡ quiet
    by Ticking = refl
    by (Acting n) =
        ⊎_elim (λ (e : kind_at t n ≡ 3).
        let p = (stigmergy_set_operands t done.accepted.table.sound n e).0 in
        rw (eq-eqb (kind_at t n) 3 e, ne_eqb (p_at t n) j (λ f. omega arith)))
        (λ (d : kind_at t n ≡ 3 → ⊥). rw (ne_eqb (kind_at t n) 3 d)) (same_or_other (kind_at t n) 3)
quiet_past bytes s scratch (suc zero) x k done j l =
    let key = done.range.key_below (omega arith) in
    rw (ne_eqb k j (λ e. omega arith))
quiet_past bytes s scratch (suc (suc kind)) x k done j l =
    let key = done.range.key_below (omega arith) in
    rw (ne_eqb k j (λ e. omega arith))

-- a write is newer than what it replaces
fresh_either : (b c : Bool) (m : Move Entry) (v : View Entry) → Fresh newer m v → Fresh newer (cond b (cond c m quiet) quiet) v
fresh_either true true m v f = f
fresh_either true false m v f = tt
fresh_either false c m v f = tt

pub step_fresh : (bytes s : List ℕ) (scratch kind x number : ℕ) → Done bytes s scratch kind x number → (j : ℕ) → j < (table_of bytes).sizes.stigmergy
    → Fresh newer (step_move (table_of bytes) s kind x number j) (seen s j)
step_fresh bytes s scratch zero x c done j l = by (chosen (table_of bytes) s x c).label
  where
    by : (m : Label) → Fresh newer (act_move (table_of bytes) s x j m) (seen s j)
    by Ticking = tt
    by (Acting n) =
        let w = ((formed bytes s scratch 0 x c done).formed.pairs (Entries x) done.range.agent_below j (omega arith)).bound in
        fresh_either (eqb (kind_at (table_of bytes) n) 3) (eqb (p_at (table_of bytes) n) j) _ (seen s j) (lt→ltb (stamp_of s x j) (next_stamp s) (omega arith))
step_fresh bytes s scratch (suc zero) x k done j l = fresh_either true (eqb k j) (propagate x) (seen s j) tt
step_fresh bytes s scratch (suc (suc kind)) x k done j l = fresh_either true (eqb k j) (confirm x) (seen s j) tt

-- the clock rises by one for each write
set_clock_lem : (bytes s : List ℕ) (x : ℕ) → HasBlocks s → x < 32 → (m : Label) → Labelled (table_of bytes) m → ((n : ℕ) → ActionNode (table_of bytes) n → p_at (table_of bytes) n < key_limit)
    → clock_of (set_key (table_of bytes) s x m) ≡ clock_of s + length (write_of bytes s x m)
set_clock_lem bytes s x room there Ticking i key = ap (λ (u : List ℕ). clock_of u) (set_tick (table_of bytes) s x) ∙ omega arith
set_clock_lem bytes s x room there (Acting n) i key = ⊎_elim entered other (same_or_other (kind_at t n) 3)
  where
    t : Table
    t = table_of bytes

    entered : kind_at (table_of bytes) n ≡ 3 → clock_of (set_key (table_of bytes) s x (Acting n)) ≡ clock_of s + length (write_of bytes s x (Acting n))
    entered e = entry_word t s x n room there e (key n i) Clock tt ∙ rw (eq-eqb (kind_at t n) 3 e)

    other : (kind_at (table_of bytes) n ≡ 3 → ⊥) → clock_of (set_key (table_of bytes) s x (Acting n)) ≡ clock_of s + length (write_of bytes s x (Acting n))
    other d =
        ap (λ (u : List ℕ). clock_of u) (set_value t s x n d)
        ∙ put_other (store_of t x n) (p_at t n) (word_in (value_for t s x n)) 1 s (key n i) Clock tt refl refl
        ∙ rw (ne_eqb (kind_at t n) 3 d) (omega arith)

pub step_clock : (bytes s : List ℕ) (scratch kind x number : ℕ) → Done bytes s scratch kind x number
    → clock_of (after (table_of bytes) s kind x number) ≡ clock_of s + length (step_adds bytes s kind x number)
step_clock bytes s scratch zero x c done =
    let t = table_of bytes in
    acted_other t s x (chosen t s x c) Clock tt refl refl (λ i l. refl)
    ∙ set_clock_lem bytes s x (omega (arith, done.whole)) (omega arith) (chosen t s x c).label (labelled bytes s scratch x c done) (action_key t s x done.accepted.table.sound)
step_clock bytes s scratch (suc zero) x k done =
    let t = table_of bytes in
    let key = done.range.key_below (omega arith) in
    drop_other Zp x k (offered t s x k true false t.sizes.agents) Clock tt refl
    ∙ offered_other t s x k true false (omega arith) t.sizes.agents Clock tt (λ y l d e. refl) ∙ omega arith
step_clock bytes s scratch (suc (suc kind)) x k done =
    let t = table_of bytes in
    let key = done.range.key_below (omega arith) in
    drop_other Zc x k (offered t s x k true true t.sizes.agents) Clock tt refl
    ∙ offered_other t s x k true true (omega arith) t.sizes.agents Clock tt (λ y l d e. refl) ∙ rw (eqb-suc-zero (suc kind)) (omega arith)

-- the writes bear the stamps that the clock gives, and are what the step writes to each key
pub adds_numbered : (bytes s : List ℕ) (kind x number : ℕ) → Numbered (λ (w : Write). w.stamp) (clock_of s) (step_adds bytes s kind x number)
adds_numbered bytes s kind x number = by (eqb kind 0) (chosen (table_of bytes) s x number).label
  where
    one : (b : Bool) (w : Write) → w.stamp ≡ next_stamp s → Numbered (λ (w : Write). w.stamp) (clock_of s) (cond b (w ∷ []) [])
    one true w e = (omega arith, tt)
    one false w e = tt

    by : (b : Bool) (m : Label) → Numbered (λ (w : Write). w.stamp) (clock_of s) (cond b (write_of bytes s x m) [])
    by true Ticking = tt
    by true (Acting n) = one (eqb (kind_at (table_of bytes) n) 3) _ refl
    by false m = tt

wrote_nothing : (b : Bool) (m : Move Entry) → wrote m ≡ [] → wrote (cond b m quiet) ≡ []
wrote_nothing true m e = e
wrote_nothing false m e = refl

pub adds_entries : (bytes s : List ℕ) (kind x number j : ℕ)
    → wrote (step_move (table_of bytes) s kind x number j) ≡ entries_of (λ (w : Write). w.key) entry_written j (step_adds bytes s kind x number)
adds_entries bytes s zero x c j = by (chosen (table_of bytes) s x c).label
  where
    one : (b : Bool) (w : Write) → wrote (cond b (cond (eqb w.key j) (write x (entry_written w)) quiet) quiet) ≡ entries_of (λ (w : Write). w.key) entry_written j (cond b (w ∷ []) [])
    one true w = at (eqb w.key j)
      where
        at : (c : Bool) → wrote (cond c (write x (entry_written w)) quiet) ≡ cond c (entry_written w ∷ []) [] ++ []
        at true = refl
        at false = refl
    one false w = refl

    by : (m : Label) → wrote (act_move (table_of bytes) s x j m) ≡ entries_of (λ (w : Write). w.key) entry_written j (write_of bytes s x m)
    by Ticking = refl
    by (Acting n) = one (eqb (kind_at (table_of bytes) n) 3)
        (record { agent = x; key = p_at (table_of bytes) n; value = word_in (value_for (table_of bytes) s x n); stamp = next_stamp s })
adds_entries bytes s (suc zero) x k j = wrote_nothing (eqb k j) (propagate x) refl
adds_entries bytes s (suc (suc kind)) x k j = rw (eqb-suc-zero (suc kind)) (wrote_nothing (eqb k j) (confirm x) refl)
