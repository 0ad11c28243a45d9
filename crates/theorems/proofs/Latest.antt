-- What agents agree on: no write of theirs is newer, and if all agents agree, it is the last write.
-- Assumes nothing.
use Prim.Native.Nat.{ℕ, suc, ◌-◌, ◌<◌, ◌≤◌}
use mathlib.Core.Bool.{false}
use mathlib.Core.Path.{◌≡◌, refl, sym, ap, subst, ◌∙◌}
use mathlib.Core.Logic.{◌⊎◌, inl, inr, ⊎_elim}
use mathlib.Core.Option.{some}
use mathlib.Core.List.Memᴰ
use mathlib.Core.List.{List, [], ◌∷◌, ◌++◌, Memᴰ}
use native.Mathlib.Omega.{arith}
use lib.Dec.{ltb→lt}
use lib.ListN.{get_elem?, take, drop}
use lib.Seq.{split_at, length-take-le}
use borrow.Author.Tests.{ltb-false}
use Rattle.basis.proofs.Tests.{is_false}
use Rattle.basis.proofs.Lists.{nth_in, nth_is}
use Rattle.agreement.specs.Order.{NotOlder}
use Rattle.agreement.specs.History.{Numbered, write_at, WrittenAt}
use Rattle.agreement.proofs.Stamps.{stamp_order}
use Rattle.agreement.proofs.Turns.{not_older_not}
use Rattle.agreement.proofs.History.{numbered_rest, at_stamp}
use Rattle.table.specs.Tables.{table_of}
use Rattle.state.specs.declared.Entry.{Entry}
use Rattle.state.specs.Layout.{key_limit, stamp_of}
use Rattle.state.specs.Entries.{entry_of, newer}
use Rattle.state.specs.WellFormed.{loaded}
use Rattle.steps.proofs.Steps.{done_step}
use Rattle.labs.specs.Lists.{Step, state_after}
use Rattle.theorems.specs.Demand3.{Write, entry_written, history}
use Rattle.theorems.specs.Chains.{AllHave, Unwritten, LastWritten}
use Rattle.theorems.proofs.Views.{absent, stamp_in}
use Rattle.theorems.proofs.Lists.{AddsOne, loaded_none, after_list, entry_there}
use Rattle.theorems.proofs.Demand3.{no_write}
use Rattle.theorems.proofs.Origins.{StepOf, step_of}

-- a list around what stands at a place
nth_split : {A : Type 0} (l : List A) (i : ℕ) (x : A) → get_elem? l i ≡ some x → l ≡ take i l ++ (x ∷ drop (suc i) l)
nth_split l i x e = let w = nth_is l i x x e in split_at l i x w.0 ∙ ap (λ y. take i l ++ (y ∷ drop (suc i) l)) w.1

module _ (bytes : List ℕ) (few : (table_of bytes).sizes.stigmergy ≤ key_limit) where
  -- what an agent has for a key is an entry, or it has none
  pub present_or_none : (xs : List Step) (k a : ℕ) → k < (table_of bytes).sizes.stigmergy → (0 < stamp_of (state_after bytes xs) a k) ⊎ (entry_of (state_after bytes xs) a k ≡ absent)
  present_or_none xs k a h = ⊎_elim
      (λ e. inr (sym (entry_there bytes xs k a h) ∙ e ∙ entry_there bytes [] k a h ∙ loaded_none bytes few a k h))
      (λ t. let n = ltb→lt _ _ t in inl (above (ap stamp_in (entry_there bytes xs k a h)) n))
      ((after_list bytes few xs).agreement.never_older [] xs refl k a)
    where
      above : {m n c : ℕ} → n ≡ c → m < n → 0 < c
      above e l = omega arith

module _ (bytes : List ℕ) (few : (table_of bytes).sizes.stigmergy ≤ key_limit) (xs : List Step) where
  abbrev s : List ℕ
  s = state_after bytes xs

  abbrev h : List Write
  h = history bytes xs

  numbered : Numbered (λ (w : Write). w.stamp) 0 h
  numbered = (after_list bytes few xs).numbered

  -- the step of a write
  its_step : (w : Write) → Memᴰ w h → StepOf bytes (loaded (table_of bytes)) xs (w.stamp - 1) w
  its_step w m =
      let p = at_stamp (λ (w : Write). w.stamp) 0 h w w numbered m in
      step_of bytes (loaded (table_of bytes)) xs (w.stamp - 1) w (nth_in h (w.stamp - 1) w (omega arith) ∙ ap some p.2)

  -- its agent's entry for its key is not older
  own : (w : Write) → Memᴰ w h → w.key < (table_of bytes).sizes.stigmergy → NotOlder newer (entry_of s w.agent w.key) (entry_written w)
  own w m l =
      let o = its_step w m in
      let i : o.one.write ≡ w = o.is_it in
      subst (λ (v : Write). v.key < (table_of bytes).sizes.stigmergy → NotOlder newer (entry_of s v.agent v.key) (entry_written v)) i (at o.index o.step o.there o.one) l
    where
      at : (i : ℕ) (x : Step) → get_elem? xs i ≡ some x → (o : AddsOne bytes (state_after bytes (take i xs)) x) → o.write.key < (table_of bytes).sizes.stigmergy
          → NotOlder newer (entry_of s o.write.agent o.write.key) (entry_written o.write)
      at i x e o l =
          subst (λ (f : Entry). NotOlder newer f (entry_written o.write)) (entry_there bytes xs o.write.key o.write.agent l)
          ((after_list bytes few xs).agreement.own (take i xs) (drop (suc i) xs) x (nth_split xs i x e) o.write.key o.write.agent (entry_written o.write) o.moves)

  module _ (k : ℕ) (l : List ℕ) (e : Entry) (b : k < (table_of bytes).sizes.stigmergy) (all : AllHave s k e l) where
    pub none_newer_own : (w : Write) → Memᴰ w h → w.key ≡ k → Memᴰ w.agent l → newer (entry_written w) e ≡ false
    none_newer_own w m f n =
        let same : entry_of s w.agent w.key ≡ e = ap (entry_of s w.agent) f ∙ all w.agent n in
        let o : NotOlder newer e (entry_written w) = subst (λ (g : Entry). NotOlder newer g (entry_written w)) same (own w m (omega arith)) in
        is_false (newer (entry_written w) e) (λ t. not_older_not newer (stamp_order stamp_in) e (entry_written w) o (rw t tt))

    module _ (whole : (a : ℕ) → a < (table_of bytes).sizes.agents → Memᴰ a l) where
      pub none_newer : (w : Write) → Memᴰ w h → w.key ≡ k → newer (entry_written w) e ≡ false
      none_newer w m f =
          let o = its_step w m in
          let x : Step = o.step in
          let d = done_step bytes (state_after bytes (take o.index xs)) x.scratch x.kind x.agent x.number o.one.is_done in
          let by : x.agent ≡ w.agent = o.one.by_agent ∙ ap (λ (v : Write). v.agent) o.is_it in
          none_newer_own w m f (whole w.agent (omega (arith, d.range.agent_below)))

      -- so no write to k has a higher stamp
      none_higher : (w : Write) → Memᴰ w h → w.key ≡ k → w.stamp ≤ e.stamp
      none_higher w m f = ltb-false e.stamp w.stamp (none_newer w m f)

      pub last_written : 0 < (table_of bytes).sizes.agents → LastWritten h k e ⊎ (Unwritten k h × (e ≡ absent))
      last_written one = ⊎_elim there (λ f. inr (none (sym first ∙ f), sym first ∙ f)) (present_or_none bytes few xs k 0 b)
        where
          first : entry_of s 0 k ≡ e
          first = all 0 (whole 0 one)

          none : e ≡ absent → Unwritten k h
          none f w m g = omega (arith, none_higher w m g, (at_stamp (λ (w : Write). w.stamp) 0 h w w numbered m).0, ap stamp_in f)

          n : ℕ
          n = e.stamp - 1

          there : 0 < stamp_of s 0 k → LastWritten h k e ⊎ (Unwritten k h × (e ≡ absent))
          there pos =
              let w = subst (λ (r : Entry). 0 < r.stamp → WrittenAt stamp_in (λ (w : Write). w.key) entry_written no_write h k r) (entry_there bytes xs k 0 b ∙ first)
              ((after_list bytes few xs).written no_write k 0) (omega (arith, ap stamp_in first)) in
              let inside = w.in_history in
              let parts : h ≡ take n h ++ (write_at no_write h e.stamp ∷ drop (suc n) h) = split_at h n no_write (omega (arith, ap stamp_in first)) in
              inl (record {
                before = take n h;
                write = write_at no_write h e.stamp;
                after = drop (suc n) h;
                split = parts;
                to_key = w.same_key;
                wrote = w.same_entry;
                none_after = λ v m f.
                    let rest = numbered_rest (λ (w : Write). w.stamp) 0 (take n h) _ (subst (Numbered (λ (w : Write). w.stamp) 0) parts numbered) in
                    omega (
                      arith,
                      (at_stamp (λ (w : Write). w.stamp) _ (drop (suc n) h) v v rest.1 m).0,
                      length-take-le n h (omega (arith, ap stamp_in first)),
                      ap stamp_in first,
                      none_higher v (subst (Memᴰ v) (sym parts) (Memᴰ.append_right (take n h) (Memᴰ.tail m))) f,
                    );
              })
