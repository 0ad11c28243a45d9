-- Demand 3, from what a machine of agreement keeps.
-- Assumes nothing.
use Prim.Native.Nat.{ℕ, ◌-◌, ◌<◌, ◌≤◌}
use mathlib.Core.Path.{◌≡◌, sym, ap, subst, subst₂, ◌∙◌}
use mathlib.Core.Option.{some}
use mathlib.Core.List.{List}
use native.Mathlib.Omega.{arith}
use lib.ListN.{get_elem?}
use borrow.Author.Tests.{ltb-true, lt-ltb}
use Rattle.basis.proofs.Lists.{nth_in, nth_is}
use Rattle.agreement.specs.Order.{NotOlder}
use Rattle.agreement.specs.History.{write_at, WrittenAt}
use Rattle.agreement.specs.Agreement.{StampAgreement}
use Rattle.agreement.proofs.History.{numbered_at}
use Rattle.table.specs.Tables.{table_of}
use Rattle.state.specs.declared.Store.TheVariants.{Entries}
use Rattle.state.specs.declared.Entry.{Entry}
use Rattle.state.specs.Layout.{key_limit, word_of, stamp_of, writer_of}
use Rattle.state.specs.Entries.{newer}
use Rattle.state.specs.WellFormed.{loaded}
use Rattle.steps.specs.Steps.{Outcome}
use Rattle.steps.proofs.Steps.{load_accepted, accepted_load}
use Rattle.labs.specs.Lists.{Step, state_after}
use Rattle.theorems.specs.Demand3.{Write, entry_written, history, Demand3, Demand3Holds}
use Rattle.theorems.proofs.Views.{absent, stamp_in}
use Rattle.theorems.proofs.Lists.{machine, writes, after_list, entry_there}
use Rattle.theorems.proofs.Contact.{steady_held, contact_load}

-- stands past the history's end
pub no_write : Write
no_write = record { agent = 0; key = 0; value = 0; stamp = 0 }

module _ (bytes : List ℕ) (few : (table_of bytes).sizes.stigmergy ≤ key_limit) (xs : List Step) where
  all : StampAgreement stamp_in (machine bytes) (writes bytes) absent (loaded (table_of bytes)) xs
  all = after_list bytes few xs

  demand : Demand3 bytes xs
  demand = record {
    newer_is_higher = λ e f. (ltb-true f.stamp e.stamp, lt-ltb f.stamp e.stamp);
    numbered = λ n w e.
        let p = nth_is (history bytes xs) n no_write w e in
        ap (λ (w : Write). w.stamp) (sym p.1) ∙ numbered_at (λ (w : Write). w.stamp) 0 (history bytes xs) no_write n all.numbered p.0 ∙ omega arith;
    written = λ a k h l. written_there k a l;
    equal = λ a b k h i l e.
        let p = entry_there bytes xs k a l in
        let q = entry_there bytes xs k b l in
        let f = sym p ∙ all.equal k a b (ap stamp_in p ∙ e ∙ sym (ap stamp_in q)) ∙ q in
        (ap (λ (r : Entry). r.value) f, ap (λ (r : Entry). r.writer) f);
    never_older = λ before since e a k h l.
        subst₂ (NotOlder newer) (entry_there bytes xs k a l) (entry_there bytes before k a l) (all.agreement.never_older before since e k a);
    never_fall = λ before since e a k h l. omega (arith, all.never_fall before since e k a, ap stamp_in (entry_there bytes before k a l), ap stamp_in (entry_there bytes xs k a l));
    pair = λ a b k h i l held. contact_load bytes few xs a b k h i l (steady_held bytes few xs k a b held);
  }
    where
      written_there : (k a : ℕ) → k < (table_of bytes).sizes.stigmergy → 0 < stamp_of (state_after bytes xs) a k
          → (w : Write) × (get_elem? (history bytes xs) (stamp_of (state_after bytes xs) a k - 1) ≡ some w) × (w.key ≡ k)
          × (w.value ≡ word_of (state_after bytes xs) (Entries a) k) × (w.agent ≡ writer_of (state_after bytes xs) a k)
      written_there k a l pos =
          let w = subst (λ (r : Entry). 0 < r.stamp → WrittenAt stamp_in (λ (w : Write). w.key) entry_written no_write (history bytes xs) k r)
          (entry_there bytes xs k a l) (all.written no_write k a) pos in
          let inside = w.in_history in (
            write_at no_write (history bytes xs) (stamp_of (state_after bytes xs) a k),
            nth_in (history bytes xs) _ no_write (omega arith),
            w.same_key,
            ap (λ (r : Entry). r.value) w.same_entry,
            ap (λ (r : Entry). r.writer) w.same_entry,
          )

pub demand_3 : Demand3Holds
demand_3 bytes lent scratch e =
    let a = load_accepted bytes lent scratch e in
    (ap (λ (o : Outcome). o.state) (accepted_load bytes lent scratch a), λ xs. demand bytes a.table.sound.shaped.limits.stigmergy xs)
