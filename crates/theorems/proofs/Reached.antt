-- States that steps reach from any start, and that load leaves or not.
-- Assumes nothing.
use Prim.Native.Nat.{ℕ, ◌<◌}
use mathlib.Core.Path.{◌≡◌, refl, sym, ap, subst, ◌∙◌}
use mathlib.Core.List.{List, [], ◌∷◌}
use Rattle.agreement.specs.Machine.{turns_of}
use Rattle.agreement.specs.Order.{NotOlder}
use Rattle.agreement.specs.View.{View}
use Rattle.agreement.proofs.Machine.{view_steps, fresh_steps}
use Rattle.agreement.proofs.Stamps.{stamp_order}
use Rattle.agreement.proofs.Turns.{never_older}
use Rattle.table.specs.Checks.{Check, passes, refuses, first_of}
use Rattle.table.specs.Tables.{table_of}
use Rattle.term.specs.Acceptance.{table_checks}
use Rattle.state.specs.declared.Entry.{Entry}
use Rattle.state.specs.Layout.{is_whole}
use Rattle.state.specs.Entries.{entry_of, newer}
use Rattle.state.specs.WellFormed.{loaded}
use Rattle.state.specs.Formed.{ProperFacts}
use Rattle.steps.specs.Tallies.{no_tally}
use Rattle.steps.specs.Steps.{Outcome, load_of}
use Rattle.steps.proofs.Steps.{outcome_check, outcome_refused, state_checks_lem, step_in_lem, done_step, step_refused}
use Rattle.steps.proofs.Proper.{step_checked}
use Rattle.labs.specs.Lists.{Step, outcome_of, next, state_from}
use Rattle.labs.specs.Demand2.{Bytes}
use Rattle.theorems.proofs.Views.{stamp_in}
use Rattle.theorems.proofs.Lists.{machine, view_there}

module _ (bytes : List ℕ) where
  -- no agent's entry is older after them
  pub not_older : (s : List ℕ) (xs : List Step) (a k : ℕ) → k < (table_of bytes).sizes.stigmergy → NotOlder newer (entry_of (state_from bytes s xs) a k) (entry_of s a k)
  not_older s xs a k h =
      let M = machine bytes in
      let was : View Entry = M.view s k in
      let is : View Entry = M.view (state_from bytes s xs) k in
      let e = ap (λ (v : View Entry). v.entry a) (view_steps M s xs k tt) in
      let n = never_older newer (stamp_order stamp_in) (turns_of M.next M.turn s xs k) was a (fresh_steps M s xs k tt) in
      let m : NotOlder newer (is.entry a) (was.entry a) = subst (λ (r : Entry). NotOlder newer r (was.entry a)) (sym e) n in
      subst (λ (v : View Entry). NotOlder newer (v.entry a) (entry_of s a k)) (view_there bytes (state_from bytes s xs) k h)
      (subst (λ (v : View Entry). NotOlder newer (is.entry a) (v.entry a)) (view_there bytes s k h) m)

  -- a state of words of 32 bits that is well formed leads to such states
  module _ (small : Bytes bytes) where
    next_proper : (s : List ℕ) (x : Step) → ProperFacts (table_of bytes) s → ProperFacts (table_of bytes) (next bytes s x)
    next_proper s x p = by (outcome_of bytes s x).check refl
      where
        by : (c : Check) → (outcome_of bytes s x).check ≡ c → ProperFacts (table_of bytes) (next bytes s x)
        by passes e =
            let d = done_step bytes s x.scratch x.kind x.agent x.number e in
            let c = (state_checks_lem bytes s x.scratch).1 (d.accepted, d.formed) in
            subst (λ (o : Outcome). ProperFacts (table_of bytes) o.state) (sym (step_in_lem bytes s x.scratch x.kind x.agent x.number c))
            (step_checked bytes small s p.small x.scratch c x.kind x.agent x.number)
        by (refuses n place) e =
            subst (λ (o : Outcome). ProperFacts (table_of bytes) o.state) (sym (step_refused bytes s x.scratch x.kind x.agent x.number e)) p

    pub steps_proper : (s : List ℕ) (xs : List Step) → ProperFacts (table_of bytes) s → ProperFacts (table_of bytes) (state_from bytes s xs)
    steps_proper s [] p = p
    steps_proper s (x ∷ xs) p = steps_proper (next bytes s x) xs (next_proper s x p)

-- a refused load leaves the state as it came
pub load_refused : (bytes was : List ℕ) (scratch n place : ℕ) → (load_of bytes was scratch).check ≡ refuses n place → (load_of bytes was scratch).state ≡ was
load_refused bytes was scratch n place e =
    let c = first_of (table_checks bytes (is_whole was) scratch) in
    ap (λ (o : Outcome). o.state) (outcome_refused was no_tally (loaded (table_of bytes)) c (sym (outcome_check was no_tally (loaded (table_of bytes)) c) ∙ e))
