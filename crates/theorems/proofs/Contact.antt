-- Two agents in contact, from any moment of the list and from load.
-- Assumes nothing.
use Prim.Native.Nat.{ℕ, ◌<◌, ◌≤◌}
use mathlib.Core.Bool.{Bool, true, false}
use mathlib.Core.Path.{◌≡◌, refl, sym, subst}
use mathlib.Core.List.{List, [], ◌++◌}
use native.Mathlib.Omega.{arith}
use lib.Dec.{T}
use borrow.Author.Tests.{ltb-true, lt-ltb}
use Rattle.basis.specs.KeySets.{has}
use Rattle.agreement.specs.View.{View, NewerWaits as ViewNewerWaits}
use Rattle.agreement.specs.Machine.{InContact as MachineInContact, HeldBeforePropagates as MachineHeld}
use Rattle.agreement.proofs.Machine.{before_map}
use Rattle.table.specs.Tables.{Table, table_of}
use Rattle.state.specs.declared.Store.TheVariants.{Entries}
use Rattle.state.specs.declared.Entry.{Entry}
use Rattle.state.specs.Layout.{key_limit, stamp_of, zp_of}
use Rattle.state.specs.Entries.{entry_of, newer}
use Rattle.state.specs.Evaluation.{link_holds}
use Rattle.state.specs.WellFormed.{loaded}
use Rattle.state.proofs.Load.{loaded_mark}
use Rattle.steps.proofs.Steps.{load_accepted}
use Rattle.labs.specs.Lists.{Step, next, state_after}
use Rattle.theorems.specs.Demand3.{HeldBeforeSteps, NewerWaits}
use Rattle.theorems.specs.Contact.{HeldBeforePropagates, InContact, ContactSince, ContactLoad, ContactHolds}
use Rattle.theorems.proofs.Views.{links}
use Rattle.theorems.proofs.Lists.{machine, after_list, view_there, turn_propagates}

is_true : (b : Bool) → T b → b ≡ true
is_true true h = refl
is_true false h = absurd h

module _ (bytes : List ℕ) where
  abbrev t : Table
  t = table_of bytes

  abbrev A : ℕ
  A = t.sizes.agents

  abbrev S : ℕ
  S = t.sizes.stigmergy

  -- newer only while it waits: of words and of the view that they show
  module _ (s : List ℕ) (k a b : ℕ) (l : k < S) where
    pub to_view : NewerWaits s k a b → ViewNewerWaits newer ((machine bytes).view s k) a b
    to_view h = subst (λ (v : View Entry). ViewNewerWaits newer v a b) (sym (view_there bytes s k l)) (λ n. rw (h (is_true (newer (entry_of s a k) (entry_of s b k)) n)) tt)

    pub to_words : ViewNewerWaits newer ((machine bytes).view s k) a b → NewerWaits s k a b
    to_words h n =
        is_true (has (zp_of s a) k)
        (subst (λ (v : View Entry). ViewNewerWaits newer v a b) (view_there bytes s k l) h (rw n tt))

  -- a link that holds, to an agent that there is
  pub link_there : (s : List ℕ) (k a b : ℕ) → b < A → link_holds t s k a b ≡ true → T (links t s k a b)
  link_there s k a b l h = rw (lt-ltb b A l, h) tt

  -- the links, of words and of the machine
  links_held : (s : List ℕ) (xs : List Step) (k a b : ℕ) → b < A → HeldBeforePropagates bytes s xs k a b → MachineHeld (machine bytes) s xs k a b
  links_held s xs k a b l =
      before_map (next bytes) _ _ (λ s x h e. link_there s k a b l (h (turn_propagates bytes s x k a e))) s xs

  module _ (few : S ≤ key_limit) where
    module _ (before since : List Step) where
      abbrev end : List Step
      end = before ++ since

      pub in_contact : (k a b : ℕ) → k < S → b < A → InContact bytes before since k a b → MachineInContact (machine bytes) (loaded t) before since k a b
      in_contact k a b l h c = record {
        newer_waits = to_view (state_after bytes before) k a b l c.newer_waits;
        link_held = links_held (state_after bytes before) since k a b h c.link_held;
      }

      pub contact_since : ContactSince bytes before since
      contact_since a b k ha hb l c = to_words (state_after bytes end) k a b l ((after_list bytes few end).agreement.pair before since refl k a b (in_contact k a b l hb c))

    -- load leaves no entry
    no_stamp : (a k : ℕ) → k < S → stamp_of (loaded t) a k ≡ 0
    no_stamp a k l = loaded_mark t (Entries a) k (omega arith)

    pub none_newer : (k a b : ℕ) → k < S → NewerWaits (loaded t) k a b
    none_newer k a b l n = absurd (omega (arith, ltb-true (stamp_of (loaded t) b k) (stamp_of (loaded t) a k) n, no_stamp a k l))

    pub from_load_lem : (xs : List Step) (k a b : ℕ) → k < S → HeldBeforePropagates bytes (loaded t) xs k a b → InContact bytes [] xs k a b
    from_load_lem xs k a b l held = record { newer_waits = none_newer k a b l; link_held = held }

    -- a link that held before every step
    pub steady_held : (xs : List Step) (k a b : ℕ) → HeldBeforeSteps bytes xs k a b → HeldBeforePropagates bytes (loaded t) xs k a b
    steady_held xs k a b = before_map (next bytes) _ _ (λ s x h p. h) (loaded t) xs

    pub contact_load : (xs : List Step) → ContactLoad bytes xs
    contact_load xs a b k ha hb l held = contact_since [] xs a b k ha hb l (from_load_lem xs k a b l held)

pub contact : ContactHolds
contact bytes lent scratch e =
    let few = (load_accepted bytes lent scratch e).table.sound.shaped.limits.stigmergy in
    (contact_since bytes few, contact_load bytes few)
