-- The step to blame where silent agents disagree.
-- Assumes nothing.
use Prim.Native.Nat.{ℕ, ◌<◌, ◌≤◌}
use mathlib.Core.Bool.{true}
use mathlib.Core.Path.{◌≡◌, refl, sym, subst, ◌∙◌}
use mathlib.Core.List.{List, []}
use lib.Dec.{T}
use lib.ListN.{take}
use borrow.Author.Tests.{lt-ltb}
use Rattle.agreement.specs.View.{View}
use Rattle.agreement.specs.Blame.{Blamed as MachineBlamed}
use Rattle.table.specs.Tables.{table_of}
use Rattle.state.specs.declared.Entry.{Entry}
use Rattle.state.specs.Layout.{key_limit}
use Rattle.state.specs.Entries.{entry_of, newer}
use Rattle.state.specs.WellFormed.{loaded}
use Rattle.steps.proofs.Steps.{load_accepted}
use Rattle.labs.specs.Lists.{Step, state_after}
use Rattle.theorems.specs.Chains.{Silent}
use Rattle.theorems.specs.Blame.{Blamed, Blame, BlameHolds}
use Rattle.theorems.proofs.Lists.{machine, after_list, view_there, entry_there, turn_propagates, propagates_turn}
use Rattle.theorems.proofs.Contact.{to_view, none_newer}
use Rattle.theorems.proofs.Chains.{not_waiting}

module _ (bytes : List ℕ) (few : (table_of bytes).sizes.stigmergy ≤ key_limit) (xs : List Step) where
  abbrev end : List ℕ
  end = state_after bytes xs

  module _ (a b k : ℕ) (hb : b < (table_of bytes).sizes.agents) (l : k < (table_of bytes).sizes.stigmergy) where
    found : newer (entry_of end a k) (entry_of end b k) ≡ true → Silent end k a → MachineBlamed (machine bytes) (loaded (table_of bytes)) xs k a b
    found n silent =
        (after_list bytes few xs).agreement.blame [] xs refl k a b (to_view bytes (loaded (table_of bytes)) k a b l (none_newer bytes few k a b l))
        (subst (λ (v : View Entry). T (newer (v.entry a) (v.entry b))) (sym (view_there bytes end k l)) (rw n tt))
        (not_waiting bytes end k a l silent)

    in_words : MachineBlamed (machine bytes) (loaded (table_of bytes)) xs k a b → Blamed bytes xs a b k
    in_words w = record {
      index = w.index;
      step = w.step;
      there = w.there;
      propagates = turn_propagates bytes (state_after bytes (take w.index xs)) w.step k a w.propagates;
      not_linked = rw (lt-ltb b (table_of bytes).sizes.agents hb) at w.not_linked;
      last = λ j y h e p. w.last j y h e (propagates_turn bytes (state_after bytes (take j xs)) y k a p);
      unchanged = λ j h i. sym (entry_there bytes (take j xs) k a l) ∙ w.unchanged j h i ∙ entry_there bytes xs k a l;
    }

  pub blame : Blame bytes xs
  blame a b k ha hb l n silent = in_words a b k hb l (found a b k hb l n silent)

pub blame_holds : BlameHolds
blame_holds bytes lent scratch e xs = blame bytes (load_accepted bytes lent scratch e).table.sound.shaped.limits.stigmergy xs
