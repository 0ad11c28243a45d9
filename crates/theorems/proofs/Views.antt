-- One key of a state seen as a view: each agent's entry, and who has the key in Zp.
-- Assumes nothing.
use Prim.Native.Nat.{ℕ}
use mathlib.Core.Bool.{Bool, cond, ◌&&◌}
use mathlib.Core.Path.{◌≡◌, refl, ap, subst, ◌∙◌}
use mathlib.Core.Logic.{⊎_elim}
use mathlib.Core.List.{List}
use lib.Dec.{eqb, ltb}
use borrow.Author.Tests.{eq-eqb, ne_eqb}
use Rattle.basis.specs.KeySets.{has}
use Rattle.basis.proofs.Tests.{same_or_other}
use Rattle.agreement.specs.View.{View}
use Rattle.agreement.specs.Moves.{Move, quiet, moved}
use Rattle.table.specs.Tables.{Table}
use Rattle.state.specs.declared.Store.TheVariants.{Entries}
use Rattle.state.specs.declared.Entry.{Entry}
use Rattle.state.specs.Layout.{zp_of}
use Rattle.state.specs.Entries.{entry as stored, entry_of, newer}
use Rattle.state.specs.Evaluation.{link_holds}
use Rattle.state.proofs.Places.{Zp, Mark, Word, Writer, Waits}
use Rattle.state.proofs.Frames.{SameAt}

abbrev pub absent : Entry
absent = stored 0 0 0

abbrev pub stamp_in : Entry → ℕ
stamp_in e = e.stamp

-- the view of key k
abbrev pub seen : List ℕ → ℕ → View Entry
seen s k = record { entry = λ a. entry_of s a k; waits = λ a. has (zp_of s a) k }

-- the key's link, to agents that there are
abbrev pub links : Table → List ℕ → ℕ → ℕ → ℕ → Bool
links t s k a b = ltb b t.sizes.agents && link_holds t s k a b

pub same_entry : {v w m n a b : ℕ} → v ≡ w → m ≡ n → a ≡ b → stored v m a ≡ stored w n b
same_entry p q r = λ i. stored (p i) (q i) (r i)

-- agent a's part of key k is as this view has it
pub record Shows (s : List ℕ) (k : ℕ) (v : View Entry) (a : ℕ) : Type 0 where
  pub entry : (seen s k).entry a ≡ v.entry a
  pub waits : (seen s k).waits a ≡ v.waits a

-- words that are the same show the same
pub shows_same : (s u : List ℕ) (k : ℕ) (v : View Entry) (a : ℕ) → SameAt s u (Word (Entries a) k) → SameAt s u (Mark (Entries a) k) → SameAt s u (Writer a k) → SameAt s u (Waits Zp a)
    → Shows u k v a → Shows s k v a
shows_same s u k v a p q r z w = record { entry = same_entry p q r ∙ w.entry; waits = ap (λ (n : ℕ). has n k) z ∙ w.waits }

pub shows_itself : (s : List ℕ) (k a : ℕ) → Shows s k (seen s k) a
shows_itself s k a = record { entry = refl; waits = refl }

-- a move of key k, seen from any key j
pub shows_key : (t : Table) (s u : List ℕ) (k j a : ℕ) (m : Move Entry) → Shows u k (moved newer (links t s k) m (seen s k)) a → ((k ≡ j → ⊥) → Shows u j (seen s j) a)
    → Shows u j (moved newer (links t s j) (cond (eqb k j) m quiet) (seen s j)) a
unfolding moved
shows_key t s u k j a m own other =
    ⊎_elim (λ (e : k ≡ j). rw (eq-eqb k j e) (subst (λ (i : ℕ). Shows u i (moved newer (links t s i) m (seen s i)) a) e own))
    (λ (d : k ≡ j → ⊥). rw (ne_eqb k j d) (other d)) (same_or_other k j)
