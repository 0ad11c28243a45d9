-- The key that an action sets, as code sets it.
-- Assumes nothing.
use Prim.Native.Nat.{ℕ, zero, suc, ◌≤◌}
use mathlib.Core.Path.{◌≡◌, refl, sym, ap, ◌∙◌}
use mathlib.Core.List.{List}
use native.Mathlib.Omega.{arith}
use Rattle.term.specs.declared.Label.{Label}
use Rattle.term.specs.declared.Label.TheVariants.{Ticking, Acting}
use Rattle.term.specs.Accepted.{ActionNode}
use Rattle.basis.specs.Kinds as kinds
use Rattle.table.specs.Tables.{Table, kind_at, p_at}
use Rattle.state.specs.declared.Store.TheVariants.{Environment, Attributes, Entries}
use Rattle.state.specs.Layout.{put}
use Rattle.steps.specs.Acts.{store_of, entered, set_key}
use Rattle.steps.proofs.Acts.{store_attribute, store_environment, set_tick, set_entry, set_value}
use Rattle.acting.specs.Acting.{Setting}

-- the store that an action sets, by its kind
module _ (t : Table) (x n : ℕ) (action : ActionNode t n) where
  pub stored_environment : (kind_at t n ≡ kinds.set_attribute → ⊥) → (kind_at t n ≡ kinds.set_stigmergy → ⊥) → Environment ≡ store_of t x n
  stored_environment d e = sym (store_environment t x n (omega (arith, action.1, action.2)))

  pub stored_entry : (y : ℕ) → store_of t x n ≡ Entries y → kind_at t n ≡ kinds.set_stigmergy
  stored_entry y e = by (kind_at t n) refl action.1 action.2
    where
      by : (k : ℕ) → kind_at t n ≡ k → kinds.set_attribute ≤ k → k ≤ kinds.set_environment → kind_at t n ≡ kinds.set_stigmergy
      by zero f l m = absurd (omega arith)
      by (suc zero) f l m = absurd (omega arith)
      by (suc (suc zero)) f l m = let g : Attributes x ≡ Entries y = sym (store_attribute t x n f) ∙ e in cc
      by (suc (suc (suc zero))) f l m = f
      by (suc (suc (suc (suc zero)))) f l m = let g : Environment ≡ Entries y = sym (store_environment t x n f) ∙ e in cc
      by (suc (suc (suc (suc (suc k))))) f l m = absurd (omega arith)

module _ (t : Table) (s : List ℕ) (x n v : ℕ) (a : Setting t s x n v) (k : ℕ) (key : k ≡ p_at t n) (out : List ℕ) where
  pub entered_is : kind_at t n ≡ kinds.set_stigmergy → out ≡ entered s x k v → out ≡ set_key t s x (Acting n)
  entered_is e o = o ∙ rw (set_entry t s x n e, key, a.value)

  pub stored_is : (kind_at t n ≡ kinds.set_stigmergy → ⊥) → out ≡ put (store_of t x n) k v 1 s → out ≡ set_key t s x (Acting n)
  stored_is d o = o ∙ rw (set_value t s x n d, key, a.value)

-- what an act does
module _ (t : Table) (s : List ℕ) (x : ℕ) (label : Label) where
  pub tick_sets : label ≡ Ticking → s ≡ set_key t s x label
  tick_sets e = sym (ap (λ (d : Label). set_key t s x d) e ∙ set_tick t s x)
