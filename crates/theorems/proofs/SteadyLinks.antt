-- A link that holds after load, where there are no values, reads none that counts: it holds in every state, between all agents.
-- Assumes nothing.
use Prim.Native.Nat.{ℕ}
use mathlib.Core.Bool.{Bool, true, false, cond, not, ◌&&◌, ◌||◌}
use mathlib.Core.Path.{◌≡◌, refl, sym, ap, subst, ◌∙◌}
use mathlib.Core.Logic.{⊎_elim}
use mathlib.Core.List.{List}
use native.Mathlib.Omega.{arith}
use lib.Dec.{eqb, ltb}
use Rattle.basis.specs.Below.{below}
use Rattle.basis.specs.Kinds as kind
use Rattle.basis.proofs.Below.{below_both}
use Rattle.basis.proofs.Tests.{not_both, and_left, and_right, and_both, or_either, or_left, or_right}
use Rattle.value.specs.Values.{Value}
use Rattle.std.specs.Prelude.{None, Some}
use Rattle.value.specs.declared.Truth.{Truth}
use Rattle.value.specs.Values.{operate}
use Rattle.value.specs.Truths.{truth, undefined, compare_values, connect}
use Rattle.table.specs.Tables.{Table, table_of, kind_at, p_at, q_at, link_at}
use Rattle.state.specs.declared.Store.{Store}
use Rattle.state.specs.declared.Store.TheVariants.{Environment, Attributes, Entries}
use Rattle.state.specs.Layout.{value_in}
use Rattle.state.specs.Evaluation.{party_of, value_step, value_of, truth_step}
use Rattle.state.specs.WellFormed.{loaded}
use Rattle.state.proofs.Load.{loaded_value}
use Rattle.theorems.specs.Contact.{SteadyLinks}

absent_not : {x : ℕ} → None ≡ Some x → ⊥
absent_not e = let z : ◌≡◌ {A = ℕ} 0 1 = cc in omega arith

-- what a test chooses is related where both cases are
pick : {A : Type 0} (R : A → A → Type 0) (b : Bool) {v w v' w' : A} → R v v' → R w w' → R (cond b v w) (cond b v' w')
pick R true p q = p
pick R false p q = q

-- a value that is present stays
abbrev Stays : Value → Value → Type 0
Stays v w = (x : ℕ) → v ≡ Some x → w ≡ Some x

operate_stays : (k : ℕ) (v w v' w' : Value) → Stays v v' → Stays w w' → Stays (operate k v w) (operate k v' w')
operate_stays k None w v' w' p q x e = absurd (absent_not e)
operate_stays k (Some a) None v' w' p q x e = absurd (absent_not e)
operate_stays k (Some a) (Some b) v' w' p q x e = rw (p a refl, q b refl) e

-- what holds stays so, and what is well defined stays the same
abbrev Remains : Truth → Truth → Type 0
Remains g h = (g.holds ≡ true → h.holds ≡ true) × (g.defined ≡ true → g ≡ h)

same_remains : (g : Truth) → Remains g g
same_remains g = (λ e. e, λ e. refl)

undefined_remains : (g : Truth) → Remains undefined g
undefined_remains g = (λ e. absurd (not_both e refl), λ e. absurd (not_both e refl))

compare_remains : (k : ℕ) (v w v' w' : Value) → Stays v v' → Stays w w' → Remains (compare_values k v w) (compare_values k v' w')
compare_remains k None w v' w' p q = undefined_remains _
compare_remains k (Some a) None v' w' p q = undefined_remains _
compare_remains k (Some a) (Some b) v' w' p q = rw (p a refl, q b refl) (same_remains _)

connect_remains : (k : ℕ) (g h g' h' : Truth) → Remains g g' → Remains h h' → Remains (connect k g h) (connect k g' h')
connect_remains k g h g' h' p q =
    pick Remains (eqb k kind.not) negated
    (pick Remains (eqb k kind.and) (
      λ e. and_both g'.holds h'.holds (p.0 (and_left g.holds h.holds e)) (q.0 (and_right g.holds h.holds e)),
      both (λ g h. truth (g.defined && h.defined) (g.holds && h.holds)),
    )
    (pick Remains (eqb k kind.or) (
      λ e. ⊎_elim (λ d. or_left g'.holds h'.holds (p.0 d)) (λ d. or_right g'.holds h'.holds (q.0 d)) (or_either g.holds h.holds e),
      both (λ g h. truth (g.defined && h.defined) (g.holds || h.holds)),
    )
    (undefined_remains _)))
  where
    negated : Remains (truth g.defined (g.defined && not g.holds)) (truth g'.defined (g'.defined && not g'.holds))
    negated = (
      λ e. subst (λ (z : Truth). (z.defined && not z.holds) ≡ true) (p.1 (and_left g.defined (not g.holds) e)) e,
      λ e. ap (λ (z : Truth). truth z.defined (z.defined && not z.holds)) (p.1 e),
    )

    both : (f : Truth → Truth → Truth) → (g.defined && h.defined) ≡ true → f g h ≡ f g' h'
    both f e = ap (λ (z : Truth). f z h) (p.1 (and_left g.defined h.defined e)) ∙ ap (λ (z : Truth). f g' z) (q.1 (and_right g.defined h.defined e))

-- of two agents after load, and of any two in any state
module _ (t : Table) (s : List ℕ) (a b c d : ℕ) where
  none_there : (store : Store) (k : ℕ) (v : Value) → Stays (value_in (loaded t) store k) v
  none_there store k v x e = absurd (absent_not (sym (loaded_value t store k) ∙ e))

  value_step_lem : (l m : ℕ → Value) → ((n : ℕ) → Stays (l n) (m n)) → (n : ℕ) → Stays (value_step t (loaded t) a b l n) (value_step t s c d m n)
  unfolding value_step
  value_step_lem l m r n =
      pick Stays (eqb (kind_at t n) kind.constant) (λ x e. e)
      (pick Stays (eqb (kind_at t n) kind.attribute) (none_there (Attributes (party_of a b (q_at t n))) (p_at t n) _)
      (pick Stays (eqb (kind_at t n) kind.stigmergy) (none_there (Entries (party_of a b (q_at t n))) (p_at t n) _)
      (pick Stays (eqb (kind_at t n) kind.environment) (none_there Environment (p_at t n) _)
      (operate_stays (kind_at t n) (l (p_at t n)) (l (q_at t n)) (m (p_at t n)) (m (q_at t n)) (r (p_at t n)) (r (q_at t n))))))

  values : (n : ℕ) → Stays (value_of t (loaded t) a b n) (value_of t s c d n)
  values n = below_both Stays (λ x e. e) value_step_lem t.sizes.nodes n

  truth_step_lem : (l m : ℕ → Truth) → ((n : ℕ) → Remains (l n) (m n)) → (n : ℕ) → Remains (truth_step t (loaded t) a b l n) (truth_step t s c d m n)
  unfolding truth_step
  truth_step_lem l m r n =
      pick Remains (eqb (kind_at t n) kind.true) (same_remains _)
      (pick Remains (ltb (kind_at t n) kind.not) (compare_remains (kind_at t n) _ _ _ _ (values (p_at t n)) (values (q_at t n)))
      (connect_remains (kind_at t n) (l (p_at t n)) (l (q_at t n)) (m (p_at t n)) (m (q_at t n)) (r (p_at t n)) (r (q_at t n))))

  guards : (n : ℕ) → Remains (below (truth_step t (loaded t) a b) undefined t.sizes.nodes n) (below (truth_step t s c d) undefined t.sizes.nodes n)
  guards n = below_both Remains (same_remains undefined) truth_step_lem t.sizes.nodes n

pub steady_links : SteadyLinks
steady_links bytes x xs k a b held s c d = (guards (table_of bytes) s a b c d (link_at (table_of bytes) k)).0 held.0
