-- TABLES 7, 15 AND 16 determine what they give: by one derivation of its process an agent acts in one way.
-- Assumes nothing.
use Prim.Native.Nat.{ℕ, suc}
use mathlib.Core.Path.{◌≡◌, refl, sym, ap, subst, ◌∙◌}
use mathlib.Core.Logic.{⊎_elim}
use Rattle.basis.proofs.Tests.{same_or_other}
use Rattle.std.specs.Prelude.{Some}
use Rattle.table.specs.Tables.{Table}
use Rattle.term.specs.declared.Label.{Label}
use Rattle.term.specs.declared.Label.TheVariants.{Ticking, Acting}
use Rattle.term.specs.Processes.{Derivation}
use Rattle.state.specs.declared.Insertion.{Insertion}
use Rattle.labs.specs.Agents.{⟨◌⸴◌⸴◌⸴◌⸴◌⟩, Agent, Interface, Stigmergy, System, ◌⟦◌≔◌⟧, ◌∪｛◌｝, Inserted}
use Rattle.labs.specs.Expressions.{Expr, E⟦◌⟧◌⇓◌, K⟦◌⟧}
use Rattle.labs.specs.Processes.{attribute, stigmergy, environment, Action, assign, action_of}
use Rattle.labs.specs.Systems.{Settled, Will, ε, ◌▹◌, onward, Wills, SKIP, ATTR, LSTIG, ENV, alone, awaited, Acts, EPSILON, EVAL-I, EVAL-L, EVAL-E, Acted}
use Rattle.labs.specs.Demand2.{Same}
use Rattle.labs.proofs.Moves.{Derivable}
use Rattle.labs.proofs.Expressions.{one_value}
use Rattle.labs.proofs.Actions.{label_keys}
use Rattle.labs.proofs.Passing.{inserted_unique}

-- what an action wills, and what a derivation does
abbrev will_by : Action → Will
will_by (assign x e) = e ▹ x

abbrev expression_in : Action → Expr
expression_in (assign x e) = e

abbrev pub will_of : Table → Label → Will
will_of t Ticking = ε
will_of t (Acting n) = will_by (action_of t n)

module _ {t : Table} {a : Agent} where
  pub wills_will : {d : Derivation} {w : Will} {a' : Agent} → Wills t a d w a' → w ≡ will_of t d.label
  wills_will (SKIP m s) = refl
  wills_will (ATTR m k s) = ap will_by (sym k)
  wills_will (LSTIG m k s) = ap will_by (sym k)
  wills_will (ENV m k s) = ap will_by (sym k)

  -- how the agent would go on
  wills_on : {d : Derivation} {w : Will} {a' : Agent} → Wills t a d w a' → a' ≡ onward a d.leaving (label_keys t d.label)
  wills_on (SKIP m s) = refl
  wills_on (ATTR {P' = P'} m k s) = ap (λ (e : Expr). onward a P' K⟦ e ⟧) (sym (ap expression_in k))
  wills_on (LSTIG {P' = P'} m k s) = ap (λ (e : Expr). onward a P' K⟦ e ⟧) (sym (ap expression_in k))
  wills_on (ENV {P' = P'} m k s) = ap (λ (e : Expr). onward a P' K⟦ e ⟧) (sym (ap expression_in k))

  pub wills_derivable : {d : Derivation} {w : Will} {a' : Agent} → Wills t a d w a' → Derivable t a.P d
  wills_derivable (SKIP m s) = (_, m)
  wills_derivable (ATTR m k s) = (_, m)
  wills_derivable (LSTIG m k s) = (_, m)
  wills_derivable (ENV m k s) = (_, m)

  pub wills_settled : {d : Derivation} {w : Will} {a' : Agent} → Wills t a d w a' → Settled a
  wills_settled (SKIP m s) = s
  wills_settled (ATTR m k s) = s
  wills_settled (LSTIG m k s) = s
  wills_settled (ENV m k s) = s

-- what comes after a will, with the agent that would go on as a'
module _ (t : Table) (E : Interface) (T n : ℕ) (a : Agent) (d : Derivation) where
  abbrev After : Will → Agent → Interface → ℕ → Agent → Type 0
  After ε a' E₁ T₁ b = (E₁ ≡ E) × (T₁ ≡ T) × (b ≡ awaited t a d.guards a')
  After (e ▹ attribute x) a' E₁ T₁ b =
      (v : ℕ) × (E⟦ e ⟧ alone E a ⇓ v) × (E₁ ≡ E) × (T₁ ≡ T) × (b ≡ awaited t a d.guards ⟨ a'.I ⟦ x ≔ Some v ⟧ ⸴ a'.L ⸴ a'.P ⸴ a'.Zc ⸴ a'.Zp ⟩)
  After (e ▹ stigmergy x) a' E₁ T₁ b =
      (v : ℕ) × (rule : Insertion) × (L' : Stigmergy) × (E⟦ e ⟧ alone E a ⇓ v) × Inserted a'.L x (record { value = v; time = suc T; writer = n }) rule L' × (E₁ ≡ E) × (T₁ ≡ suc T)
      × (b ≡ awaited t a d.guards ⟨ a'.I ⸴ L' ⸴ a'.P ⸴ a'.Zc ⸴ a'.Zp ∪｛ x ｝ ⟩)
  After (e ▹ environment x) a' E₁ T₁ b =
      (v : ℕ) × (E⟦ e ⟧ alone E a ⇓ v) × (E₁ ≡ (E ⟦ x ≔ Some v ⟧)) × (T₁ ≡ T) × (b ≡ awaited t a d.guards a')

  abbrev Ends : Interface → ℕ → Agent → Type 0
  Ends E₁ T₁ b = After (will_of t d.label) (onward a d.leaving (label_keys t d.label)) E₁ T₁ b

  ends : {w : Will} {a' : Agent} → Wills t a d w a' → (E₁ : Interface) (T₁ : ℕ) (b : Agent) → After w a' E₁ T₁ b → Ends E₁ T₁ b
  ends {w} {a'} m E₁ T₁ b h =
      subst (λ (u : Will). After u (onward a d.leaving (label_keys t d.label)) E₁ T₁ b) (wills_will m)
      (subst (λ (o : Agent). After w o E₁ T₁ b) (wills_on m) h)

  acts_end : {E₁ : Interface} {T₁ : ℕ} {b : Agent} → Acts t E T n a d E₁ T₁ b → Ends E₁ T₁ b
  acts_end (EPSILON m g) = ends m _ _ _ (refl, refl, refl)
  acts_end (EVAL-I v m g h) = ends m _ _ _ (v, h, refl, refl, refl)
  acts_end (EVAL-L v m g h i) = ends m _ _ _ (v, _, _, h, i, refl, refl, refl)
  acts_end (EVAL-E v m g h) = ends m _ _ _ (v, h, refl, refl, refl)

  after_unique : (w : Will) (a' : Agent) (E₁ E₂ : Interface) (T₁ T₂ : ℕ) (b c : Agent) → After w a' E₁ T₁ b → After w a' E₂ T₂ c → (E₁ ≡ E₂) × (T₁ ≡ T₂) × (b ≡ c)
  after_unique ε a' E₁ E₂ T₁ T₂ b c p q = (p.0 ∙ sym q.0, p.1 ∙ sym q.1, p.2 ∙ sym q.2)
  after_unique (e ▹ attribute x) a' E₁ E₂ T₁ T₂ b c p q =
      let i : p.0 ≡ q.0 = one_value (alone E a) e p.0 q.0 p.1 q.1 in (
        p.2 ∙ sym q.2,
        p.3 ∙ sym q.3,
        p.4 ∙ ap (λ (v : ℕ). awaited t a d.guards ⟨ a'.I ⟦ x ≔ Some v ⟧ ⸴ a'.L ⸴ a'.P ⸴ a'.Zc ⸴ a'.Zp ⟩) i ∙ sym q.4,
      )
  after_unique (e ▹ stigmergy x) a' E₁ E₂ T₁ T₂ b c p q =
      let i : p.0 ≡ q.0 = one_value (alone E a) e p.0 q.0 p.3 q.3 in
      let j : p.2 ≡ q.2 = (inserted_unique p.4 (subst (λ (v : ℕ). Inserted a'.L x (record { value = v; time = suc T; writer = n }) q.1 q.2) (sym i) q.4)).1 in (
        p.5 ∙ sym q.5,
        p.6 ∙ sym q.6,
        p.7 ∙ ap (λ (L : Stigmergy). awaited t a d.guards ⟨ a'.I ⸴ L ⸴ a'.P ⸴ a'.Zc ⸴ a'.Zp ∪｛ x ｝ ⟩) j ∙ sym q.7,
      )
  after_unique (e ▹ environment x) a' E₁ E₂ T₁ T₂ b c p q =
      let i : p.0 ≡ q.0 = one_value (alone E a) e p.0 q.0 p.1 q.1 in (
        p.2 ∙ ap (λ (v : ℕ). E ⟦ x ≔ Some v ⟧) i ∙ sym q.2,
        p.3 ∙ sym q.3,
        p.4 ∙ sym q.4,
      )

  pub acts_unique : {E₁ E₂ : Interface} {T₁ T₂ : ℕ} {b c : Agent} → Acts t E T n a d E₁ T₁ b → Acts t E T n a d E₂ T₂ c → (E₁ ≡ E₂) × (T₁ ≡ T₂) × (b ≡ c)
  acts_unique {E₁} {E₂} {T₁} {T₂} {b} {c} p q =
      after_unique (will_of t d.label) (onward a d.leaving (label_keys t d.label)) E₁ E₂ T₁ T₂ b c (acts_end p) (acts_end q)

-- the same of systems: an agent acts by a derivation in one way
pub acted_unique : {t : Table} {agents x : ℕ} {d : Derivation} {S S' S'' : System} → Acted t agents x d S S' → Acted t agents x d S S'' → Same agents S' S''
acted_unique {t} {agents} {x} {d} {S} {S'} {S''} p q =
    let u = acts_unique t S.E S.clock x (S.agent x) d p.acts q.acts in
    record {
      environment_same = u.0;
      clock_same = u.1;
      agents_same =
          λ y l. ⊎_elim (λ (e : y ≡ x). rw e u.2) (λ (o : y ≡ x → ⊥). p.others y l o ∙ sym (q.others y l o)) (same_or_other y x);
    }

-- and what agrees with a system that it makes is made by it too
pub acted_same : {t : Table} {agents x : ℕ} {d : Derivation} {S S' S'' : System} → Acted t agents x d S S' → Same agents S'' S' → Acted t agents x d S S''
acted_same {t} {agents} {x} {d} {S} {S'} {S''} p q =
    record {
      there = p.there;
      acts =
          subst (λ (E : Interface). Acts t S.E S.clock x (S.agent x) d E S''.clock (S''.agent x)) (sym q.environment_same)
          (subst (λ (T : ℕ). Acts t S.E S.clock x (S.agent x) d S'.E T (S''.agent x)) (sym q.clock_same)
          (subst (λ (a : Agent). Acts t S.E S.clock x (S.agent x) d S'.E S'.clock a) (sym (q.agents_same x p.there)) p.acts));
      others = λ y l o. q.agents_same y l ∙ p.others y l o;
    }
