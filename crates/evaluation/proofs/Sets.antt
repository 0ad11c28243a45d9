-- Sets of agents for whom a guard is well defined, and for whom it holds.
-- Assumes nothing.
use Prim.Native.Nat.{ℕ}
use mathlib.Core.Bool.{Bool, true, false, not, ◌&&◌, ◌||◌, and-false, and-true, or-false, or_comm}
use mathlib.Core.Path.{◌≡◌, refl, ◌∙◌}
use lib.Dec.{eqb}
use borrow.Author.Tests.{eqb-true}
use Rattle.basis.specs.KeySets.{has, plus, plus_if, minus}
use Rattle.basis.proofs.KeySets.{has_plus_if, has_plus_same, has_minus, has_nothing}
use Rattle.value.specs.declared.Truth.{Truth}
use Rattle.value.specs.Truths.{truth, undefined}
use Rattle.evaluation.specs.declared.AgentSets.{AgentSets}
use Rattle.evaluation.specs.Sets.{Found}

abbrev pub sets : ℕ → ℕ → AgentSets
sets d h = record { defined = d; holding = h }

-- the same is found of what comes to the same
pub found_same : {w : ℕ} {f g : ℕ → Truth} {r : AgentSets} → ((y : ℕ) → f y ≡ g y) → Found w g r → Found w f r
found_same e found = record { defined = λ y. rw (e y) (found.defined y); holding = λ y. rw (e y) (found.holding y) }

-- it is well defined for nobody; it holds for all
module _ {w : ℕ} {f : ℕ → Truth} where
  pub found_none : ((y : ℕ) → f y ≡ undefined) → Found w f (sets 0 0)
  found_none e = record { defined = λ y. rw (e y, and-false (has w y)) (has_nothing y); holding = λ y. rw (e y, and-false (has w y)) (has_nothing y) }

  pub found_all : ((y : ℕ) → f y ≡ truth true true) → Found w f (sets w w)
  found_all e = record { defined = λ y. rw (e y, and-true (has w y)); holding = λ y. rw (e y, and-true (has w y)) }

-- of one agent alone
pub alone : (w y : ℕ) {b : Bool} → w ≡ plus 0 y → (has w y && b) ≡ b
alone w y e = rw (e, has_plus_same 0 y)

-- what is made of two tests, of an agent asked for
pub made : (g : Bool → Bool → Bool) → g false false ≡ false → (asked p q : Bool) {a b r : Bool} → r ≡ g a b → a ≡ (asked && p) → b ≡ (asked && q) → r ≡ (asked && g p q)
made g none true p q is first second = is ∙ rw (first, second)
made g none false p q is first second = is ∙ rw (first, second) none

-- WHAT IS LEFT: of the agents of a set some are left, and what is found is of the others
pub record Left (agents rest : ℕ) (comesTo : ℕ → Truth) (r : AgentSets) : Type 0 where
  pub defined : (y : ℕ) → (has r.defined y || (has rest y && (comesTo y).defined)) ≡ (has agents y && (comesTo y).defined)
  pub holding : (y : ℕ) → (has r.holding y || (has rest y && (comesTo y).holds)) ≡ (has agents y && (comesTo y).holds)

-- one agent more is found
one_more : (f : ℕ → Bool) (w u n y : ℕ) → has w n ≡ true → (has (plus_if u n (f n)) y || (has (minus w n) y && f y)) ≡ (has u y || (has w y && f y))
one_more f w u n y there = rw (has_plus_if u n (f n) y, has_minus w n y) (by (eqb n y) refl)
  where
    by : (b : Bool) → eqb n y ≡ b → (((b && f n) || has u y) || ((not b && has w y) && f y)) ≡ (has u y || (has w y && f y))
    by true e = rw (← eqb-true n y e, there, or-false (f n || has u n)) (or_comm (f n) (has u n))
    by false e = refl

module _ {agents rest : ℕ} {f : ℕ → Truth} where
  pub left_all : rest ≡ agents → Left agents rest f (sets 0 0)
  left_all e = rw e (record { defined = λ y. rw (has_nothing y); holding = λ y. rw (has_nothing y) })

  pub left_more : {r : AgentSets} {others d h : ℕ} (n : ℕ) {t : Truth} → has rest n ≡ true → others ≡ minus rest n → t ≡ f n
      → d ≡ plus_if r.defined n t.defined → h ≡ plus_if r.holding n t.holds → Left agents rest f r → Left agents others f (sets d h)
  left_more {r} n there e is defined holding left =
      rw (defined, holding, is, e)
      (record {
        defined = λ y. one_more (λ z. (f z).defined) rest r.defined n y there ∙ left.defined y;
        holding = λ y. one_more (λ z. (f z).holds) rest r.holding n y there ∙ left.holding y;
      })

  pub left_none : {r : AgentSets} → rest ≡ 0 → Left agents rest f r → Found agents f r
  left_none {r} e left =
      record {
        defined = λ y. rw (e, has_nothing y, or-false (has r.defined y)) at (left.defined y);
        holding = λ y. rw (e, has_nothing y, or-false (has r.holding y)) at (left.holding y);
      }
