-- TABLES 4 TO 6: the machine's values and truths of nodes are the document's, of the expressions and guards that the nodes stand for,
-- with the knowledge that the state's words hold.
-- Assumes nothing.
use Prim.Native.Nat.{ℕ, ◌^◌, ◌<◌}
use mathlib.Core.Bool.{Bool, true, false, cond, not, ◌&&◌, ◌||◌}
use mathlib.Core.Path.{◌≡◌, refl, sym, ap, subst, ◌∙◌}
use mathlib.Core.List.{List}
use mathlib.Core.Logic.{◌⊎◌, inl, inr, ⊎_elim, ◌↔◌}
use mathlib.Core.Option.{Option, none, some}
use native.Mathlib.Omega.{arith}
use lib.Dec.{eqb, ltb}
use Rattle.basis.proofs.Below.{below_both}
use Rattle.basis.proofs.Tests.{not_both, and_left, and_right, and_both, or_either, or_left, or_right, cond_both}
use Rattle.value.specs.Values.{Value}
use Rattle.std.specs.Prelude.{None, Some}
use Rattle.value.specs.declared.Truth.{Truth}
use Rattle.value.specs.Values.{signed_of, operate}
use Rattle.value.specs.Truths.{truth, undefined, compare_values}
use Rattle.table.specs.Tables.{Table, kind_at, p_at, q_at, constant_at, link_at}
use Rattle.table.specs.Sound.{Limits}
use Rattle.state.specs.declared.Store.{Store}
use Rattle.state.specs.declared.Store.TheVariants.{Environment, Attributes, Entries}
use Rattle.state.specs.Layout.{key_limit, word_of, stamp_of, writer_of, value_in}
use Rattle.state.specs.Evaluation.{value_step, value_of, truth_step, holds, link_holds}
use Rattle.state.specs.WellFormed.{Words}
use Rattle.state.specs.Walks.{truth_below}
use Rattle.state.proofs.Evaluation.{SmallValue, value_in_small}
use Rattle.labs.specs.Agents.{Entry}
use Rattle.labs.specs.Numbers.{number, Operates}
use Rattle.labs.specs.Expressions.{Expr, value, attribute, stigmergy, environment, operation, Guard, truly, comparison, negation, conjunction, disjunction}
use Rattle.labs.specs.Expressions.{Knowledge, E⟦◌⟧◌⇓◌, ◌⊢◌, ◌⊨◌, no_expr, expr_step, expr_of, guard_step, guard_of, φ, value_in as value_of_entry}
use Rattle.labs.specs.Roots.{link_of}
use Rattle.labs.specs.Systems.{between}
use Rattle.labs.specs.Reading.{entry_of, system_of}
use Rattle.labs.proofs.Numbers.{no_value, number_is, operates_is, compares_is}

-- an agent's entry, as a value
pub entry_value : (s : List ℕ) (a k : ℕ) → value_of_entry (entry_of s a k) ≡ value_in s (Entries a) k
unfolding value_in
entry_value s a k = by (ltb k key_limit) (eqb (stamp_of s a k) 0)
  where
    by : (b c : Bool)
        → value_of_entry (cond b (cond {A = Option Entry} c none (some (record { value = word_of s (Entries a) k; time = stamp_of s a k; writer = writer_of s a k }))) none)
        ≡ cond b (cond c None (Some (word_of s (Entries a) k))) None
    by true true = refl
    by true false = refl
    by false c = refl

-- a test of both, or of one of two, that each say a thing
pub and_says : {A B : Type 0} (a b : Bool) → ((a ≡ true) ↔ A) → ((b ≡ true) ↔ B) → ((a && b) ≡ true) ↔ (A × B)
and_says a b p q = (λ e. (p.0 (and_left a b e), q.0 (and_right a b e)), λ h. and_both a b (p.1 h.0) (q.1 h.1))

or_says : {A B : Type 0} (a b : Bool) → ((a ≡ true) ↔ A) → ((b ≡ true) ↔ B) → ((a || b) ≡ true) ↔ (A ⊎ B)
or_says a b p q = (λ e. ⊎_elim (λ h. inl (p.0 h)) (λ h. inr (q.0 h)) (or_either a b e), ⊎_elim (λ h. or_left a b (p.1 h)) (λ h. or_right a b (q.1 h)))

not_says : {A : Type 0} (a : Bool) → ((a ≡ true) ↔ A) → (not a ≡ true) ↔ (A → ⊥)
not_says true p = (λ e. absurd (not_both e refl), λ f. absurd (f (p.0 refl)))
not_says false p = (λ e h. not_both (p.1 h) refl, λ f. refl)

one_word : {v w : ℕ} → Some v ≡ Some w → v ≡ w
one_word p = cc

-- TABLE 4: an expression has one value
pub one_value : (know : Knowledge) (e : Expr) (v w : ℕ) → E⟦ e ⟧ know ⇓ v → E⟦ e ⟧ know ⇓ w → v ≡ w
one_value know (value u) v w p q = sym p ∙ q
one_value know (attribute x k) v w p q = one_word (sym p ∙ q)
one_value know (stigmergy x k) v w p q = one_word (sym p ∙ q)
one_value know (environment x) v w p q = one_word (sym p ∙ q)
one_value know (operation o e f) v w p q =
    let i : q.0 ≡ p.0 = one_value know e q.0 p.0 q.2 p.2 in
    let j : q.1 ≡ p.1 = one_value know f q.1 p.1 q.3 p.3 in
    let z : Operates o (number p.0) (number p.1) (number w) = rw (i, j) at q.5 in
    one_word (sym ((operates_is (number p.0) (number p.1) v o).1 (p.4, p.5)) ∙ (operates_is (number p.0) (number p.1) w o).1 (q.4, z))

-- a value on words, and an expression of the document: it has the value's word, of 32 bits, and no other
record Evaluates (know : Knowledge) (a : Value) (e : Expr) : Type 0 where
  small : (w : ℕ) → a ≡ Some w → w < 2 ^ 32
  is : (w : ℕ) → (a ≡ Some w) ↔ (E⟦ e ⟧ know ⇓ w)

-- an operation has no value where a part has none, and else what the operation on numbers gives
module _ (know : Knowledge) (kind : ℕ) (e f : Expr) where
  abbrev whole : Expr
  whole = operation kind e f

  evaluates_nothing : ((w : ℕ) → E⟦ whole ⟧ know ⇓ w → ⊥) → Evaluates know None whole
  evaluates_nothing h = record { small = λ w p. absurd (no_value p); is = λ w. (λ p. absurd (no_value p), λ g. absurd (h w g)) }

  evaluates_operation : (a b : Value) → Evaluates know a e → Evaluates know b f → Evaluates know (operate kind a b) whole
  evaluates_operation None b p q = evaluates_nothing (λ w h. no_value ((p.is h.0).1 h.2))
  evaluates_operation (Some u) None p q = evaluates_nothing (λ w h. no_value ((q.is h.1).1 h.3))
  evaluates_operation (Some u) (Some v) p q = record { small = λ w h. (given w h).4; is = λ w. (given w, back w) }
    where
      x : number u ≡ signed_of u
      x = number_is u (p.small u refl)

      y : number v ≡ signed_of v
      y = number_is v (q.small v refl)

      given : (w : ℕ) → operate kind (Some u) (Some v) ≡ Some w → E⟦ whole ⟧ know ⇓ w
      given w h =
          let g = (operates_is (signed_of u) (signed_of v) w kind).0 h in
          (u, v, (p.is u).0 refl, (q.is v).0 refl, g.0, rw (x, y) g.1)

      back : (w : ℕ) → E⟦ whole ⟧ know ⇓ w → operate kind (Some u) (Some v) ≡ Some w
      back w h =
          let i : u ≡ h.0 = one_word ((p.is h.0).1 h.2) in
          let j : v ≡ h.1 = one_word ((q.is h.1).1 h.3) in
          let g : Operates kind (number u) (number v) (number w) = rw (i, j) h.5 in
          (operates_is (signed_of u) (signed_of v) w kind).1 (h.4, rw (x, y) at g)

-- what a guard comes to on words, and for the document
abbrev Agrees : Knowledge → Truth → Guard → Type 0
Agrees know a b = ((a.defined ≡ true) ↔ (know ⊢ b)) × ((a.holds ≡ true) ↔ (know ⊨ b))

-- TABLES 5 AND 6, a clause each
module _ (know : Knowledge) where
  agrees_truly : Agrees know (truth true true) truly
  agrees_truly = ((λ e. tt, λ h. refl), (λ e. tt, λ h. refl))

  -- one that is not well defined
  never : (b : Guard) → (know ⊢ b → ⊥) → (know ⊨ b → ⊥) → Agrees know undefined b
  never b f g = ((λ e. absurd (not_both e refl), λ h. absurd (f h)), (λ e. absurd (not_both e refl), λ h. absurd (g h)))

  agrees_comparison : (kind : ℕ) (a b : Value) (e f : Expr) → Evaluates know a e → Evaluates know b f → Agrees know (compare_values kind a b) (comparison kind e f)
  agrees_comparison kind None b e f p q = never (comparison kind e f) (λ h. no_value ((p.is h.0).1 h.2)) (λ h. no_value ((p.is h.0).1 h.2))
  agrees_comparison kind (Some v) None e f p q = never (comparison kind e f) (λ h. no_value ((q.is h.1).1 h.3)) (λ h. no_value ((q.is h.1).1 h.3))
  agrees_comparison kind (Some v) (Some w) e f p q =
      let c = compares_is kind v w (p.small v refl) (q.small w refl) in (
        (λ z. (v, w, (p.is v).0 refl, (q.is w).0 refl), λ h. refl),
        (
          λ z. (v, w, (p.is v).0 refl, (q.is w).0 refl, c.0 z),
          λ h. let i : v ≡ h.0 = one_word ((p.is h.0).1 h.2) in
              let j : w ≡ h.1 = one_word ((q.is h.1).1 h.3) in
              c.1 (rw (i, j) h.4),
        ),
      )

  module _ (a : Truth) (b : Guard) (p : Agrees know a b) where
    agrees_negation : Agrees know (truth a.defined (a.defined && not a.holds)) (negation b)
    agrees_negation = (p.0, and_says a.defined (not a.holds) p.0 (not_says a.holds p.1))

    module _ (c : Truth) (d : Guard) (q : Agrees know c d) where
      agrees_conjunction : Agrees know (truth (a.defined && c.defined) (a.holds && c.holds)) (conjunction b d)
      agrees_conjunction = (and_says a.defined c.defined p.0 q.0, and_says a.holds c.holds p.1 q.1)

      agrees_disjunction : Agrees know (truth (a.defined && c.defined) (a.holds || c.holds)) (disjunction b d)
      agrees_disjunction = (and_says a.defined c.defined p.0 q.0, or_says a.holds c.holds p.1 q.1)

evaluates_constant : (know : Knowledge) (v : ℕ) → v < 2 ^ 32 → Evaluates know (Some v) (value v)
evaluates_constant know v l = record { small = λ w p. subst (λ (o : ℕ). o < 2 ^ 32) (one_word p) l; is = λ w. (one_word, λ p. ap Some p) }

-- a node that is no expression
evaluates_none : (know : Knowledge) → Evaluates know None no_expr
evaluates_none know =
    let zeros = evaluates_constant know 0 (omega arith) in
    evaluates_operation know 0 (value 0) (value 0) (Some 0) (Some 0) zeros zeros

-- constants and words of 32 bits
pub record Narrow (t : Table) (s : List ℕ) : Type 0 where
  pub constants : (n : ℕ) → constant_at t n < 2 ^ 32
  pub words : Words s

module _ (t : Table) (s : List ℕ) (narrow : Narrow t s) (x y : ℕ) where
  abbrev know : Knowledge
  know = between (system_of s) x y

  -- TABLE 4
  expression_evaluates : (n : ℕ) → Evaluates know (value_of t s x y n) (expr_of t n)
  unfolding expr_step value_step
  expression_evaluates n =
      below_both R (evaluates_none know)
      (λ l m h k.
      cond_both R (eqb (kind_at t k) 32) (evaluates_constant know (constant_at t k) (narrow.constants k))
      (cond_both R (eqb (kind_at t k) 33) (attributes (p_at t k) (q_at t k) (eqb (q_at t k) 2) refl)
      (cond_both R (eqb (kind_at t k) 34) (entries (p_at t k) (q_at t k) (eqb (q_at t k) 2) refl)
      (cond_both R (eqb (kind_at t k) 35) (stored Environment (p_at t k) (environment (p_at t k)) (λ w. refl))
      (evaluates_operation know (kind_at t k) (m (p_at t k)) (m (q_at t k)) (l (p_at t k)) (l (q_at t k)) (h (p_at t k)) (h (q_at t k)))))))
      t.sizes.nodes n
    where
      R : Value → Expr → Type 0
      R v e = Evaluates know v e

      -- a key's value, where the expression is defined by it
      stored : (store : Store) (p : ℕ) (e : Expr) → ((w : ℕ) → (E⟦ e ⟧ know ⇓ w) ≡ (value_in s store p ≡ Some w)) → Evaluates know (value_in s store p) e
      stored store p e h = record {
        small = λ w i. subst SmallValue i (value_in_small s narrow.words store p);
        is = λ w. (λ i. subst (λ (T : Type 0). T) (sym (h w)) i, λ i. subst (λ (T : Type 0). T) (h w) i);
      }

      attributes : (p q : ℕ) (b : Bool) → eqb q 2 ≡ b → Evaluates know (value_in s (Attributes (cond b y x)) p) (attribute p q)
      attributes p q true e = stored (Attributes y) p (attribute p q) (λ w. rw e)
      attributes p q false e = stored (Attributes x) p (attribute p q) (λ w. rw e)

      entries : (p q : ℕ) (b : Bool) → eqb q 2 ≡ b → Evaluates know (value_in s (Entries (cond b y x)) p) (stigmergy p q)
      entries p q true e = stored (Entries y) p (stigmergy p q) (λ w. rw (e, entry_value s y p))
      entries p q false e = stored (Entries x) p (stigmergy p q) (λ w. rw (e, entry_value s x p))

  pub expression_value : (n v : ℕ) → (value_of t s x y n ≡ Some v) ↔ (E⟦ expr_of t n ⟧ know ⇓ v)
  expression_value n v = (expression_evaluates n).is v

  -- TABLES 5 AND 6
  guard_agrees : (n : ℕ) → Agrees know (truth_below t s x y t.sizes.nodes n) (guard_of t n)
  unfolding truth_step guard_step
  guard_agrees n = below_both R none step t.sizes.nodes n
    where
      R : Truth → Guard → Type 0
      R a b = Agrees know a b

      none : R undefined (comparison 0 no_expr no_expr)
      none = agrees_comparison know 0 None None no_expr no_expr (evaluates_none know) (evaluates_none know)

      step : (l : ℕ → Truth) (m : ℕ → Guard) → ((k : ℕ) → R (l k) (m k)) → (k : ℕ) → R (truth_step t s x y l k) (guard_step t m k)
      step l m h k =
          let p = p_at t k in
          let q = q_at t k in
          cond_both R (eqb (kind_at t k) 16) (agrees_truly know)
          (cond_both R (ltb (kind_at t k) 20)
          (agrees_comparison know (kind_at t k) (value_of t s x y p) (value_of t s x y q) (expr_of t p) (expr_of t q) (expression_evaluates p) (expression_evaluates q))
          (cond_both R (eqb (kind_at t k) 20) (agrees_negation know (l p) (m p) (h p))
          (cond_both R (eqb (kind_at t k) 21) (agrees_conjunction know (l p) (m p) (h p) (l q) (m q) (h q))
          (cond_both R (eqb (kind_at t k) 22) (agrees_disjunction know (l p) (m p) (h p) (l q) (m q) (h q)) none))))

  pub guard_holds : (n : ℕ) → (holds t s x y n ≡ true) ↔ (know ⊨ guard_of t n)
  guard_holds n = (guard_agrees n).1

  -- the roots of links, by the paper's arithmetic and by the table's
  link_root_lem : Limits t.sizes → (k : ℕ) → link_at t k ≡ link_of t k
  link_root_lem limits k = ap (λ (n : ℕ). p_at t n) (omega (arith, limits.roots))

  pub link_holds_lem : Limits t.sizes → (k : ℕ) → (link_holds t s k x y ≡ true) ↔ (know ⊨ φ t k)
  link_holds_lem limits k = subst (λ (n : ℕ). (link_holds t s k x y ≡ true) ↔ (know ⊨ guard_of t n)) (link_root_lem limits k) (guard_holds (link_at t k))
