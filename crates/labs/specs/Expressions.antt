-- Expressions and guards: Table 2's syntax, read off a table's nodes, and Tables 4 to 6.
use Rattle.std.specs.Prelude.{ℕ, ◌^◌, ◌<◌, ◌≡◌, false, cond, ◌⊎◌, ltb, eqb}
use Rattle.std.proofs.Math.Option.{Option, none, some}
use Rattle.basis.specs.Below.{below}
use Rattle.value.specs.Values.{Value}
use Rattle.std.specs.Prelude.{None, Some}
use Rattle.table.specs.Tables.{Table, kind_at, p_at, q_at, constant_at}
use Rattle.labs.specs.Numbers.{number, Operates, Compares}
use Rattle.labs.specs.Agents.{Entry, Interface, Keys, Agent, ◌∪◌}
use Rattle.labs.specs.Roots.{link_of}

-- e ::= v | x | e ⋄ e. A value is given by its word, an operator and a comparison by its node kind;
-- an attribute and a stigmergy key have a party: 0 in a process, 1 for x_s and 2 for x_r in a link predicate
pub data Expr : Type 0 where
  value : ℕ → Expr
  attribute stigmergy : ℕ → ℕ → Expr
  environment : ℕ → Expr
  operation : ℕ → Expr → Expr → Expr

-- b ::= true | e ⋈ e | ¬ b | b ∧ b | b ∨ b
pub data Guard : Type 0 where
  truly : Guard
  comparison : ℕ → Expr → Expr → Guard
  negation : Guard → Guard
  conjunction disjunction : Guard → Guard → Guard

-- what is evaluated against: E, and the sender's and the receiver's I and L; a process has its own agent for both
pub record Knowledge : Type 0 where
  pub E : Interface
  pub sender : Agent
  pub receiver : Agent

-- value(L, x)
abbrev pub value_in : Option Entry → Value
value_in none = None
value_in (some e) = Some e.value

abbrev pub party : Knowledge → ℕ → Agent
party k q = cond (eqb q 2) k.receiver k.sender

infix 15 E⟦◌⟧◌⇓◌
-- TABLE 4 with section 4.1's environment: `E⟦ e ⟧ k ⇓ v`, e has the value v, given by its word; e is absent where it has none.
-- H⟦·⟧ of links is the same with two agents
abbrev pub E⟦◌⟧◌⇓◌ : Expr → Knowledge → ℕ → Type 0
E⟦ value w ⟧ k ⇓ v = w ≡ v
E⟦ attribute x q ⟧ k ⇓ v = (party k q).I x ≡ Some v
E⟦ stigmergy x q ⟧ k ⇓ v = value_in ((party k q).L x) ≡ Some v
E⟦ environment x ⟧ k ⇓ v = k.E x ≡ Some v
E⟦ operation o e f ⟧ k ⇓ v = (u w : ℕ) × (E⟦ e ⟧ k ⇓ u) × (E⟦ f ⟧ k ⇓ w) × (v < 2 ^ 32) × Operates o (number u) (number w) (number v)

abbrev pub K⟦◌⟧ : Expr → Keys
K⟦◌⟧ (value v) = λ y. false
K⟦◌⟧ (attribute x q) = λ y. false
K⟦◌⟧ (stigmergy x q) = λ y. eqb x y
K⟦◌⟧ (environment x) = λ y. false
K⟦◌⟧ (operation o e f) = K⟦◌⟧ e ∪ K⟦◌⟧ f

abbrev pub K⟦◌⟧ᵇ : Guard → Keys
K⟦◌⟧ᵇ truly = λ y. false
K⟦◌⟧ᵇ (comparison o e f) = K⟦◌⟧ e ∪ K⟦◌⟧ f
K⟦◌⟧ᵇ (negation b) = K⟦◌⟧ᵇ b
K⟦◌⟧ᵇ (conjunction b c) = K⟦◌⟧ᵇ b ∪ K⟦◌⟧ᵇ c
K⟦◌⟧ᵇ (disjunction b c) = K⟦◌⟧ᵇ b ∪ K⟦◌⟧ᵇ c

infix 15 ◌⊢◌
infix 15 ◌⊨◌
-- TABLE 6. The paper: an expression is well defined when not absent (the table looks at its names alone)
abbrev pub ◌⊢◌ : Knowledge → Guard → Type 0
k ⊢ truly = Unit {0}
k ⊢ comparison o e f = (v w : ℕ) × (E⟦ e ⟧ k ⇓ v) × (E⟦ f ⟧ k ⇓ w)
k ⊢ negation b = k ⊢ b
k ⊢ conjunction b c = (k ⊢ b) × (k ⊢ c)
k ⊢ disjunction b c = (k ⊢ b) × (k ⊢ c)

-- TABLE 5. A comparison holds only of two present values, so ⊥ = ⊥ doesn't hold (the table, over the remark in 2.1)
abbrev pub ◌⊨◌ : Knowledge → Guard → Type 0
k ⊨ truly = Unit {0}
k ⊨ comparison o e f = (v w : ℕ) × (E⟦ e ⟧ k ⇓ v) × (E⟦ f ⟧ k ⇓ w) × Compares o (number v) (number w)
k ⊨ negation b = (k ⊢ negation b) × (k ⊨ b → ⊥)
k ⊨ conjunction b c = (k ⊨ b) × (k ⊨ c)
k ⊨ disjunction b c = (k ⊨ b) ⊎ (k ⊨ c)

-- THE NODES of a table. A node of another kind reads as an operation without a result, or as a comparison that never holds;
-- an accepted table names none as an expression or a guard
abbrev pub no_expr : Expr
no_expr = operation 0 (value 0) (value 0)

module _ (t : Table) where
  unfoldable pub expr_step : (ℕ → Expr) → ℕ → Expr
  expr_step expr n =
      cond (eqb (kind_at t n) 32) (value (constant_at t n))
      (cond (eqb (kind_at t n) 33) (attribute (p_at t n) (q_at t n))
      (cond (eqb (kind_at t n) 34) (stigmergy (p_at t n) (q_at t n))
      (cond (eqb (kind_at t n) 35) (environment (p_at t n))
      (operation (kind_at t n) (expr (p_at t n)) (expr (q_at t n))))))

  abbrev pub expr_of : ℕ → Expr
  expr_of n = below expr_step no_expr t.sizes.nodes n

  unfoldable pub guard_step : (ℕ → Guard) → ℕ → Guard
  guard_step guard n =
      cond (eqb (kind_at t n) 16) truly
      (cond (ltb (kind_at t n) 20) (comparison (kind_at t n) (expr_of (p_at t n)) (expr_of (q_at t n)))
      (cond (eqb (kind_at t n) 20) (negation (guard (p_at t n)))
      (cond (eqb (kind_at t n) 21) (conjunction (guard (p_at t n)) (guard (q_at t n)))
      (cond (eqb (kind_at t n) 22) (disjunction (guard (p_at t n)) (guard (q_at t n)))
      (comparison 0 no_expr no_expr)))))

  abbrev pub guard_of : ℕ → Guard
  guard_of n = below guard_step (comparison 0 no_expr no_expr) t.sizes.nodes n

  -- the link predicate of key x
  abbrev pub φ : ℕ → Guard
  φ x = guard_of (link_of t x)
