-- `value_below` meets its contract: what no arm names is an operation.
-- Assumes nothing.
use Prim.Native.Nat.{ℕ, ◌<◌}
use mathlib.Core.Path.{◌≡◌, sym}
use borrow.Author.Tests.{ne_eqb}
use Rattle.std.proofs.Common.{rules, List}
use Rattle.basis.specs.NodeKinds.{number_of}
use Rattle.basis.specs.declared.node_kinds.NodeKind.{NodeKind}
use Rattle.basis.specs.declared.node_kinds.NodeKind.TheVariants.{Constant, Attribute, Stigmergy, Environment}
use Rattle.value.specs.Values.{operate}
use Rattle.table.specs.Tables.{Table, kind_at, p_at, q_at}
use Rattle.table.specs.Fleets.{table_in}
use Rattle.state.specs.Evaluation.{value_step}
use Rattle.state.specs.Walks.{value_below}
use Rattle.evaluation.proofs.Steps.{value_at_lem}
use Rattle.evaluation.proofs.senders.Sender.+value_below.Goals as goal
use Rattle.evaluation.proofs.senders.Sender.+value_below.Goals.{in_default-via-in-Ok+in_default, in_default-via-in_default}

operation : (t : Table) (s : List ℕ) (x y limit n : ℕ) → n < limit
    → (kind_at t n ≡ 32 → ⊥) → (kind_at t n ≡ 33 → ⊥) → (kind_at t n ≡ 34 → ⊥) → (kind_at t n ≡ 35 → ⊥)
    → value_below t s x y limit n ≡ operate (kind_at t n) (value_below t s x y n (p_at t n)) (value_below t s x y n (q_at t n))
unfolding value_step
operation t s x y limit n h c a e g =
    rw (value_at_lem t s x y limit n h, ne_eqb _ _ c, ne_eqb _ _ a, ne_eqb _ _ e, ne_eqb _ _ g)

-- what code answers there
found : (t : ℕ) (c : goal.After-operate t) → let a = c.args in let tb = table_in a.self.now.fleet in let k = kind_at tb a.node in
    (k ≡ 32 → ⊥) → (k ≡ 33 → ⊥) → (k ≡ 34 → ⊥) → (k ≡ 35 → ⊥)
    → c.operate.result ≡ value_below tb a.self.now.state.now a.self.now.agent a.receiver a.limit a.node
found t c n32 n33 n34 n35 =
    rw (
      operation (table_in c.args.self.now.fleet) c.args.self.now.state.now c.args.self.now.agent c.args.receiver c.args.limit c.args.node c.if-limit-node.false n32 n33 n34 n35,
      ← c.kind_at.ensures,
      ← c.p_at-p.ensures.is,
      ← c.q_at-q.ensures.is,
      ← c.value_below-a.ensures,
      ← c.value_below-b.ensures,
    )
    c.operate.ensures

pub returns-in_default : goal.returns-in_default
returns-in_default t c =
    let k = kind_at (table_in c.args.self.now.fleet) c.args.node in
    elim c.in_default.branch [
      | in_default-via-in-Ok+in_default w ↦
          let n32 : k ≡ 32 → ⊥ = search rules in
          let n33 : k ≡ 33 → ⊥ = search rules in
          let n34 : k ≡ 34 → ⊥ = search rules in
          let n35 : k ≡ 35 → ⊥ = search rules in
          found t c n32 n33 n34 n35
      | in_default-via-in_default w ↦
          let none : (j : NodeKind) → number_of j ≡ k → ⊥ = rw w.in_default.is at c.node_kind.ensures in
          found t c (λ e. none Constant (sym e)) (λ e. none Attribute (sym e)) (λ e. none Stigmergy (sym e)) (λ e. none Environment (sym e))
    ]
