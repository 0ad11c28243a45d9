-- Expressions, guards and links over the state's words, by recursion on the falling node number.
use Rattle.std.specs.Prelude.{ℕ, Bool, true, false, cond, ◌&&◌, ◌||◌, List, ltb, eqb}
use Rattle.basis.specs.Below.{below}
use Rattle.basis.specs.Kinds as kind
use Rattle.value.specs.Values.{Value}
use Rattle.std.specs.Prelude.{None, Some}
use Rattle.value.specs.declared.Truth.{Truth}
use Rattle.value.specs.Values.{operate}
use Rattle.value.specs.Truths.{truth, undefined, compare_values, connect}
use Rattle.table.specs.Tables.{Table, kind_at, p_at, q_at, constant_at, link_at}
use Rattle.table.specs.Nodes.{left_node, right_node}
use Rattle.state.specs.declared.Store.TheVariants.{Environment, Attributes, Entries}
use Rattle.state.specs.Layout.{value_in}

-- the agent whom a party names: 2 the receiver, 1 the sender, 0 the agent itself, which is then the sender
abbrev pub party_of : ℕ → ℕ → ℕ → ℕ
party_of sender receiver q = cond (eqb q 2) receiver sender

module _ (t : Table) (s : List ℕ) (sender receiver : ℕ) where
  -- node n's value, from the values of the nodes below it
  unfoldable pub value_step : (ℕ → Value) → ℕ → Value
  value_step value n =
      cond (eqb (kind_at t n) kind.constant) (Some (constant_at t n))
      (cond (eqb (kind_at t n) kind.attribute) (value_in s (Attributes (party_of sender receiver (q_at t n))) (p_at t n))
      (cond (eqb (kind_at t n) kind.stigmergy) (value_in s (Entries (party_of sender receiver (q_at t n))) (p_at t n))
      (cond (eqb (kind_at t n) kind.environment) (value_in s Environment (p_at t n))
      (operate (kind_at t n) (value (p_at t n)) (value (q_at t n))))))

  -- the value of expression n
  abbrev pub value_of : ℕ → Value
  value_of n = below value_step None t.sizes.nodes n

  -- what guard n comes to, from what the guards below it come to
  unfoldable pub truth_step : (ℕ → Truth) → ℕ → Truth
  truth_step guard n =
      cond (eqb (kind_at t n) kind.true) (truth true true)
      (cond (ltb (kind_at t n) kind.not) (compare_values (kind_at t n) (value_of (p_at t n)) (value_of (q_at t n)))
      (connect (kind_at t n) (guard (p_at t n)) (guard (q_at t n))))

  -- guard n holds
  abbrev pub holds : ℕ → Bool
  holds n = (below truth_step undefined t.sizes.nodes n).holds

-- the link of key k holds in s, from a sender to a receiver
abbrev pub link_holds : Table → List ℕ → ℕ → ℕ → ℕ → Bool
link_holds t s k sender receiver = holds t s sender receiver (link_at t k)

module _ (t : Table) where
  -- node n reads stigmergy key k: itself, or a node that it names does
  unfoldable pub reads_step : (ℕ → ℕ → Bool) → ℕ → ℕ → Bool
  reads_step reads n k =
      (eqb (kind_at t n) kind.stigmergy && eqb (p_at t n) k)
      || ((left_node t n && reads (p_at t n) k) || (right_node t n && reads (q_at t n) k))

  abbrev pub reads : ℕ → ℕ → Bool
  reads n k = below reads_step (λ (k : ℕ). false) t.sizes.nodes n k
