-- Refusal 5: wrong party, or an environment key in a link.
use Rattle.std.specs.Prelude.{ℕ, Bool, false, not, ◌&&◌, ◌||◌, ltb, leb, eqb}
use Rattle.basis.specs.Numbers.{some_below}
use Rattle.basis.specs.Below.{below}
use Rattle.basis.specs.Kinds as kind
use Rattle.table.specs.Tables.{Table, kind_at, p_at, q_at, first_link_root, first_agent_root}
use Rattle.table.specs.Nodes.{is_process, is_key_kind, left_node, right_node}

-- a key whose party is not 0 where a process node reaches it, or is 0 where a link does; an environment key that a link reaches
abbrev pub wrong_here : ℕ → ℕ → Bool → Bool → Bool
wrong_here k party process link = is_key_kind k && ((process && not (eqb party 0)) || (link && (eqb k kind.environment || eqb party 0)))

module _ (t : Table) where
  -- process nodes, rooted or not; roots of links
  abbrev pub process_node : ℕ → Bool
  process_node n = is_process (kind_at t n)

  abbrev pub link_root : ℕ → Bool
  link_root n = leb (first_link_root t) n && ltb n (first_agent_root t)

  -- node n reaches itself, and what the nodes reach that it names
  unfoldable pub reach_step : (ℕ → ℕ → Bool) → ℕ → ℕ → Bool
  reach_step reach n m = eqb n m || ((left_node t n && reach (p_at t n) m) || (right_node t n && reach (q_at t n) m))

  abbrev pub reaches : ℕ → ℕ → Bool
  reaches n m = below reach_step (λ (m : ℕ). false) t.sizes.nodes n m

  -- m is reached from a node that passes
  unfoldable pub reached_from : (ℕ → Bool) → ℕ → Bool
  reached_from start m = some_below (λ (n : ℕ). start n && reaches n m) t.sizes.nodes

  unfoldable pub wrong_key : ℕ → Bool
  wrong_key n = wrong_here (kind_at t n) (q_at t n) (reached_from process_node n) (reached_from link_root n)
