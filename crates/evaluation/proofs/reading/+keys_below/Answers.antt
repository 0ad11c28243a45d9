-- `evaluation::reading::keys_below` meets its contract. The measure is the limit: a call's limit is the node, which is below it.
-- Assumes nothing.
use Prim.Native.Nat.{ℕ}
use mathlib.Core.Bool.{◌&&◌}
use mathlib.Core.Path.{sym, ap, ◌∙◌}
use Rattle.table.specs.declared.Fields.{Fields}
use Rattle.table.specs.Tables.{p_at}
use Rattle.table.specs.Fleets.{table_in}
use Rattle.table.specs.Nodes.{is_node, left_node}
use Rattle.evaluation.specs.Reading.{Adds, reads_below}
use Rattle.evaluation.proofs.Adding.{adds_made, adds_unmade, reads_none, reads_parts}
use Rattle.evaluation.proofs.reading.+keys_below.Goals as goal
use Rattle.evaluation.proofs.reading.+keys_below.Goals.{Joined-is_node, then-is_node, else-is_node}

-- the left part's keys, where p is a node
left : (t : ℕ) → (c : Joined-is_node t)
    → Adds
    (λ (k : ℕ). left_node (table_in c.args.fleet.now) c.args.node && reads_below (table_in c.args.fleet.now) c.args.node (p_at (table_in c.args.fleet.now) c.args.node) k)
    c.own_key-found.result c.if-is_node.found
left t c =
    let on = ap (λ (f : Fields). is_node f.p) (sym c.fields_at-fields.ensures) ∙ sym c.is_node.ensures in
    elim c.if-is_node.branch [
      | then-is_node w ↦ rw w.found-is (adds_made (on ∙ w.if-is_node.true) (rw (← w.p_at.ensures.is) w.keys_below-found.ensures))
      | else-is_node w ↦ rw w.found-is (adds_unmade _ (on ∙ w.if-is_node.false))
    ]

pub returns-then-limit-node : goal.returns-then-limit-node
returns-then-limit-node t c = reads_none _ _ _ _ c.if-limit-node.true

pub returns-then-is_node-2 : goal.returns-then-is_node-2
returns-then-is_node-2 t c =
    let on = ap (λ (f : Fields). is_node f.q) (sym c.fields_at-fields.ensures) ∙ sym c.is_node-2.ensures in
    reads_parts _ _ _ c.if-limit-node.false c.own_key-found.ensures (left t (goal.at.returns-then-is_node-2 t c).Joined-is_node)
    (adds_made (on ∙ c.if-is_node-2.true) (rw (← c.q_at.ensures.is) c.keys_below-found-then-is_node-2.ensures))

pub returns-else-is_node-2 : goal.returns-else-is_node-2
returns-else-is_node-2 t c =
    let on = ap (λ (f : Fields). is_node f.q) (sym c.fields_at-fields.ensures) ∙ sym c.is_node-2.ensures in
    reads_parts _ _ _ c.if-limit-node.false c.own_key-found.ensures (left t (goal.at.returns-else-is_node-2 t c).Joined-is_node) (adds_unmade _ (on ∙ c.if-is_node-2.false))
