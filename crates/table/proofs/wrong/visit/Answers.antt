-- `table::wrong::visit` meets its contract.
-- Assumes nothing.
use native.Mathlib.Omega.{arith}
use mathlib.Core.Path.{ap₂, ◌∙◌}
use Rattle.std.specs.Bool.{then_some}
use Rattle.table.specs.Fleets.{table_in}
use Rattle.table.specs.Marks.{Looked}
use Rattle.table.proofs.Marking.{marks_found, marks_left, marks_right}
use Rattle.table.proofs.Spreading.{process_told, link_told, wrong_told, above_more}
use Rattle.table.proofs.wrong.visit.Goals as goal
use Rattle.table.proofs.wrong.visit.Goals.{After-then_some-2}

-- what the node's word and operands tell
found : (c : After-then_some-2)
    → Looked (table_in c.args.fleet.now) c.args.node (record { left = c.then_some.result; right = c.then_some-2.result })
found c =
    let a = c.requires in
    let i = c.args.node in
    record {
      fit = a.fit i a.inside;
      left = c.then_some.ensures ∙ ap₂ then_some (c.has-3.ensures ∙ a.above.left i a.inside) c.p_at-p.ensures.is;
      right = c.then_some-2.ensures ∙ ap₂ then_some (c.has-4.ensures ∙ a.above.right i a.inside) c.q_at-q.ensures.is;
    }

pub mark_both-requires-clause-left : goal.mark_both-requires-clause-left
mark_both-requires-clause-left c =
    marks_left (table_in c.args.fleet.now) (found (goal.at.mark_both-requires-clause-left c).After-then_some-2) (omega arith)

pub mark_both-requires-clause-right : goal.mark_both-requires-clause-right
mark_both-requires-clause-right c =
    marks_right (table_in c.args.fleet.now) (found (goal.at.mark_both-requires-clause-right c).After-then_some-2) (omega arith)

pub returns : goal.returns
returns c =
    let t = table_in c.args.fleet.now in
    let process = c.has.ensures in
    let link = c.has-2.ensures in
    let r = c.requires in
    record {
      is = c.wrong_here.ensures ∙ rw c.kind_at.ensures (wrong_told t r.fit r.inside r.above c.q_at-q.ensures.is process link);
      above =
          above_more t r.fit r.inside r.above r.long
          (marks_found t (found (goal.at.returns c).After-then_some-2) _ _ (process ∙ process_told t r.fit r.inside r.above)
          (link ∙ link_told t r.fit r.inside r.above) c.mark_both.ensures);
    }
