-- `store_set` meets its contract. Assumes nothing.
use Rattle.std.proofs.Common.{◌≡◌, sym}
use Rattle.basis.specs.NodeKinds.{number_of}
use Rattle.basis.specs.declared.node_kinds.NodeKind.{NodeKind}
use Rattle.basis.specs.declared.node_kinds.NodeKind.TheVariants.{SetAttribute, SetStigmergy}
use Rattle.table.specs.Tables.{kind_at}
use Rattle.table.specs.Fleets.{table_in}
use Rattle.acting.proofs.Sets.{stored_environment}
use Rattle.acting.proofs.setting.store_set.Goals as goal

pub returns-in_default-2 : goal.returns-in_default-2
returns-in_default-2 c =
    let none : (k : NodeKind) → number_of k ≡ kind_at (table_in c.args.fleet.now) c.args.node → ⊥ = rw c.in_default.is at c.node_kind.ensures in
    stored_environment (table_in c.args.fleet.now) c.args.agent c.args.node c.requires (λ e. none SetAttribute (sym e)) (λ e. none SetStigmergy (sym e))
