-- `set_label` meets its contract. Assumes nothing.
use Rattle.table.specs.Fleets.{table_in}
use Rattle.acting.proofs.Sets.{tick_sets}
use Rattle.acting.proofs.setting.set_label.Goals as goal

pub returns-in_default : goal.returns-in_default
returns-in_default c = tick_sets (table_in c.args.fleet.now) c.args.state.now c.args.agent c.args.allowed.label c.in_default.is
