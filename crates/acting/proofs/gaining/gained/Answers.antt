-- `gained` meets its contract. Assumes nothing.
use Rattle.std.proofs.Common.{◌∙◌}
use Rattle.table.specs.Fleets.{table_in}
use Rattle.acting.proofs.Gains.{gains}
use Rattle.acting.proofs.gaining.gained.Goals as goal

pub returns : goal.returns
returns c =
    λ d e f. c.with_entry.ensures ∙ gains (table_in c.args.fleet.now) c.args.state.now c.args.agent c.args.allowed c.label_keys-keys.result c.label_keys-keys.ensures d e f
