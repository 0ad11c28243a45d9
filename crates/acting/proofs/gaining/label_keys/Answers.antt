-- `label_keys` meets its contract. Assumes nothing.
use Rattle.table.specs.Fleets.{table_in}
use Rattle.acting.proofs.Gains.{label_expression}
use Rattle.acting.proofs.gaining.label_keys.Goals as goal

pub returns-in-Acting : goal.returns-in-Acting
returns-in-Acting c =
    label_expression (table_in c.args.fleet.now) c.args.label c.in-Acting.is c.q_at.result c.q_at.ensures.is
    c.args.keys c.requires.1 c.keys_read.result c.keys_read.ensures
