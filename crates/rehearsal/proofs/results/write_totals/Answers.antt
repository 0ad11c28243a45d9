-- `rehearsal::results::write_totals` meets its contract.
-- Assumes nothing.
use Rattle.rehearsal.proofs.Written.{totals_written}
use Rattle.rehearsal.proofs.results.write_totals.Goals as goal

pub returns : goal.returns
returns c =
    let a = c.args in
    totals_written a.totals a.out.now c.write_number.ensures c.write_number-2.ensures c.write_number-3.ensures c.write_number-4.ensures
