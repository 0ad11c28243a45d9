-- `table::header::measure` meets its contract.
-- Assumes nothing.
use native.Mathlib.Omega.{arith}
use mathlib.Core.Path.{sym, ◌∙◌}
use Rattle.table.proofs.Limits.{lent_table, lent_shape}
use Rattle.table.proofs.Measuring.{measure_1, measure_2, measure_3, measure_fine}
use Rattle.table.proofs.header.measure.Goals as goal

pub returns-then-table-lt-HEADER_BYTES : goal.returns-then-table-lt-HEADER_BYTES
returns-then-table-lt-HEADER_BYTES c = measure_1 _ c.if-table-lt-HEADER_BYTES.true

pub returns-then-not-within : goal.returns-then-not-within
returns-then-not-within c = measure_2 _ _ c.header-sizes.ensures.is (omega arith) (sym c.within.ensures ∙ c.if-not-within.true)

pub returns-then-table-sizes : goal.returns-then-table-sizes
returns-then-table-sizes c =
    measure_3 _ _ c.header-sizes.ensures.is (omega arith)
    (sym c.within.ensures ∙ c.if-not-within.false) c.if-table-sizes.true

pub invariant_of-result : goal.invariant_of-result
invariant_of-result c =
    record { shaped = lent_shape _ _ c.header-sizes.ensures.is (sym c.within.ensures ∙ c.if-not-within.false) c.if-table-sizes.false }

pub returns : goal.returns
returns c =
    let e = c.header-sizes.ensures.is in
    measure_fine _ _ e (omega arith) (sym c.within.ensures ∙ c.if-not-within.false) c.if-table-sizes.false _
    (lent_table c.args.table.now _ e)
