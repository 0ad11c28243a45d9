-- `accept::calls::lowest_overfull` meets its contract.
-- Assumes nothing.
use Prim.Native.Nat.{◌<◌}
use native.Mathlib.Omega.{arith}
use borrow.Author.Count.{below_more}
use Rattle.table.specs.Tables.{first_root}
use Rattle.table.specs.Fleets.{table_in}
use Rattle.accept.proofs.Fullness.{overfull_yes, overfull_no, full_found, none_full}
use Rattle.accept.proofs.calls.lowest_overfull.Goals as goal

pub returns-then-c-gt-DERIVATIONS : goal.returns-then-c-gt-DERIVATIONS
returns-then-c-gt-DERIVATIONS c =
    let m = c.count_at-c.ensures in
    let i = c.loop-n.invariant in
    let n = c.loop-n.n in
    let l : n < first_root (table_in c.args.fleet.now) = omega arith in
    full_found i.held n _ l (overfull_yes m.held n _ l m.counted m.pair c.if-c-gt-DERIVATIONS.true) i.fine m.held

pub loop-n-preserved : goal.loop-n-preserved
loop-n-preserved c =
    let m = c.count_at-c.ensures in
    let i = c.loop-n.invariant in
    let n = c.loop-n.n in
    record {
      held = m.held;
      counted = below_more _ _ (λ k l. m.kept k (i.counted k l)) m.counted;
      fine = below_more _ _ i.fine (overfull_no m.held n _ (omega arith) m.counted m.pair c.if-c-gt-DERIVATIONS.false);
    }

pub returns : goal.returns
returns c =
    let i = c.loop-n.invariant in
    none_full i.held (λ k h. i.counted k (omega arith)) (λ k h. i.fine k (omega arith))
