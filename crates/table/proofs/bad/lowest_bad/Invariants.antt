-- `table::bad::lowest_bad` meets its contract: no node below the loop's is bad, and the words tell which nodes those name.
use Prim.Native.Nat.{ℕ, ◌<◌}
use mathlib.Core.Path.{◌≡◌}
use mathlib.Core.Bool.{false}
use Rattle.table.specs.Fleets.{table_in}
use Rattle.table.specs.Nodes.{bad_node}
use Rattle.table.proofs.Naming.{Turned}
use Rattle.table.proofs.Rising.{Informed}
use Rattle.table.proofs.bad.lowest_bad.Given as goal

abbrev pub invariant-loop-node : goal.invariant-loop-node
invariant-loop-node l =
    let t = table_in l.fleet in record {
      turned : Turned t l.scratch l.node;
      fine : (k : ℕ) → k < l.node → bad_node t k ≡ false;
      informed : Informed t l.scratch l.node l.doubtful;
    }
