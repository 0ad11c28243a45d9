-- `judging::guards::ask_guards` meets its contract. The loop's invariant: no marked guard below a node fails, and the keys
-- are those that they read.
use Rattle.std.proofs.Common.{◌≡◌, false, ◌-◌, ◌≤◌}
use Rattle.table.specs.Fleets.{table_in}
use Rattle.evaluation.specs.Reading.{Adds}
use Rattle.judging.proofs.Asking.{some_fails, marked_reads}
use Rattle.judging.proofs.guards.ask_guards.Given as goal

abbrev pub invariant-loop-n : goal.invariant-loop-n
invariant-loop-n l =
    record {
      within : l.from ≤ l.fleet.sizes.nodes;
      held : some_fails (table_in l.fleet) l.state l.agent l.marks l.from ≡ false;
      read : Adds (marked_reads (table_in l.fleet) l.marks l.from) 0 l.keys;
    }

abbrev pub decreases-loop-n : goal.decreases-loop-n
decreases-loop-n l = l.fleet.sizes.nodes - l.from
