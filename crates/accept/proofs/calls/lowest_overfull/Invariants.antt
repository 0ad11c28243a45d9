-- `accept::calls::lowest_overfull` meets its contract: the nodes below the loop's are counted, and none has too many derivations.
use Prim.Native.Nat.{ℕ, ◌<◌}
use mathlib.Core.Bool.{true, false}
use mathlib.Core.Path.{◌≡◌}
use Rattle.table.specs.Fleets.{table_in}
use Rattle.term.specs.Acceptance.{overfull}
use Rattle.accept.specs.Scratch.{is_counted, Held}
use Rattle.accept.proofs.calls.lowest_overfull.Given as goal

abbrev pub invariant-loop-n : goal.invariant-loop-n
invariant-loop-n l =
    let t = table_in l.fleet in record {
      held : Held t t.sizes.definitions l.scratch;
      counted : (k : ℕ) → k < l.n → is_counted l.scratch k ≡ true;
      fine : (k : ℕ) → k < l.n → overfull t k ≡ false;
    }
