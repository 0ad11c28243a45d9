-- `with_entry` meets its contract: the keys below the loop's that have an entry are found.
use Rattle.std.proofs.Common.{◌≡◌}
use Rattle.basis.specs.KeySets.{plus_all}
use Rattle.acting.specs.Gaining.{has_entry}
use Rattle.acting.proofs.gaining.with_entry.Given as goal

abbrev pub invariant-loop-key : goal.invariant-loop-key
invariant-loop-key l = l.found ≡ plus_all (has_entry l.state l.agent l.keys) l.key 0
