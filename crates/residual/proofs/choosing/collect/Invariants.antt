-- `collect` meets its contract. Assumes nothing.
use Prim.Native.Nat.{◌-◌}
use lib.ListN.{length}
use Rattle.term.specs.Processes.{process, derivation_at}
use Rattle.accept.specs.Accepted.{accepted_table}
use Rattle.residual.specs.Wholes.{residual_term}
use Rattle.residual.proofs.Reporting.{Toward}
use Rattle.residual.proofs.choosing.collect.Given as goal

abbrev pub invariant-loop-label : goal.invariant-loop-label
invariant-loop-label l =
    let t = accepted_table l.accepted in
    Toward t l.words (derivation_at (process t (residual_term l.words)) l.c) l.initial.marks l.target l.more l.marks

abbrev pub decreases-loop-label : goal.decreases-loop-label
decreases-loop-label l = length l.words - l.target.from.at
