-- `place` meets its contract: the loop steps towards choice c (`Spot`), and the words before the gap are what it leaves of those passed.
use Prim.Native.Nat.{◌-◌}
use lib.ListN.{length, drop}
use Rattle.term.specs.Terms.{words as words_of}
use Rattle.term.specs.Processes.{process, derivation_at}
use Rattle.accept.specs.Accepted.{accepted_table}
use Rattle.residual.specs.Wholes.{residual_term}
use Rattle.residual.proofs.Placing.{Spot}
use Rattle.residual.proofs.writing.place.Given as goal

abbrev pub invariant-loop-words : goal.invariant-loop-words
invariant-loop-words l =
    let t = accepted_table l.accepted in
    Spot t (words_of (derivation_at (process t (residual_term (drop l.at l.initial.words))) l.c).leaving) (length l.initial.words) l.front l.target l.words

abbrev pub decreases-loop-words : goal.decreases-loop-words
decreases-loop-words l = length l.words - l.target.from.at
