-- `basis::words::copy` meets its contract.
use Rattle.basis.proofs.Writing.{Written}
use Rattle.basis.proofs.words.copy.Given as goal

abbrev pub invariant-loop-i : goal.invariant-loop-i
invariant-loop-i l = Written l.initial.to 0 l.from l.i l.to
