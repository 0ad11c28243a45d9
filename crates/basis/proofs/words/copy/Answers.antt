-- `basis::words::copy` meets its contract.
-- Assumes nothing.
use native.Mathlib.Nat.{sub-zero}
use native.Mathlib.Omega.{arith}
use Rattle.basis.proofs.Writing.{written_none, written_more, written_length, written_all}
use Rattle.basis.proofs.words.copy.Goals as goal

pub loop-i-init : goal.loop-i-init
loop-i-init c = written_none (omega (arith, c.requires))

pub bounds-to-i : goal.bounds-to-i
bounds-to-i c = omega (arith, c.requires, written_length c.loop-i.invariant)

pub loop-i-preserved : goal.loop-i-preserved
loop-i-preserved c =
    let l = c.loop-i in
    written_more l.invariant _ 0 (rw (sub-zero l.i)) (omega (arith, c.requires))

pub shape_of-to : goal.shape_of-to
shape_of-to c = written_length c.loop-i.invariant

pub returns : goal.returns
returns c = written_all c.loop-i.invariant (omega (arith, written_length c.loop-i.invariant))
