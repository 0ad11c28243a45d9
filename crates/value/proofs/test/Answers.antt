-- `value::test` meets its contract: a byte that names no kind is no comparison.
-- Assumes nothing.
use mathlib.Core.Path.{◌≡◌, sym}
use borrow.Author.Tests.{ne_eqb}
use Rattle.basis.specs.NodeKinds.{number_of}
use Rattle.basis.specs.declared.node_kinds.NodeKind.{NodeKind}
use Rattle.basis.specs.declared.node_kinds.NodeKind.TheVariants.{Equal, Less, Greater}
use Rattle.value.proofs.test.Goals as goal

pub returns-in_default-2 : goal.returns-in_default-2
returns-in_default-2 c =
    let k = c.args.kind in
    let other : (j : NodeKind) → number_of j ≡ k → ⊥ = rw c.in_default.is at c.try_from.ensures in
    rw (ne_eqb k 17 (λ e. other Equal (sym e)), ne_eqb k 18 (λ e. other Less (sym e)), ne_eqb k 19 (λ e. other Greater (sym e)))
