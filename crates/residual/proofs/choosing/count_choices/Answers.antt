-- `count_choices` meets its contract. Assumes nothing.
use Prim.Native.Nat.{◌-◌}
use mathlib.Core.Path.{◌≡◌, sym, ap, ◌∙◌}
use Rattle.table.specs.declared.Sizes.{Sizes}
use Rattle.table.specs.Tables.{Table, first_root, roots_of}
use Rattle.residual.proofs.Residuals.{offered_none, offered_some}
use Rattle.residual.proofs.choosing.count_choices.Goals as goal
use Rattle.residual.proofs.choosing.count_choices.Goals.{After-first_root}

root_is : (c : After-first_root) (t : Table) → t.sizes ≡ c.args.sizes → first_root t ≡ c.first_root.result
root_is c t e = ap (λ (n : Sizes). n.nodes - roots_of n) e ∙ sym c.first_root.ensures

pub returns-in_err-all : goal.returns-in_err-all
returns-in_err-all c t e r w =
    rw c.from_residual.ensures
    (offered_none t c.args.counts.now r 0 c.args.words.now w (root_is (goal.at.returns-in_err-all c).After-first_root t e) (rw c.default.ensures at c.in_err-all.ensures))

pub returns : goal.returns
returns c t e r w =
    offered_some t c.args.counts.now r 0 c.args.words.now w (root_is (goal.at.returns c).After-first_root t e) _ (rw c.default.ensures at c.in_ok-all.ensures) _ c.total.ensures.0
