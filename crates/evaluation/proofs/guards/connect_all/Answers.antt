-- `evaluation::guards::connect_all` meets its contract: the kind picks the case.
-- Assumes nothing.
use mathlib.Core.Bool.{not, ◌&&◌, ◌||◌}
use mathlib.Core.Path.{◌≡◌, refl, sym}
use borrow.Author.Tests.{ne_eqb}
use Rattle.std.proofs.Common.{rules}
use Rattle.basis.specs.KeySets.{has}
use Rattle.basis.specs.NodeKinds.{number_of}
use Rattle.basis.proofs.NodeKinds.{named_is}
use Rattle.basis.specs.declared.node_kinds.NodeKind.{NodeKind}
use Rattle.basis.specs.declared.node_kinds.NodeKind.TheVariants.{Not, And, Or}
use Rattle.basis.proofs.KeySets.{has_both, has_either, has_without}
use Rattle.evaluation.proofs.Sets.{made, found_none}
use Rattle.evaluation.proofs.guards.connect_all.Goals as goal

pub returns-in-Ok-Not : goal.returns-in-Ok-Not
returns-in-Ok-Not c =
    λ agents f g a b. rw (named_is Not c.in-Ok-Not.field-0-is c.in-Ok-Not.ensures)
    (record {
      defined = a.defined;
      holding = λ y. made (λ x z. x && not z) refl (has agents y) (f y).defined (f y).holds (has_without _ _ y) (a.defined y) (a.holding y);
    })

pub returns-in-Ok-And : goal.returns-in-Ok-And
returns-in-Ok-And c =
    λ agents f g a b. rw (named_is And c.in-Ok-And.field-0-is c.in-Ok-And.ensures)
    (record {
      defined = λ y. made ◌&&◌ refl (has agents y) (f y).defined (g y).defined (has_both _ _ y) (a.defined y) (b.defined y);
      holding = λ y. made ◌&&◌ refl (has agents y) (f y).holds (g y).holds (has_both _ _ y) (a.holding y) (b.holding y);
    })

pub returns-in-Ok-Or : goal.returns-in-Ok-Or
returns-in-Ok-Or c =
    λ agents f g a b. rw (named_is Or c.in-Ok-Or.field-0-is c.in-Ok-Or.ensures)
    (record {
      defined = λ y. made ◌&&◌ refl (has agents y) (f y).defined (g y).defined (has_both _ _ y) (a.defined y) (b.defined y);
      holding = λ y. made ◌||◌ refl (has agents y) (f y).holds (g y).holds (has_either _ _ y) (a.holding y) (b.holding y);
    })

pub returns-in_default : goal.returns-in_default
returns-in_default c =
    let n20 : c.args.kind ≡ 20 → ⊥ = search rules in
    let n21 : c.args.kind ≡ 21 → ⊥ = search rules in
    let n22 : c.args.kind ≡ 22 → ⊥ = search rules in
    λ agents f g a b. found_none (λ y. rw (ne_eqb _ _ n20, ne_eqb _ _ n21, ne_eqb _ _ n22))

pub returns-in_default-2 : goal.returns-in_default-2
returns-in_default-2 c =
    let none : (j : NodeKind) → number_of j ≡ c.args.kind → ⊥ = rw c.in_default.is at c.try_from.ensures in
    λ agents f g a b. found_none (λ y. rw (ne_eqb _ _ (λ e. none Not (sym e)), ne_eqb _ _ (λ e. none And (sym e)), ne_eqb _ _ (λ e. none Or (sym e))))
