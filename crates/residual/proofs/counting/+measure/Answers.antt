-- `measure` meets its contract. Assumes nothing.
use mathlib.Core.Path.{refl, sym, ◌∙◌}
use Rattle.residual.proofs.Measures.{operator_small, found_past, found_leaf, found_left, found_right, found_operator}
use Rattle.residual.proofs.counting.+measure.Goals as goal

pub returns-in_err-word : goal.returns-in_err-word
returns-in_err-word t c = rw c.from_residual.ensures (found_past _ _ _ _ (sym c.in_err-word.ensures))

pub returns-then-not-is_operator : goal.returns-then-not-is_operator
returns-then-not-is_operator t c =
    found_leaf _ _ _ _ c.requires.pairs _ _ (sym c.in_ok-word.ensures) _ (sym c.is_operator.ensures ∙ c.if-not-is_operator.true) refl c.leaf-counts.ensures

pub returns-in_err-left : goal.returns-in_err-left
returns-in_err-left t c =
    rw c.from_residual-in_err-left.ensures
    (found_left _ _ _ _ c.requires.pairs _ _ (sym c.in_ok-word.ensures) (sym c.is_operator.ensures ∙ c.if-not-is_operator.false) c.in_err-left.ensures)

pub returns-in_err-right : goal.returns-in_err-right
returns-in_err-right t c =
    rw c.from_residual-in_err-right.ensures
    (found_right _ _ _ _ c.requires.pairs _ _ (sym c.in_ok-word.ensures) (sym c.is_operator.ensures ∙ c.if-not-is_operator.false) _ c.in_ok-left.ensures c.in_err-right.ensures)

pub few-requires : goal.few-requires
few-requires t c = rw c.combined-counts.ensures (operator_small _ _ _)

pub returns : goal.returns
returns t c =
    rw (c.then_some.ensures, c.few.ensures)
    (found_operator _ _ _ _ c.requires.pairs _ _ (sym c.in_ok-word.ensures) (sym c.is_operator.ensures ∙ c.if-not-is_operator.false) _ c.in_ok-left.ensures _ _ c.in_ok-right.ensures refl c.combined-counts.ensures)
