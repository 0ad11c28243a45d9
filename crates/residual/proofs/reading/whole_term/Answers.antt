-- `whole_term` meets its contract. Assumes nothing.
use Prim.Native.Nat.{ℕ, ◌+◌, ◌<◌}
use mathlib.Core.List.{List}
use mathlib.Core.Path.{◌≡◌, refl, sym, ◌∙◌}
use native.Mathlib.Omega.{arith}
use lib.ListN.{length, drop}
use Rattle.std.specs.Prelude.{Some}
use Rattle.residual.specs.Reading.{read_at}
use Rattle.table.specs.Tables.{Table, table, first_root}
use Rattle.term.specs.Terms.{are_terms}
use Rattle.residual.proofs.Whole.{read_word, read_end, are_end, are_none, are_operator, are_leaf, are_bad}
use Rattle.residual.proofs.reading.whole_term.Goals as goal
use Rattle.residual.proofs.reading.whole_term.Goals.{In-Some}

abbrev ws : In-Some → List ℕ
ws c = c.args.words.now

abbrev here : In-Some → ℕ
here c = c.loop-word.cursor.at

read : (c : In-Some) → read_at (ws c) (here c) ≡ Some (c.in-Some.word, c.in-Some.next)
read c = sym c.in-Some.ensures

past : (c : In-Some) → (here c < length (ws c)) × (c.in-Some.next.at ≡ here c + 1)
past c = let r = read_word (ws c) (here c) _ _ (read c) in (r.0, r.2)

abbrev whole : (c : In-Some) → List ℕ → Table
whole c operands = table c.args.sizes c.args.kinds.now operands

root_is : (c : In-Some) (operands : List ℕ) → first_root (whole c operands) ≡ c.first_root-roots.result
root_is c operands = sym c.first_root-roots.ensures

come : (c : In-Some) (operands : List ℕ) → are_terms (whole c operands) 1 (ws c) ≡ are_terms (whole c operands) c.loop-word.more (drop (here c) (ws c))
come c operands = c.loop-word.invariant.2 (whole c operands) (root_is c operands) refl

pub returns-then-more-eq0 : goal.returns-then-more-eq0
returns-then-more-eq0 c operands =
    let a = (goal.at.returns-then-more-eq0 c).In-Some in
    sym (come a operands ∙ are_none (whole a operands) (ws a) (here a) _ _ (read a) _ c.if-more-eq0.true)

pub returns-else-is_leaf : goal.returns-else-is_leaf
returns-else-is_leaf c operands =
    let a = (goal.at.returns-else-is_leaf c).In-Some in
    sym (come a operands ∙ are_bad (whole a operands) (ws a) (here a) _ _ (read a) _ _ (root_is a operands) refl
    (sym c.is_operator.ensures ∙ c.if-is_operator.false) _ (sym c.is_leaf.ensures ∙ c.if-is_leaf.false))

pub loop-word-preserved-then-is_operator : goal.loop-word-preserved-then-is_operator
loop-word-preserved-then-is_operator c =
    let a = (goal.at.loop-word-preserved-then-is_operator c).In-Some in
    let l = c.loop-word in
    let r = past a in
    let i = l.invariant.1 in
    let d = c.if-more-eq0.false in (
      omega arith,
      omega arith,
      λ t e f. l.invariant.2 t e f ∙ are_operator t (ws a) (here a) _ _ (read a) l.more (omega arith) (sym c.is_operator.ensures ∙ c.if-is_operator.true),
    )

pub loop-word-preserved : goal.loop-word-preserved
loop-word-preserved c =
    let a = (goal.at.loop-word-preserved c).In-Some in
    let l = c.loop-word in
    let r = past a in
    let i = l.invariant.1 in
    let d = c.if-more-eq0.false in (
      omega arith,
      omega arith,
      λ t e f. l.invariant.2 t e f ∙ are_leaf t (ws a) (here a) _ _ (read a) _ _ e f (sym c.is_operator.ensures ∙ c.if-is_operator.false) l.more
          (omega arith) (sym c.is_leaf.ensures ∙ c.if-is_leaf.true),
    )

pub returns : goal.returns
returns c operands =
    let l = c.loop-word in
    let t = table c.args.sizes c.args.kinds.now operands in
    sym (l.invariant.2 t (sym c.first_root-roots.ensures) refl ∙ are_end t c.args.words.now l.cursor.at l.more (read_end c.args.words.now l.cursor.at (sym c.in_default.ensures)))
