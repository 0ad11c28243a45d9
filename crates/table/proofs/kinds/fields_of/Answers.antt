-- `fields_of` meets its contract: a byte that names no kind has no row.
-- Assumes nothing.
use Rattle.std.proofs.Common.{◌≡◌, ℕ, Bool, true, false, cond, refl, sym}
use borrow.Author.Tests.{ne_eqb}
use lib.Dec.{ltb}
use Rattle.basis.specs.NodeKinds.{number_of}
use Rattle.basis.specs.declared.node_kinds.NodeKind.{NodeKind}
use Rattle.basis.specs.declared.node_kinds.NodeKind.TheVariants.{Idle, Tick, SetAttribute, SetStigmergy, SetEnvironment, Sequence, Choice, Guarded, Parallel, Call, True, Equal, Less, Greater, Not, And, Or, Constant, Attribute, Stigmergy, Environment, Plus, Minus, Times, Divide, Remainder}
use Rattle.table.specs.declared.Field.TheVariants.{Never}
use Rattle.table.specs.declared.Fields.{Fields}
use Rattle.table.specs.Nodes.{fields, row_of, process_rows, guard_rows, expression_rows}
use Rattle.table.proofs.kinds.fields_of.Goals as goal

module _ (k : ℕ) (none : (j : NodeKind) → number_of j ≡ k → ⊥) where
  no_process : row_of process_rows k ≡ fields Never Never
  unfolding process_rows row_of
  no_process =
      rw (
        ne_eqb k 0 (λ e. none Idle (sym e)),
        ne_eqb k 1 (λ e. none Tick (sym e)),
        ne_eqb k 2 (λ e. none SetAttribute (sym e)),
        ne_eqb k 3 (λ e. none SetStigmergy (sym e)),
        ne_eqb k 4 (λ e. none SetEnvironment (sym e)),
        ne_eqb k 5 (λ e. none Sequence (sym e)),
        ne_eqb k 6 (λ e. none Choice (sym e)),
        ne_eqb k 7 (λ e. none Guarded (sym e)),
        ne_eqb k 8 (λ e. none Parallel (sym e)),
        ne_eqb k 9 (λ e. none Call (sym e)),
      )

  no_guard : row_of guard_rows k ≡ fields Never Never
  unfolding guard_rows row_of
  no_guard =
      rw (
        ne_eqb k 16 (λ e. none True (sym e)),
        ne_eqb k 17 (λ e. none Equal (sym e)),
        ne_eqb k 18 (λ e. none Less (sym e)),
        ne_eqb k 19 (λ e. none Greater (sym e)),
        ne_eqb k 20 (λ e. none Not (sym e)),
        ne_eqb k 21 (λ e. none And (sym e)),
        ne_eqb k 22 (λ e. none Or (sym e)),
      )

  no_expression : row_of expression_rows k ≡ fields Never Never
  unfolding expression_rows row_of
  no_expression =
      rw (
        ne_eqb k 32 (λ e. none Constant (sym e)),
        ne_eqb k 33 (λ e. none Attribute (sym e)),
        ne_eqb k 34 (λ e. none Stigmergy (sym e)),
        ne_eqb k 35 (λ e. none Environment (sym e)),
        ne_eqb k 36 (λ e. none Plus (sym e)),
        ne_eqb k 37 (λ e. none Minus (sym e)),
        ne_eqb k 38 (λ e. none Times (sym e)),
        ne_eqb k 39 (λ e. none Divide (sym e)),
        ne_eqb k 40 (λ e. none Remainder (sym e)),
      )

same : (a b : Bool) (x : Fields) → cond a x (cond b x x) ≡ x
same true b x = refl
same false true x = refl
same false false x = refl

pub returns-in-Err : goal.returns-in-Err
returns-in-Err c =
    let k = c.args.kind in
    let none = c.in-Err.ensures in
    rw (no_process k none, no_guard k none, no_expression k none) (sym (same (ltb k 16) (ltb k 32) (fields Never Never)))
