-- `judging::outcomes::word_set` meets its contract.
-- Assumes nothing.
use Rattle.std.proofs.Common.{◌≡◌, sym, ap, ◌∙◌}
use Rattle.std.proofs.lemmas.Result.{err_from_is_err_and}
use Rattle.table.specs.declared.refusals.Refused.TheVariants.{ExpressionAbsent}
use Rattle.table.specs.Fleets.{table_in}
use Rattle.state.specs.Evaluation.{value_of}
use Rattle.steps.specs.Acts.{value_for}
use Rattle.judging.proofs.Ending.{tick_sets, absent_sets, full_sets, action_sets}
use Rattle.judging.proofs.outcomes.word_set.Goals as goal
use Rattle.judging.proofs.outcomes.word_set.Goals.{After-value_of-value}

-- the value that has been found is the action's
value_is : (c : After-value_of-value) → value_for (table_in c.args.fleet.now) c.args.state.now c.args.agent c.in-Acting.node ≡ c.value_of-value.result
value_is c =
    sym (c.value_of-value.ensures ∙ ap (value_of (table_in c.args.fleet.now) c.args.state.now c.args.agent c.args.agent) c.q_at.ensures.is)

pub returns-in_default : goal.returns-in_default
returns-in_default c = rw c.in_default.is (tick_sets (table_in c.args.fleet.now) c.args.state.now c.args.agent)

pub returns-in_err-word : goal.returns-in_err-word
returns-in_err-word c =
    let none = c.in_err-word.ensures.ok_part in
    let e : c.in_err-word.field-0.0 ≡ ExpressionAbsent = let v = rw none at c.in_err-word.ensures.value in cc in
    let p = err_from_is_err_and c.from_residual.result c.from_residual.ensures.1 in
    rw (p.1, p.2, e, c.in-Acting.is)
    (absent_sets (table_in c.args.fleet.now) c.args.state.now c.args.agent c.in-Acting.node
    (value_is (goal.at.returns-in_err-word c).After-value_of-value ∙ none))

pub returns-then-stamps-clock_of : goal.returns-then-stamps-clock_of
returns-then-stamps-clock_of c =
    rw c.in-Acting.is
    (full_sets (table_in c.args.fleet.now) c.args.state.now c.args.agent c.in-Acting.node c.in_ok-word.word
    (value_is (goal.at.returns-then-stamps-clock_of c).After-value_of-value ∙ c.in_ok-word.ensures.ok_part)
    (rw (c.kind_at.ensures, c.clock_of.ensures) at c.if-stamps-clock_of.true))

pub returns : goal.returns
returns c =
    rw c.in-Acting.is
    (action_sets (table_in c.args.fleet.now) c.args.state.now c.args.agent c.in-Acting.node c.in_ok-word.word
    (value_is (goal.at.returns c).After-value_of-value ∙ c.in_ok-word.ensures.ok_part)
    (rw (c.kind_at.ensures, c.clock_of.ensures) at c.if-stamps-clock_of.false))
