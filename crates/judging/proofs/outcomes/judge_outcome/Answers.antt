-- `judging::outcomes::judge_outcome` meets its contract.
-- Assumes nothing.
use Rattle.std.proofs.lemmas.Result.{err_from_is_err_and}
use Rattle.table.specs.Fleets.{table_in}
use Rattle.judging.proofs.Ending.{value_ends, long_ends, short_ends}
use Rattle.judging.proofs.outcomes.judge_outcome.Goals as goal

pub returns-in_err-value : goal.returns-in_err-value
returns-in_err-value c =
    let p = err_from_is_err_and c.from_residual.result c.from_residual.ensures.1 in
    rw (p.1, p.2)
    (value_ends (table_in c.args.fleet.now) c.args.state.now c.args.agent c.args.effect.label c.args.keys c.args.effect.size c.in_err-value.ensures)

pub returns-then-effect-gt-RESIDUAL_WORDS : goal.returns-then-effect-gt-RESIDUAL_WORDS
returns-then-effect-gt-RESIDUAL_WORDS c =
    long_ends (table_in c.args.fleet.now) c.args.state.now c.args.agent c.args.effect.label c.args.keys c.args.effect.size
    c.in_ok-value.value c.in_ok-value.ensures c.if-effect-gt-RESIDUAL_WORDS.true

pub returns : goal.returns
returns c =
    short_ends (table_in c.args.fleet.now) c.args.state.now c.args.agent c.args.effect.label c.args.keys c.args.effect.size
    c.in_ok-value.value c.in_ok-value.ensures c.if-effect-gt-RESIDUAL_WORDS.false
