-- `judging::acts::judge_choice` meets its contract.
-- Assumes nothing.
use Rattle.std.proofs.Common.{◌≡◌, refl}
use Rattle.std.proofs.lemmas.Result.{err_from_is_err_and}
use Rattle.table.specs.declared.refusals.Refused.TheVariants.{ResidualDerivations}
use Rattle.accept.specs.Accepted.{accepted_table}
use Rattle.choice.proofs.Collecting.{marks_zeros}
use Rattle.residual.specs.Wholes.{Taking, Choices, Offered, residual_term}
use Rattle.judging.proofs.Choosing.{whole_residual, agent_12, agent_13, agent_taking, agent_14, agent_doing, agent_last}
use Rattle.judging.proofs.acts.judge_choice.Goals as goal
use Rattle.judging.proofs.acts.judge_choice.Goals.{After-count_choices-counted, In_ok-choices, Else-choices-c}

offered : (c : After-count_choices-counted) → Offered (accepted_table c.args.accepted.now) (residual_term c.args.words.now) c.count_choices-counted.result
offered c =
    c.count_choices-counted.ensures (accepted_table c.args.accepted.now) refl c.args.accepted.now.prepared
    (whole_residual c.args.accepted.now.prepared.checked c.requires)

counted : (c : In_ok-choices) → Choices (accepted_table c.args.accepted.now) (residual_term c.args.words.now) c.in_ok-choices.choices
counted c = rw c.in_ok-choices.ensures.ok_part at (offered (goal.at.In_ok-choices c).After-count_choices-counted)

taking : (c : Else-choices-c) → Taking (accepted_table c.args.accepted.now) (residual_term c.args.words.now) c.args.c
taking c = agent_taking c.args.accepted.now.prepared.checked c.requires (counted (goal.at.Else-choices-c c).In_ok-choices) c.args.c c.if-choices-c.false

pub returns-in_err-choices : goal.returns-in_err-choices
returns-in_err-choices c =
    let none = c.in_err-choices.ensures.ok_part in
    let e : c.in_err-choices.field-0.0 ≡ ResidualDerivations = let v = rw none at c.in_err-choices.ensures.value in cc in
    let p = err_from_is_err_and c.from_residual.result c.from_residual.ensures.1 in
    rw (p.1, p.2, e)
    (agent_12 c.args.accepted.now.prepared.checked c.requires
    (rw none at (offered (goal.at.returns-in_err-choices c).After-count_choices-counted)) c.args.c)

pub returns-then-choices-c : goal.returns-then-choices-c
returns-then-choices-c c =
    agent_13 c.args.accepted.now.prepared.checked c.requires (counted (goal.at.returns-then-choices-c c).In_ok-choices) c.args.c c.if-choices-c.true

pub collect-effect-requires-clause-whole : goal.collect-effect-requires-clause-whole
collect-effect-requires-clause-whole c = whole_residual c.args.accepted.now.prepared.checked c.requires

pub collect-effect-requires-clause-taking : goal.collect-effect-requires-clause-taking
collect-effect-requires-clause-taking c = taking (goal.at.collect-effect-requires-clause-taking c).Else-choices-c

pub collect-effect-requires-clause-walk_marks : goal.collect-effect-requires-clause-walk_marks
collect-effect-requires-clause-walk_marks c =
    marks_zeros (accepted_table c.args.accepted.now) 128 c.args.accepted.now.fleet.shaped.limits.nodes

pub returns-in_err-keys : goal.returns-in_err-keys
returns-in_err-keys c =
    let p = err_from_is_err_and c.from_residual-in_err-keys.result c.from_residual-in_err-keys.ensures.1 in
    rw (p.1, p.2)
    (agent_14 c.args.accepted.now.prepared.checked c.requires c.args.c (taking (goal.at.returns-in_err-keys c).Else-choices-c)
    c.collect-effect.ensures c.ask_guards.ensures c.in_err-keys.was)

pub judge_outcome-requires : goal.judge_outcome-requires
judge_outcome-requires c =
    agent_doing c.args.accepted.now.prepared.checked c.requires c.args.c (taking (goal.at.judge_outcome-requires c).Else-choices-c) c.collect-effect.ensures

pub returns : goal.returns
returns c =
    agent_last c.args.accepted.now.prepared.checked c.requires c.args.c (taking (goal.at.returns c).Else-choices-c)
    c.collect-effect.ensures c.ask_guards.ensures c.in_ok-keys.was c.judge_outcome.result c.judge_outcome.ensures
