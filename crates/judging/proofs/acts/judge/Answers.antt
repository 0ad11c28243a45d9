-- `judging::acts::judge` meets its contract.
-- Assumes nothing.
use Rattle.std.proofs.Common.{arith}
use Rattle.accept.specs.Accepted.{accepted_table}
use Rattle.judging.proofs.Choosing.{agent_11, agent_short, agent_given}
use Rattle.judging.proofs.acts.judge.Goals as goal

pub returns-then-state-zc_at : goal.returns-then-state-zc_at
returns-then-state-zc_at c =
    agent_11 (accepted_table c.args.accepted.now) c.args.state.now c.args.agent _ _ c.zc_at.ensures.is c.zp_at.ensures.is c.if-state-zc_at.true c.args.c

pub slice_bounds-judge_choice-end : goal.slice_bounds-judge_choice-end
slice_bounds-judge_choice-end c =
    let short = agent_short c.args.accepted.now.prepared.checked c.requires.proper c.requires.agent_lt_agents _ c.length_at.ensures.is in
    omega (arith, short, c.residual_at-at.ensures, c.requires.proper.whole)

pub judge_choice-requires : goal.judge_choice-requires
judge_choice-requires c =
    agent_given (accepted_table c.args.accepted.now) c.args.state.now c.args.agent _ _ c.zc_at.ensures.is c.zp_at.ensures.is c.if-state-zc_at.false
    c.args.accepted.now.prepared.checked c.requires.proper c.requires.agent_lt_agents _ c.length_at.ensures.is _ c.residual_at-at.ensures.is
