-- `perform` meets its contract. Assumes nothing.
use Rattle.accept.specs.Accepted.{accepted_table}
use Rattle.acting.proofs.Performs.{allowed_gaining, allowed_setting, allowed_leaving, allowed_acted}
use Rattle.acting.proofs.writing.perform.Goals as goal

pub gained-gains-requires : goal.gained-gains-requires
gained-gains-requires c =
    allowed_gaining (accepted_table c.args.accepted.now) c.args.accepted.now.prepared.checked c.args.state.now c.requires.proper
    c.args.agent c.requires.agent_lt_agents c.args.c c.args.allowed c.requires.judges

pub set_label-requires : goal.set_label-requires
set_label-requires c =
    allowed_setting (accepted_table c.args.accepted.now) c.args.accepted.now.prepared.checked c.args.state.now c.requires.proper
    c.args.agent c.requires.agent_lt_agents c.args.c c.args.allowed c.requires.judges

pub leave-requires : goal.leave-requires
leave-requires c =
    allowed_leaving (accepted_table c.args.accepted.now) c.args.accepted.now.prepared.checked c.args.state.now c.requires.proper
    c.args.agent c.requires.agent_lt_agents c.args.c c.args.allowed c.requires.judges c.gained-gains.result _ _ c.set_label.ensures c.set_zc.ensures

pub returns : goal.returns
returns c =
    allowed_acted (accepted_table c.args.accepted.now) c.args.accepted.now.prepared.checked c.args.state.now c.requires.proper
    c.args.agent c.requires.agent_lt_agents c.args.c c.args.allowed c.requires.judges c.gained-gains.result _ _ c.set_label.ensures c.set_zc.ensures
    c.gained-gains.ensures _ c.leave.ensures
