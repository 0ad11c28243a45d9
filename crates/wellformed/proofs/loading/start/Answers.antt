-- `start` meets its contract. Assumes nothing.
use mathlib.Core.Path.{◌≡◌, refl}
use native.Mathlib.Omega.{arith}
use Rattle.basis.specs.Numbers.{for_each}
use Rattle.table.specs.Tables.{table}
use Rattle.wellformed.proofs.Starting.{started_more}
use Rattle.wellformed.proofs.loading.start.Goals as goal

pub loop-agent-init : goal.loop-agent-init
unfolding for_each
loop-agent-init c = λ t e f. refl

pub loop-agent-preserved : goal.loop-agent-preserved
loop-agent-preserved c =
    λ t e f. started_more t _ _ _ _ _ _ c.length_at.ensures.is c.residual_at.ensures.is (rw (e, f) c.u16_at.ensures.is) (c.loop-agent.invariant t e f)

pub returns : goal.returns
returns c kinds =
    let all : c.loop-agent.agent ≡ c.args.sizes.agents = omega arith in
    rw all at (c.loop-agent.invariant (table c.args.sizes kinds c.args.operands.now) (omega (arith, c.first_root.ensures)) refl)
