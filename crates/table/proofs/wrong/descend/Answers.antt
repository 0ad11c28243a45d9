-- `table::wrong::descend` meets its contract: from the last node down, each hands on what reaches it; `lowest` is the lowest wrong key so far.
-- Assumes nothing.
use Prim.Native.Nat.{ℕ, ◌<◌, ◌+◌, ◌-◌}
use native.Mathlib.Omega.{arith}
use mathlib.Core.Bool.{true}
use mathlib.Core.Path.{◌≡◌, subst}
use Rattle.table.specs.Fleets.{table_in}
use Rattle.table.specs.Nodes.{fitting}
use Rattle.table.specs.Reach.{wrong_key}
use Rattle.table.specs.Marks.{Above}
use Rattle.table.proofs.Promises.{not_bad}
use Rattle.table.proofs.Spreading.{above_first, LowestFrom, from_first, from_all}
use Rattle.table.proofs.wrong.descend.Goals as goal
use Rattle.table.proofs.wrong.descend.Goals.{Start}

all_fit : (c : Start) (k : ℕ) → k < c.args.fleet.now.sizes.nodes → fitting (table_in c.args.fleet.now) k ≡ true
all_fit c k h = (not_bad (table_in c.args.fleet.now) k (c.requires.fine k h)).0

pub loop-node-init : goal.loop-node-init
loop-node-init c =
    let t = table_in c.args.fleet.now in
    record {
      above = above_first t (all_fit (goal.at.loop-node-init c).Start) c.requires.shown;
      lowest = from_first (wrong_key t) t.sizes.nodes;
    }

pub visit-requires : goal.visit-requires
visit-requires c =
    let l = c.loop-node in
    let t = table_in c.args.fleet.now in
    let e : l.node ≡ l.node - 1 + 1 = omega arith in
    record {
      shaped = c.args.fleet.now.shaped;
      long = omega arith;
      inside = omega arith;
      fit = all_fit (goal.at.visit-requires c).Start;
      above = subst (Above t l.scratch) e l.invariant.above;
    }

pub returns : goal.returns
returns c =
    let t = table_in c.args.fleet.now in
    let l = c.loop-node in
    let e : l.node ≡ 0 = omega arith in
    from_all (wrong_key t) t.sizes.nodes l.lowest (subst (λ i. LowestFrom (wrong_key t) t.sizes.nodes i l.lowest) e l.invariant.lowest)
