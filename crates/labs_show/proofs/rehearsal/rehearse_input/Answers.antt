-- `labs_show::rehearsal::rehearse_input` meets its contract.
-- Assumes nothing.
use Prim.Native.Nat.{ℕ}
use mathlib.Core.Path.{ap, subst, ◌∙◌}
use lib.ListN.{length, take, drop}
use Rattle.steps.specs.Runs.{Rehearsal}
use Rattle.labs_show.specs.Rehearsal.{rehearsed, Rehearses}
use Rattle.labs_show.proofs.rehearsal.rehearse_input.Goals as goal

pub returns : goal.returns
returns c =
    let i = c.args.input.now in
    let l = c.args.lent.now in
    let p = c.split_at.ensures in
    let x = c.rehearse in
    subst (λ (o : Rehearsal). Rehearses o x.result x.new.lent.state x.new.lent.answers)
    ((λ j. rehearsed (p.front j) (p.back j) l.state (length l.scratch) l.answers)
    ∙ ap (λ (n : ℕ). rehearsed (take n i) (drop n i) l.state (length l.scratch) l.answers) c.table_end.ensures.is) x.ensures
