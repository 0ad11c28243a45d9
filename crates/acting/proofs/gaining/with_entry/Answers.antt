-- `with_entry` meets its contract. Assumes nothing.
use Rattle.std.proofs.Common.{sym, ◌∙◌}
use Rattle.basis.proofs.KeySets.{plus_all_zero}
use Rattle.acting.specs.Gaining.{has_entry}
use Rattle.acting.proofs.Gains.{one_more}
use Rattle.acting.proofs.gaining.with_entry.Goals as goal

pub loop-key-init : goal.loop-key-init
loop-key-init c = sym (plus_all_zero _ 0)

pub loop-key-preserved : goal.loop-key-preserved
loop-key-preserved c =
    one_more (has_entry c.args.state.now c.args.agent c.args.keys) c.loop-key.key c.loop-key.invariant
    (c.plus_if-found.ensures ∙ rw (c.has.ensures, c.entry_of-entry.ensures))
