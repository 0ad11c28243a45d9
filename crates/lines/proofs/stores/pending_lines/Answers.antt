-- `lines::stores::pending_lines` meets its contract: the lines of the keys below the loop's have been written.
-- Assumes nothing.
use borrow.Author.Rules.{rules}
use Rattle.lines.proofs.Each.{each_none, each_room, each_more}
use Rattle.lines.proofs.stores.pending_lines.Goals as goal

pub loop-key-init : goal.loop-key-init
loop-key-init c = each_none _ _ c.requires

pub member_line-requires : goal.member_line-requires
member_line-requires c = (search rules, each_room _ _ _ c.requires c.loop-key.invariant (search rules))

pub loop-key-preserved : goal.loop-key-preserved
loop-key-preserved c = each_more _ _ c.loop-key.invariant c.member_line.ensures
