-- `lines::stores::store_lines` meets its contract: the lines of the keys below the loop's have been written.
-- Assumes nothing.
use borrow.Author.Rules.{rules}
use Rattle.lines.proofs.Each.{each_none, each_room, each_more}
use Rattle.lines.proofs.stores.store_lines.Goals as goal

pub loop-key-init : goal.loop-key-init
loop-key-init c = each_none _ _ c.requires.1

pub key_line-requires : goal.key_line-requires
key_line-requires c = let p = c.requires in (record { agent = p.0; key = search rules }, each_room _ _ _ p.1 c.loop-key.invariant (search rules))

pub loop-key-preserved : goal.loop-key-preserved
loop-key-preserved c = each_more _ _ c.loop-key.invariant c.key_line.ensures
