-- `write_node` meets its contract. Assumes nothing.
use Rattle.choice.proofs.Gaps.{onto_on}
use Rattle.choice.proofs.writing.write_node.Goals as goal

pub loop-word-preserved : goal.loop-word-preserved
loop-word-preserved c =
    let i = c.loop-word in
    onto_on _ _ _ _ i.at i.rest i.words i.invariant _ _ _ c.in-On.ensures _ _ c.put_kept-rest.ensures
