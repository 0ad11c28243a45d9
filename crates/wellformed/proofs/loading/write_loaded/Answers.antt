-- `write_loaded` meets its contract. Assumes nothing.
use Rattle.basis.proofs.Writing.{cleared_whole}
use Rattle.state.specs.WellFormed.{loaded}
use Rattle.wellformed.proofs.loading.write_loaded.Goals as goal

pub returns : goal.returns
unfolding loaded
returns c kinds = rw (c.start.ensures kinds, cleared_whole c.args.state.now c.requires.whole c.clear.ensures)
