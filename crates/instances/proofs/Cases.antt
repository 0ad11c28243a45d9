-- The cases, computed from the definitions, give what the second implementation gives.
use mathlib.Core.Path.{refl}
use Rattle.steps.proofs.Computing.{computing}
use Rattle.instances.specs.Rehearsals.{words_from, patched, AllAgree}

pub all_agree : AllAgree
unfolding computing words_from patched
all_agree = refl
