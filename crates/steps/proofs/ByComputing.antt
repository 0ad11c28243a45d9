-- Places of a shelf and two saves, by computing the definitions.
-- Assumes nothing.
use mathlib.Core.Path.{refl}
use Rattle.steps.specs.Shelves.{place_formed, shelf_formed, put_saved, put_name}
use Rattle.steps.specs.Points.{change, save_of}
use Rattle.steps.specs.ShelfExamples.{ShelfExamples}
use Rattle.steps.proofs.Computing.{computing}

pub shelf_examples : ShelfExamples
unfolding computing place_formed shelf_formed put_saved put_name change save_of
shelf_examples = record { places = (refl, refl, refl, refl, refl, refl); done = (refl, refl); words = refl }
