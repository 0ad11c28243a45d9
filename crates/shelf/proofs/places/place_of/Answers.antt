-- `shelf::places::place_of` meets its contract.
-- Assumes nothing.
use Rattle.std.proofs.Common.{◌≡◌, true, false, eqb, rules, tests}
use Rattle.std.proofs.lemmas.Iterator.{first_from_Range}
use Rattle.steps.specs.Shelves.{name_of}
use Rattle.shelf.proofs.Finding.{first_found}
use Rattle.shelf.proofs.places.place_of.Goals as goal

pub returns : goal.returns
returns c =
    let a = c.args in
    first_found a.shelf.now a.name c.find.result
    (first_from_Range _ _ _ c.find.result (λ k. eqb (name_of a.shelf.now k) a.name ≡ true) (λ k. eqb (name_of a.shelf.now k) a.name ≡ false)
    c.find.ensures.ran (λ x q k. search (rules, tests)) (λ x q k. search (rules, tests)))
