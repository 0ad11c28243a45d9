-- `Offer::receivers` meets its contract: at `other` the set holds the agents below it.
use mathlib.Core.Path.{◌≡◌}
use Rattle.offering.specs.Passing.{touched}
use Rattle.offering.proofs.offers.Offer.receivers.Given as goal

abbrev pub invariant-loop-other : goal.invariant-loop-other
invariant-loop-other l = l.touched ≡ touched l.self.entry l.state l.self.key l.self.counts l.self.confirming l.other
