-- `Offer::to_all` meets its contract: after the turns of the agents below `other` the words and the tally are those of these turns.
use Rattle.table.specs.Fleets.{table_in}
use Rattle.offering.proofs.Turns.{Turns}
use Rattle.offering.proofs.offers.Offer.to_all.Given as goal

abbrev pub invariant-loop-other : goal.invariant-loop-other
invariant-loop-other l =
    Turns (table_in l.fleet) l.initial.state l.self.agent l.self.key l.self.counts l.self.confirming l.other l.tally l.state
