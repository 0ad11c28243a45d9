-- `Offer::to_all` meets its contract. Assumes nothing.
use mathlib.Core.Path.{◌≡◌, refl, sym}
use native.Mathlib.Omega.{arith}
use Rattle.std.proofs.Common.{rules}
use Rattle.basis.specs.Numbers.{for_each, how_many}
use Rattle.steps.specs.Tallies.{no_tally}
use Rattle.offering.proofs.Turns.{few_take, next_turn, responds, nobody, counts_once}
use Rattle.offering.proofs.offers.Offer.to_all.Goals as goal

pub returns-then-asked-eq0 : goal.returns-then-asked-eq0
returns-then-asked-eq0 c =
    let none : c.default-tally.result ≡ no_tally = search rules in
    let asks = rw c.requires.own at c.receivers-asked.ensures in
    rw none (nobody _ _ _ _ _ _ _ _ asks c.if-asked-eq0.true _ (omega arith))

pub loop-other-init : goal.loop-other-init
unfolding for_each how_many
loop-other-init c = record { answer = search rules; state = refl }

pub add-tally-requires : goal.add-tally-requires
add-tally-requires c =
    let taken = few_take _ _ _ _ _ _ _ c.loop-other.invariant in
    let once = rw (sym c.tally_of.ensures) at (counts_once c.response-response.result) in
    (omega (arith, taken.0, once.added), omega (arith, taken.1, once.replaced))

pub loop-other-preserved : goal.loop-other-preserved
loop-other-preserved c =
    let turns = c.loop-other.invariant in
    let mine = c.requires.own in
    let asks = rw c.requires.own at c.receivers-asked.ensures in
    let is = responds _ _ _ _ _ _ _ _ asks c.args.self.now.there _ c.links_hold-linked.ensures c.loop-other.other (omega arith) mine turns.state c.response-response.ensures in
    next_turn _ _ _ _ _ _ _ turns mine is c.write.ensures c.tally_of.ensures c.add-tally.ensures
