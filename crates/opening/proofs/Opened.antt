-- What is known of a table and a state that checks 1 to 9 have passed.
-- Assumes nothing.
use Rattle.std.proofs.Common.{ℕ, Bool, true, ◌≡◌, sym, List, Ok}
use Rattle.basis.proofs.Tests.{and_left}
use Rattle.table.specs.declared.fleets.Fleet.{Fleet}
use Rattle.state.specs.Layout.{is_whole}
use Rattle.steps.proofs.Steps.{checks_with}
use Rattle.opening.specs.Opening.{Opens}

pub opened_fit : {othersFit : Bool} {bytes was before after : List ℕ} {f : Fleet} → Opens othersFit bytes was before after (Ok f) → othersFit ≡ true
opened_fit {othersFit} {bytes} {was} {before} a = and_left othersFit (is_whole was) ((checks_with othersFit bytes was _).0 (sym a.check)).0.fit
