-- `place_formed` meets its contract. Assumes nothing.
use Rattle.std.proofs.Common.{◌≡◌, false, sym, ap, ◌∙◌, length, Some, arith, rules}
use borrow.Author.Tests.{ne_eqb, le-leb, lt-leb}
use Rattle.steps.specs.Shelves.{place_formed}
use Rattle.shelf.proofs.Finding.{length-saved, not_here}
use Rattle.shelf.proofs.forming.place_formed.Goals as goal
use Rattle.shelf.proofs.forming.place_formed.Goals.{then-name-le-NAME_LIMIT, else-name-le-NAME_LIMIT}

pub well_formed-requires : goal.well_formed-requires
well_formed-requires c =
    let f = c.args.fleet.now.shaped in
    let w = ap length c.saved_of.ensures ∙ length-saved _ _ c.requires.0 c.requires.1 in
    record { limits = f.limits; nodes = omega (arith, f.kinds); blocks = omega arith }

pub returns-else-eq : goal.returns-else-eq
unfolding place_formed
returns-else-eq c =
    rw (c.if-eq.false, ne_eqb _ _ c.if-name-eq0.false) (elim c.if-name-le-NAME_LIMIT.branch [
      | then-name-le-NAME_LIMIT w ↦
          let e : w.eq.result ≡ false = sym w.value-is ∙ c.if-eq.false in
          let n = not_here _ _ w.place_of.result w.place_of.ensures c.args.place c.requires.1 in
          let differs : (w.place_of.result ≡ Some c.args.place → ⊥) = search rules in
          rw (le-leb _ _ w.if-name-le-NAME_LIMIT.true, n differs)
      | else-name-le-NAME_LIMIT w ↦ rw (lt-leb _ _ w.if-name-le-NAME_LIMIT.false)
    ])
