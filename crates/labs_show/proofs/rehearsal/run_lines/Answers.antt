-- `labs_show::rehearsal::run_lines` meets its contract: what is printed of a done run fits.
-- Assumes nothing.
use native.Mathlib.Omega.{arith}
use Rattle.lines.proofs.Sizes.{Counts, done_fits}
use Rattle.lines.proofs.Writing.{wrote_length}
use Rattle.lines.proofs.Pages.{writes_then}
use Rattle.labs_show.proofs.rehearsal.run_lines.Goals as goal

pub totals_line-requires : goal.totals_line-requires
totals_line-requires c =
    let t = c.args.totals in
    let k : Counts t = record { done = omega arith; refused = omega arith; added = omega arith; replaced = omega arith } in
    let b = done_fits c.args.state.now (λ i. (c.type_inv.state i).fits) t k c.requires.0.agents in
    omega arith

pub state_lines-requires : goal.state_lines-requires
state_lines-requires c =
    let t = c.args.totals in
    let k : Counts t = record { done = omega arith; refused = omega arith; added = omega arith; replaced = omega arith } in
    let b = done_fits c.args.state.now (λ i. (c.type_inv.state i).fits) t k c.requires.0.agents in
    let w = c.totals_line.ensures.wrote in
    (c.requires.0, record { fits = omega (arith, w.ends, wrote_length w) })

pub returns : goal.returns
returns c = writes_then c.totals_line.ensures c.state_lines.ensures
