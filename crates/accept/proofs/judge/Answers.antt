-- `accept::judge` meets its contract: 4 and 5, then 6 and 7.
-- Assumes nothing.
use mathlib.Core.Path.{sym}
use mathlib.Core.List.{[], ◌∷◌}
use native.Mathlib.Omega.{arith}
use Rattle.std.proofs.lemmas.Result.{err_from_is_err_and}
use Rattle.basis.specs.Numbers.{lowest}
use Rattle.table.specs.Tables.{Table}
use Rattle.table.specs.Fleets.{table_in}
use Rattle.table.specs.Checks.{Refusal, refuse_at}
use Rattle.table.specs.Nodes.{bad_node}
use Rattle.table.specs.Reach.{wrong_key}
use Rattle.table.proofs.Checks.{line_none}
use Rattle.term.specs.Parts.{term_checks}
use Rattle.accept.proofs.Answering.{judged_refused, judged_later}
use Rattle.accept.proofs.judge.Goals as goal

abbrev four : Table → Refusal
four t = refuse_at 4 t.sizes.nodes (lowest (bad_node t) t.sizes.nodes)

abbrev five : Table → Refusal
five t = refuse_at 5 t.sizes.nodes (lowest (wrong_key t) t.sizes.nodes)

pub returns-in_err-doubtful : goal.returns-in_err-doubtful
returns-in_err-doubtful c =
    let t = table_in c.args.fleet.now in
    let p = err_from_is_err_and c.from_residual.result c.from_residual.ensures.1 in
    rw (p.1, p.2) (judged_refused (four t ∷ []) (five t ∷ term_checks t) _ c.in_err-doubtful.ensures.check)

pub lowest_wrong-requires-clause-fine : goal.lowest_wrong-requires-clause-fine
lowest_wrong-requires-clause-fine c = line_none _ (bad_node (table_in c.args.fleet.now)) 4 (sym c.in_ok-doubtful.ensures.check)

pub returns-in_err-lowest_wrong : goal.returns-in_err-lowest_wrong
returns-in_err-lowest_wrong c =
    let t = table_in c.args.fleet.now in
    let r = c.from_residual-in_err-lowest_wrong in
    let p = err_from_is_err_and r.result r.ensures.1 in
    rw (p.1, p.2)
    (judged_later (four t ∷ []) (five t ∷ term_checks t) c.in_ok-doubtful.ensures.check
    (judged_refused (five t ∷ []) (term_checks t) _ c.in_err-lowest_wrong.ensures))

pub judge_terms-requires : goal.judge_terms-requires
judge_terms-requires c =
    let f = c.args.fleet.now in
    let t = table_in f in (
      record {
        shaped = f.shaped;
        nodes = line_none _ (bad_node t) 4 (sym c.in_ok-doubtful.ensures.check);
        keys = line_none _ (wrong_key t) 5 (sym c.in_ok-lowest_wrong.ensures);
      },
      omega arith,
    )

pub returns : goal.returns
returns c =
    let t = table_in c.args.fleet.now in
    judged_later (four t ∷ []) (five t ∷ term_checks t) c.in_ok-doubtful.ensures.check
    (judged_later (five t ∷ []) (term_checks t) c.in_ok-lowest_wrong.ensures c.judge_terms.ensures)
