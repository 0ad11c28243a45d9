-- `accept::judge_terms` meets its contract.
-- Assumes nothing.
use mathlib.Core.Path.{sym, ◌∙◌}
use mathlib.Core.List.{[], ◌∷◌}
use Rattle.std.proofs.lemmas.Result.{err_from_is_err_and}
use Rattle.basis.specs.Numbers.{lowest}
use Rattle.table.specs.Tables.{Table}
use Rattle.table.specs.Fleets.{table_in}
use Rattle.table.specs.Checks.{Refusal, refuse_at}
use Rattle.table.proofs.Checks.{line_none}
use Rattle.term.specs.Exposure.{bad_call}
use Rattle.term.specs.Acceptance.{overfull}
use Rattle.accept.proofs.Fullness.{counted}
use Rattle.accept.proofs.Answering.{judged_refused, judged_later}
use Rattle.accept.proofs.judge_terms.Goals as goal

abbrev six : Table → Refusal
six t = refuse_at 6 t.sizes.definitions (lowest (bad_call t) t.sizes.definitions)

abbrev seven : Table → Refusal
seven t = refuse_at 7 t.sizes.nodes (lowest (overfull t) t.sizes.nodes)

pub returns-in_err-lowest_bad_call : goal.returns-in_err-lowest_bad_call
returns-in_err-lowest_bad_call c =
    let t = table_in c.args.fleet.now in
    let p = err_from_is_err_and c.from_residual.result c.from_residual.ensures.1 in
    rw (p.1, p.2) (judged_refused (six t ∷ []) (seven t ∷ []) _ c.in_err-lowest_bad_call.ensures.check)

pub returns : goal.returns
returns c =
    let t = table_in c.args.fleet.now in
    let calls = c.in_ok-lowest_bad_call.ensures.check in
    let j = c.lowest_overfull.ensures in
    judged_later (six t ∷ []) (seven t ∷ []) calls
    (record {
      check = j.check;
      counted = λ e.
          counted j.held (j.all e)
          (record {
            sound = c.requires.0;
            calls = line_none _ (bad_call t) 6 (sym calls);
            nodes = line_none _ (overfull t) 7 (sym j.check ∙ e);
          });
    })
