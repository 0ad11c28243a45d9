-- Over-full nodes found by counting: a list of 65,536 derivations need not be written out to see that it is too long.
-- Assumes nothing.
use Prim.Native.Nat.{ℕ, ◌+◌}
use mathlib.Core.Bool.{Bool, true, not, ◌&&◌}
use mathlib.Core.Path.{◌≡◌, refl, ap, ◌∙◌, fun_ext}
use mathlib.Core.List.{List, [], ◌∷◌, ◌++◌}
use lib.Dec.{leb}
use Rattle.basis.specs.Numbers.{some_below, lowest}
use Rattle.basis.specs.Below.{below}
use Rattle.table.specs.Checks.{Check, refuses, refuse_at, first_of}
use Rattle.table.specs.Tables.{Table, sizes_of, table_of, within_limits, kind_at}
use Rattle.table.specs.Nodes.{process_rows, guard_rows, expression_rows, row_of, fields_here, is_process, fits, fitting, named, names_again, bad_node}
use Rattle.table.specs.Reach.{reach_step, reached_from, wrong_key}
use Rattle.table.specs.Measuring.{size_checks}
use Rattle.term.specs.Processes.{node_step, node_with, defined, node_process}
use Rattle.term.specs.Exposure.{can_tick, calls_below, bad_call}
use Rattle.term.specs.Choices.{tick_count, action_count}
use Rattle.term.specs.Acceptance.{overfull}
use Rattle.term.specs.Parts.{lent_check}
use Rattle.term.specs.Refused.{judge, doubled, CountsRefused}
use Rattle.term.proofs.Counting.{few_count}

-- the test by counting
counted_over : Table → ℕ → Bool
counted_over t n = is_process (kind_at t n) && not (leb (action_count (node_process t n) + tick_count (node_process t n)) 65535)

counted_over_lem : (t : Table) → overfull t ≡ counted_over t
unfolding counted_over
counted_over_lem t = fun_ext λ n. ap (λ (b : Bool). is_process (kind_at t n) && not b) (few_count (node_process t n))

judge_by : (ℕ → Bool) → List ℕ → Check
judge_by over bytes =
    let n = sizes_of bytes in
    let t = table_of bytes in
    first_of
    (size_checks bytes
    ++ (lent_check bytes true 100
    ∷ refuse_at 4 n.nodes (lowest (bad_node t) n.nodes)
    ∷ refuse_at 5 n.nodes (lowest (wrong_key t) n.nodes)
    ∷ refuse_at 6 n.definitions (lowest (bad_call t) n.definitions)
    ∷ refuse_at 7 n.nodes (lowest over n.nodes) ∷ []))

judge_by_lem : (bytes : List ℕ) → judge bytes ≡ judge_by (overfull (table_of bytes)) bytes
unfolding judge_by
judge_by_lem bytes = refl

doubled_counted : judge_by (counted_over (table_of doubled)) doubled ≡ refuses 7 1
unfolding judge_by counted_over some_below lowest below first_of within_limits process_rows guard_rows expression_rows row_of fields_here fits
    named names_again fitting bad_node reach_step reached_from wrong_key node_step node_with defined node_process can_tick calls_below action_count tick_count
doubled_counted = refl

pub counts_refused : CountsRefused
counts_refused = record { lowest_node = judge_by_lem doubled ∙ ap (λ (over : ℕ → Bool). judge_by over doubled) (counted_over_lem (table_of doubled)) ∙ doubled_counted }
