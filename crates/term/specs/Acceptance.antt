-- Which tables are accepted. The call says whether the buffers that it was lent besides have their lengths; how many scratch words are
-- enough, the table says.
use Rattle.std.specs.Prelude.{ℕ, ◌+◌, ◌*◌, Bool, not, ◌&&◌, ◌||◌, List, [], ◌∷◌, ltb, eqb, length}
use Rattle.basis.specs.Numbers.{lowest}
use Rattle.table.specs.declared.Sizes.{Sizes}
use Rattle.table.specs.Checks.{Refusal, refuse_if, refuse_at}
use Rattle.table.specs.Tables.{Table, header_bytes, within_limits, sizes_of, table_of, kind_at}
use Rattle.table.specs.Nodes.{is_process, bad_node}
use Rattle.table.specs.Reach.{wrong_key}
use Rattle.term.specs.Processes.{node_process, few}
use Rattle.term.specs.Exposure.{bad_call}

-- how many scratch words a table needs
abbrev pub scratch_words : Sizes → ℕ
scratch_words n = 2 * n.nodes

-- a process node with over 65,535 derivations
abbrev pub overfull : Table → ℕ → Bool
overfull t n = is_process (kind_at t n) && not (few (node_process t n))

-- 1, 2, 3, 8, 4, 5, 6 and 7, in this order
abbrev pub table_checks : List ℕ → Bool → ℕ → List Refusal
table_checks bytes fits scratchLength =
    let n = sizes_of bytes in
    let t = table_of bytes in
    refuse_if 1 (ltb (length bytes) header_bytes)
    ∷ refuse_if 2 (not (within_limits n))
    ∷ refuse_if 3 (not (eqb (length bytes) (header_bytes + 5 * n.nodes)))
    ∷ refuse_if 8 (not fits || ltb scratchLength (scratch_words n))
    ∷ refuse_at 4 n.nodes (lowest (bad_node t) n.nodes)
    ∷ refuse_at 5 n.nodes (lowest (wrong_key t) n.nodes)
    ∷ refuse_at 6 n.definitions (lowest (bad_call t) n.definitions)
    ∷ refuse_at 7 n.nodes (lowest (overfull t) n.nodes)
    ∷ []
