-- The lines of a table's checks from 8 on, as the code goes through them.
use Rattle.std.specs.Prelude.{ℕ, Bool, not, ◌||◌, List, [], ◌∷◌, ltb}
use Rattle.basis.specs.Numbers.{lowest}
use Rattle.table.specs.Checks.{Refusal, refuse_if, refuse_at}
use Rattle.table.specs.Tables.{Table, sizes_of}
use Rattle.table.specs.Nodes.{bad_node}
use Rattle.table.specs.Reach.{wrong_key}
use Rattle.term.specs.Exposure.{bad_call}
use Rattle.term.specs.Acceptance.{scratch_words, overfull}

-- 8
abbrev pub lent_check : List ℕ → Bool → ℕ → Refusal
lent_check bytes fits scratchLength = refuse_if 8 (not fits || ltb scratchLength (scratch_words (sizes_of bytes)))

-- 6 and 7
abbrev pub term_checks : Table → List Refusal
term_checks t =
    refuse_at 6 t.sizes.definitions (lowest (bad_call t) t.sizes.definitions)
    ∷ refuse_at 7 t.sizes.nodes (lowest (overfull t) t.sizes.nodes)
    ∷ []

-- 4, 5, 6 and 7
abbrev pub content_checks : Table → List Refusal
content_checks t =
    refuse_at 4 t.sizes.nodes (lowest (bad_node t) t.sizes.nodes)
    ∷ refuse_at 5 t.sizes.nodes (lowest (wrong_key t) t.sizes.nodes)
    ∷ term_checks t
