-- Reading words from the front.
use Rattle.std.specs.Prelude.{ℕ, ◌+◌, Bool, cond, ◌&&◌, ◌||◌, Option, Some, None, List, eqb, ltb, length, get_or}
use Rattle.table.specs.Nodes.{is_process}
use Rattle.term.specs.Terms.{tick_word, idle_word}
use Rattle.residual.specs.declared.Cursor.{Cursor}

-- the word at a place and the cursor after it; none at the end
abbrev pub read_at : List ℕ → ℕ → Option (ℕ × Cursor)
read_at ws at = cond (ltb at (length ws)) (Some (get_or ws at 0, record { at = at + 1 })) None

-- a word that is a term by itself: tick, idle, or a process node below the first root
abbrev pub leaf_word : ℕ → List ℕ → ℕ → Bool
leaf_word roots kinds w = eqb w tick_word || (eqb w idle_word || (ltb w roots && is_process (get_or kinds w 0)))

-- words that a lent residual has at most
abbrev pub lent_limit : ℕ
lent_limit = 65535
