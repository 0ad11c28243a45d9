-- What the lent words hold: for each node its counts, actions first. Where a node is not counted, its first word is
-- larger than any count.
use Rattle.std.specs.Prelude.{ℕ, ◌+◌, ◌*◌, ◌≤◌, ◌<◌, Bool, true, false, ◌≡◌, List, leb, length, get_or, set}
use Rattle.table.specs.Tables.{Table, first_root, body_at}
use Rattle.table.specs.Sound.{Sound}
use Rattle.term.specs.Acceptance.{scratch_words}
use Rattle.term.specs.Exposure.{calls_below, bad_call}
use Rattle.term.specs.Processes.{derivation_limit, process_at, node_process}
use Rattle.accept.specs.Counts.{count_limit, counts, true_counts, counts_of}
use Rattle.accept.specs.declared.Counts.{Counts}

abbrev pub pair_at : List ℕ → ℕ → Counts
pair_at s n = counts (get_or s (2 * n) 0) (get_or s (2 * n + 1) 0)

-- the words with a pair put at node n
abbrev pub stored : List ℕ → ℕ → Counts → List ℕ
stored s n c = set (set s (2 * n) c.actions) (2 * n + 1) c.ticks

abbrev pub is_counted : List ℕ → ℕ → Bool
is_counted s n = leb (get_or s (2 * n) 0) count_limit

-- the word of a node that is not counted and leads back to node n
abbrev pub back : ℕ → ℕ
back n = count_limit + 1 + n

-- the words with node m leading back to node n
abbrev pub led : List ℕ → ℕ → ℕ → List ℕ
led s m n = set s (2 * m) (back n)

-- node n exposes calls of definitions below a level only, and the words hold its counts
pub record Settled (t : Table) (level : ℕ) (s : List ℕ) (n : ℕ) : Type 0 where
  pub calls : calls_below level (process_at t level n) ≡ true
  pub counts : pair_at s n ≡ counts_of (process_at t level n)

-- The table is sound, the nodes that are counted are settled at a level, and the bodies of the definitions below it
-- are among them.
pub record Held (t : Table) (level : ℕ) (s : List ℕ) : Type 0 where
  pub sound : Sound t
  pub words : scratch_words t.sizes ≤ length s
  pub low : level ≤ t.sizes.definitions
  pub lower : (d : ℕ) → d < level → bad_call t d ≡ false
  pub bodies : (d : ℕ) → d < level → is_counted s (body_at t d) ≡ true
  pub nodes : (n : ℕ) → n < first_root t → is_counted s n ≡ true → Settled t level s n

-- The words hold the true counts of every node that is no root, and they are few.
pub record Counted (t : Table) (s : List ℕ) : Type 0 where
  pub words : scratch_words t.sizes ≤ length s
  pub nodes : (n : ℕ) → n < first_root t → pair_at s n ≡ true_counts (node_process t n)
  pub few : (n : ℕ) → n < first_root t → (pair_at s n).actions + (pair_at s n).ticks ≤ derivation_limit
