-- The counts of the term that begins at a place among words.
use Rattle.std.specs.Prelude.{ℕ, ◌+◌, ◌*◌, ◌≤◌, ◌<◌, cond, ◌≡◌, List, ◌++◌, eqb, ltb, length, drop, true, false, Option, Some, None, IfSome}
use Rattle.table.specs.Tables.{Table, first_root}
use Rattle.term.specs.Terms.{Term, words, seq_word, tick_word}
use Rattle.term.specs.Accepted.{Over}
use Rattle.term.specs.Processes.{process, all_few}
use Rattle.accept.specs.declared.Counts.{Counts}
use Rattle.accept.specs.Counts.{counts, Capped, counts_of, seq_counts, par_counts}
use Rattle.accept.specs.Scratch.{pair_at, Counted}
use Rattle.residual.specs.declared.Measured.{Measured}

-- of a word that is a term by itself: a tick has one, a node those of its pair, and idle none
unfoldable pub leaf_counts : ℕ → List ℕ → ℕ → Counts
leaf_counts roots s w = cond (eqb w tick_word) (counts 0 1) (cond (ltb w roots) (pair_at s w) (counts 0 0))

-- of an operator's term, from those of its parts
unfoldable pub operator_counts : ℕ → Counts → Counts → Counts
operator_counts w p q = cond (eqb w seq_word) (seq_counts p q) (par_counts p q)

-- there is a pair of words for each node below the first root, and no count is over 65,536
pub record Pairs (roots : ℕ) (s : List ℕ) : Type 0 where
  pub nodes : roots ≤ 4096
  pub room : 2 * roots ≤ length s
  pub small : (n : ℕ) → n < roots → Capped (pair_at s n)

-- what is found of term T at a place
pub record Told (t : Table) (T : Term) (at : ℕ) (m : Measured) : Type 0 where
  pub next : m.next.at ≡ at + length (words T)
  pub counts : m.counts ≡ counts_of (process t T)
  pub few : all_few t T ≡ true

-- nothing is found of a term with a subterm that has too many derivations
abbrev pub ToldIf : Table → Term → ℕ → Option Measured → Type 0
ToldIf t T at None = all_few t T ≡ false
ToldIf t T at (Some m) = Told t T at m

-- what is found at a place of ws has counts that are held, and ends further on
pub record Within (ws : List ℕ) (at : ℕ) (m : Measured) : Type 0 where
  pub small : Capped m.counts
  pub on : at < m.next.at
  pub end : m.next.at ≤ length ws

-- what is found at a place of ws: if a term stands there, what is said of it
pub record Found (roots : ℕ) (s ws : List ℕ) (at : ℕ) (r : Option Measured) : Type 0 where
  pub within : IfSome r (Within ws at)
  pub right : (t : Table) → first_root t ≡ roots → Counted t s → (T : Term) (rest : List ℕ) → Over t T → drop at ws ≡ words T ++ rest → ToldIf t T at r
