-- A residual: words that are one whole term.
use Rattle.std.specs.Prelude.{ℕ, ◌+◌, ◌-◌, ◌<◌, ◌≤◌, true, false, ◌≡◌, Option, Some, None, List, ◌++◌, length, take, drop, replicate}
use Rattle.table.specs.Tables.{Table}
use Rattle.term.specs.Terms.{Term, words, term_of, are_terms}
use Rattle.term.specs.Processes.{derivations, process, all_few}
use Rattle.choice.specs.declared.Gap.{Gap}
use Rattle.choice.specs.Outcomes.{most}
use Rattle.residual.specs.Reading.{lent_limit}

-- the words are one whole term over process nodes
pub record Whole (t : Table) (ws : List ℕ) : Type 0 where
  pub room : length ws ≤ lent_limit
  pub term : are_terms t 1 ws ≡ true

abbrev pub residual_term : List ℕ → Term
residual_term ws = term_of ws

-- each subterm has few derivations, and c is a choice
pub record Taking (t : Table) (T : Term) (c : ℕ) : Type 0 where
  pub few : all_few t T ≡ true
  pub choice : c < length (derivations (process t T))

-- each subterm has few derivations, and the term has so many
pub record Choices (t : Table) (T : Term) (n : ℕ) : Type 0 where
  pub few : all_few t T ≡ true
  pub count : n ≡ length (derivations (process t T))

-- what is found of a residual's choices: none where a subterm has too many
abbrev pub Offered : Table → Term → Option ℕ → Type 0
Offered t T None = all_few t T ≡ false
Offered t T (Some n) = Choices t T n

-- a bound of the words that a choice leaves: those of a node's choice, and the term's
abbrev pub limit_of : Table → Term → ℕ
limit_of t T = most t.sizes.definitions t.sizes.nodes + length (words T)

-- in so many words, what stands before a gap and after it are these
pub record Placed (new : List ℕ) (room : ℕ) (r : Gap) (out : List ℕ) : Type 0 where
  pub same : length out ≡ room
  pub order : r.front ≤ r.back
  pub end : r.back ≤ room
  pub words : take r.front out ++ drop r.back out ≡ new

-- the words have become these, with 0 after them
pub record Rewritten (new ws : List ℕ) (r : ℕ) (out : List ℕ) : Type 0 where
  pub size : r ≡ length new
  pub words : out ≡ new ++ replicate (length ws - length new) 0
