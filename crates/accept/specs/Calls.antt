-- What a visit of a node finds, what it takes to settle one, and refusals 6 and 7.
use Rattle.std.specs.Prelude.{ℕ, ◌<◌, Bool, true, false, cond, ◌&&◌, ◌≡◌, List, [], ◌∷◌, eqb, Result}
use Rattle.basis.specs.Numbers.{lowest}
use Rattle.table.specs.Checks.{passes, refuse_at, first_of}
use Rattle.table.specs.Refusals.{result_check}
use Rattle.table.specs.declared.refusals.Refused.{Refused}
use Rattle.table.specs.Tables.{Table, first_root}
use Rattle.term.specs.Acceptance.{overfull}
use Rattle.basis.specs.Kinds as kind
use Rattle.term.specs.Exposure.{calls_below, bad_call}
use Rattle.term.specs.Processes.{process_at}
use Rattle.accept.specs.Counts.{counts_of, choice_counts, seq_counts, par_counts}
use Rattle.accept.specs.Scratch.{pair_at, is_counted, Held}
use Rattle.accept.specs.declared.Counts.{Counts}
use Rattle.accept.specs.declared.Visit.{Visit}
use Rattle.accept.specs.declared.Visit.TheVariants.{Done, Part, High}

-- the counts of a sequence, a choice or a parallel, from those of the parts
unfoldable pub joined_counts : ℕ → Counts → Counts → Counts
joined_counts k p q = cond (eqb k kind.sequence) (seq_counts p q) (cond (eqb k kind.choice) (choice_counts p q) (par_counts p q))

-- the right part is not exposed: the left of a sequence cannot tick
abbrev pub right_hidden : ℕ → Counts → Bool
right_hidden k p = eqb k kind.sequence && eqb p.ticks 0

-- a sequence, a choice or a parallel of parts p and q
unfoldable pub pair_visit : List ℕ → ℕ → ℕ → ℕ → Visit
pair_visit s k p q =
    cond (is_counted s p)
    (cond (right_hidden k (pair_at s p)) (Done (pair_at s p))
    (cond (is_counted s q) (Done (joined_counts k (pair_at s p) (pair_at s q))) (Part q)))
    (Part p)

-- What a visit of node n finds: its counts; a part that is exposed and not counted yet; or a call that is not below
-- the level.
abbrev pub Visits : Table → ℕ → List ℕ → ℕ → Visit → Type 0
Visits t level s n (Done c) = (c ≡ counts_of (process_at t level n)) × (calls_below level (process_at t level n) ≡ true)
Visits t level s n (Part m) =
    (m < n) × (is_counted s m ≡ false) ×
    (calls_below level (process_at t level m) ≡ false → calls_below level (process_at t level n) ≡ false)
Visits t level s n High = calls_below level (process_at t level n) ≡ false

-- whether node n is settled, and the words before and after: what was counted stays so
pub record Settles (t : Table) (level n : ℕ) (before after : List ℕ) (r : Bool) : Type 0 where
  pub held : Held t level after
  pub kept : (k : ℕ) → is_counted before k ≡ true → is_counted after k ≡ true
  pub counted : r ≡ true → is_counted after n ≡ true
  pub high : r ≡ false → calls_below level (process_at t level n) ≡ false

-- refusal 6, and the words that it leaves: held for all definitions, where none is bad
pub record CallsJudged (t : Table) (s : List ℕ) (r : Result Unit Refused) : Type 0 where
  pub check : result_check r ≡ first_of (refuse_at 6 t.sizes.definitions (lowest (bad_call t) t.sizes.definitions) ∷ [])
  pub held : result_check r ≡ passes → Held t t.sizes.definitions s

-- node n is counted: its counts, and the words before and after
pub record CountsAt (t : Table) (n : ℕ) (before after : List ℕ) (c : Counts) : Type 0 where
  pub held : Held t t.sizes.definitions after
  pub kept : (k : ℕ) → is_counted before k ≡ true → is_counted after k ≡ true
  pub counted : is_counted after n ≡ true
  pub pair : c ≡ pair_at after n

-- refusal 7, and the words that it leaves: the counts of all nodes, where none is over-full
pub record NodesJudged (t : Table) (s : List ℕ) (r : Result Unit Refused) : Type 0 where
  pub check : result_check r ≡ first_of (refuse_at 7 t.sizes.nodes (lowest (overfull t) t.sizes.nodes) ∷ [])
  pub held : Held t t.sizes.definitions s
  pub all : result_check r ≡ passes → (n : ℕ) → n < first_root t → is_counted s n ≡ true
