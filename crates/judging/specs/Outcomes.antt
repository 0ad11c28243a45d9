-- Refusals 15 to 17: what a choice does, and how many words it leaves.
use Rattle.std.specs.Prelude.{ℕ, ◌&&◌, ◌≡◌, List, [], ◌∷◌, leb, Result, Ok, Err}
use Rattle.table.specs.Checks.{Check, passes, Refusal, refuse_if, first_of}
use Rattle.table.specs.Tables.{Table}
use Rattle.table.specs.declared.refusals.Refused.{Refused}
use Rattle.table.specs.Refusals.{check_of, result_check}
use Rattle.term.specs.declared.Label.{Label}
use Rattle.term.specs.declared.Label.TheVariants.{Ticking, Acting}
use Rattle.term.specs.Accepted.{Labelled}
use Rattle.state.specs.Entries.{clock_limit, clock_of}
use Rattle.evaluation.specs.Situated.{Situated}
use Rattle.steps.specs.Acts.{word_in, value_for, lacks_value, writes_entry, last_checks}
use Rattle.judging.specs.declared.Allowed.{Allowed}

-- the word that an act of a label sets: 0 for a tick
abbrev pub word_for : Table → List ℕ → ℕ → Label → ℕ
word_for t was x Ticking = 0
word_for t was x (Acting n) = word_in (value_for t was x n)

-- what is found of an act of agent x whose guards read these keys: what its checks come to, and what it does
abbrev pub Found : Table → List ℕ → ℕ → Label → ℕ → Check → Result Allowed Refused → Type 0
Found t was x label keys check (Err e) = check ≡ check_of e
Found t was x label keys check (Ok a) = (check ≡ passes) × (a.label ≡ label) × (a.value ≡ word_for t was x label) × (a.keys ≡ keys)

-- 15 and 16 of what is done, and the word that it sets
abbrev pub value_checks : Table → List ℕ → ℕ → Label → List Refusal
value_checks t was x label =
    refuse_if 15 (lacks_value t was x label)
    ∷ refuse_if 16 (writes_entry t label && leb clock_limit (clock_of was))
    ∷ []

pub record Sets (t : Table) (was : List ℕ) (x : ℕ) (label : Label) (r : Result ℕ Refused) : Type 0 where
  pub check : result_check r ≡ first_of (value_checks t was x label)
  pub word : (w : ℕ) → r ≡ Ok w → w ≡ word_for t was x label

-- 15 to 17, of what leaves so many words
abbrev pub Ended : Table → List ℕ → ℕ → Label → ℕ → ℕ → Result Allowed Refused → Type 0
Ended t was x label keys size r = Found t was x label keys (first_of (last_checks t was x label size)) r

-- the action is of the table, and agent x can be asked for its value
pub record Doing (t : Table) (was : List ℕ) (x : ℕ) (label : Label) : Type 0 where
  pub situated : Situated was x x
  pub labelled : Labelled t label
