-- What is asked of a table and a state where an entry is offered, and what is answered.
use Rattle.std.specs.Prelude.{ℕ, ◌*◌, ◌<◌, ◌≤◌, Bool, cond, ◌&&◌, ◌||◌, ◌≡◌, List}
use Rattle.basis.specs.KeySets.{has, plus_all}
use Rattle.table.specs.Tables.{Table, agent_limit}
use Rattle.state.specs.declared.Entry.{Entry}
use Rattle.state.specs.declared.Insertion.{Insertion}
use Rattle.state.specs.declared.Insertion.TheVariants.{Add, Update, Discard}
use Rattle.state.specs.Entries.{entry_of, newer, insertion}
use Rattle.state.specs.Standing.{HasBlocks}
use Rattle.steps.specs.declared.Response.{Response}
use Rattle.steps.specs.declared.Response.TheVariants.{Takes, Propagates, Ignores}
use Rattle.steps.specs.declared.Tally.{Tally}
use Rattle.steps.specs.Tallies.{tally, no_tally}

-- s has all blocks, x is an agent and k a stigmergy key
pub record Passing (t : Table) (s : List ℕ) (x k : ℕ) : Type 0 where
  pub blocks : HasBlocks s
  pub agent : x < t.sizes.agents
  pub key : k < t.sizes.stigmergy

-- entry e could touch an agent who has f, where the link reaches it: f is older, or in a confirm newer (an absent one is older than any)
abbrev pub touches : Entry → Entry → Bool → Bool → Bool
touches e f counts confirming = counts && (newer e f || (confirming && newer f e))

-- the set of those below n, by their entries for key k
abbrev pub touched : Entry → List ℕ → ℕ → Bool → Bool → ℕ → ℕ
touched e s k counts confirming n = plus_all (λ (y : ℕ). touches e (entry_of s y k) counts confirming) n 0

-- the response of an agent whom an offer could touch and the link reaches, by the rule that inserts the entry
abbrev pub rule_response : Insertion → Response
rule_response Add = Takes Add
rule_response Update = Takes Update
rule_response Discard = Propagates

-- of agent y, which has f, to entry e, by the set of those agents
abbrev pub response_in : ℕ → Entry → Entry → ℕ → Response
response_in linked e f y = cond (has linked y) (rule_response (insertion e f)) Ignores

-- what a response counts
abbrev pub insertion_tally : Insertion → Tally
insertion_tally Add = tally 1 0
insertion_tally Update = tally 0 1
insertion_tally Discard = no_tally

abbrev pub response_tally : Response → Tally
response_tally (Takes rule) = insertion_tally rule
response_tally Propagates = no_tally
response_tally Ignores = no_tally

-- each count of n steps, in each of which an agent counts at most once
pub record TallyWithin (n : ℕ) (c : Tally) : Type 0 where
  pub added : c.added ≤ agent_limit * n
  pub replaced : c.replaced ≤ agent_limit * n

-- the answer r, what all responses count, and the words that are left
pub record Passed (counted : Tally) (left : List ℕ) (r : Tally) (out : List ℕ) : Type 0 where
  pub answer : r ≡ counted
  pub state : out ≡ left
