-- A step of an accepted table and a well-formed state: what is found of it, and what is then done.
use Rattle.std.specs.Prelude.{ℕ, ◌<◌, Bool, cond, ◌≡◌, List, get_or, Result, Ok, Err}
use Rattle.basis.specs.KeySets.{has}
use Rattle.table.specs.Checks.{first_of}
use Rattle.table.specs.Tables.{Table}
use Rattle.table.specs.declared.refusals.Refused.{Refused}
use Rattle.table.specs.declared.refusals.Refused.TheVariants.{KeyNotInSet}
use Rattle.table.specs.Refusals.{check_of}
use Rattle.state.specs.Layout.{zc_at, zp_at}
use Rattle.state.specs.WellFormed.{Proper}
use Rattle.steps.specs.declared.Tally.{Tally}
use Rattle.steps.specs.Tallies.{no_tally}
use Rattle.steps.specs.Steps.{Outcome, done, outcome, own_checks, tally_of, after}
use Rattle.judging.specs.Judging.{Judges}
use Rattle.offering.specs.Passing.{Passing}
use Rattle.machine.specs.declared.checking.Planned.{Planned}
use Rattle.machine.specs.declared.checking.Planned.TheVariants.{Act, Offer}
use Rattle.machine.specs.declared.requests.Request.{Request}

-- what a step that is in range comes to
abbrev pub own_step : Table → List ℕ → ℕ → ℕ → ℕ → Outcome
own_step t was kind x number = outcome (first_of (own_checks t was kind x number)) was (tally_of t was kind x number) (after t was kind x number)

-- what a step that is refused comes to
abbrev pub stopped : Refused → List ℕ → Outcome
stopped e s = record { check = check_of e; tally = no_tally; state = s }

-- what a step comes to, with the state after in a buffer that came as `next`
abbrev pub into : List ℕ → Outcome → Outcome
into next o = outcome o.check next o.tally o.state

-- the kind of an offer: 2 for a confirm, 1 for a propagate
abbrev pub offer_kind : Bool → ℕ
offer_kind confirming = cond confirming 2 1

-- 18, of an offer
abbrev pub judged_offer : List ℕ → ℕ → ℕ → Bool → Result Planned Refused
judged_offer was x k confirming = cond (has (get_or was (cond confirming (zc_at x) (zp_at x)) 0) k) (Ok (Offer confirming)) (Err KeyNotInSet)

-- what a step that was planned so comes to, on state s
abbrev pub finished : Table → List ℕ → Request → Planned → Outcome
finished t s q (Act allowed) = done no_tally (after t s 0 q.agent q.number)
finished t s q (Offer confirming) = done (tally_of t s (offer_kind confirming) q.agent q.number) (after t s (offer_kind confirming) q.agent q.number)

-- what is asked of that state
abbrev pub Finishing : Table → List ℕ → Request → Planned → Type 0
Finishing t s q (Act allowed) = Proper t s × (q.agent < t.sizes.agents) × Judges t s q.agent q.number (Ok allowed)
Finishing t s q (Offer confirming) = Passing t s q.agent q.number

-- what a planned step counts, and the state after it
pub record Finishes (t : Table) (s : List ℕ) (q : Request) (p : Planned) (counted : Tally) (after : List ℕ) : Type 0 where
  pub tally : counted ≡ (finished t s q p).tally
  pub state : after ≡ (finished t s q p).state

-- the judgement of a step that comes to o
abbrev pub StepJudged : Table → List ℕ → Request → Outcome → Result Planned Refused → Type 0
StepJudged t was q o (Ok p) = (o ≡ finished t was q p) × Finishing t was q p
StepJudged t was q o (Err e) = o ≡ stopped e was
