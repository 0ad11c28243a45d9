-- Load and step: for every input, what is answered and the state after.
use Rattle.std.specs.Prelude.{ℕ, zero, suc, Bool, true, false, not, ◌&&◌, ◌||◌, List, [], ◌∷◌, ◌++◌, ltb}
use Rattle.basis.specs.KeySets.{has}
use Rattle.table.specs.Checks.{Check, passes, refuses, Refusal, refuse_if, first_of, if_passes}
use Rattle.table.specs.Tables.{Table, table_of}
use Rattle.term.specs.Acceptance.{table_checks}
use Rattle.state.specs.Layout.{is_whole, zc_of, zp_of}
use Rattle.state.specs.WellFormed.{well_formed, loaded}
use Rattle.steps.specs.Acts.{act_checks, chosen, acted}
use Rattle.steps.specs.Offers.{offer_tally, sent}
use Rattle.steps.specs.declared.Tally.{Tally}
use Rattle.steps.specs.Tallies.{no_tally}

-- what a call comes to: its check, what it counts, and the state after
pub record Outcome : Type 0 where
  pub check : Check
  pub tally : Tally
  pub state : List ℕ

abbrev pub done : Tally → List ℕ → Outcome
done tally s = record { check = passes; tally = tally; state = s }

abbrev pub refused : ℕ → ℕ → List ℕ → Outcome
refused number place s = record { check = refuses number place; tally = no_tally; state = s }

-- a call that is refused leaves the state as it came, and counts nothing
unfoldable pub outcome : Check → List ℕ → Tally → List ℕ → Outcome
outcome c was tally state = record { check = c; tally = if_passes c tally no_tally; state = if_passes c state was }

abbrev pub load_of : List ℕ → List ℕ → ℕ → Outcome
load_of bytes was scratchLength =
    outcome (first_of (table_checks bytes (is_whole was) scratchLength)) was no_tally (loaded (table_of bytes))

-- kind, agent or key out of range; an act's number is a choice, of which 13 judges
abbrev pub out_of_range : Table → ℕ → ℕ → ℕ → Bool
out_of_range t kind x number =
    not (ltb kind 3) || (not (ltb x t.sizes.agents) || (ltb 0 kind && not (ltb number t.sizes.stigmergy)))

module _ (t : Table) (was : List ℕ) where
  -- what is a kind's own: act 11 to 17; propagate and confirm 18
  abbrev pub own_checks : ℕ → ℕ → ℕ → List Refusal
  own_checks zero x c = act_checks t was x c
  own_checks (suc zero) x k = refuse_if 18 (not (has (zp_of was x) k)) ∷ []
  own_checks (suc (suc kind)) x k = refuse_if 18 (not (has (zc_of was x) k)) ∷ []

  abbrev pub tally_of : ℕ → ℕ → ℕ → Tally
  tally_of zero x c = no_tally
  tally_of (suc kind) x k = offer_tally t was x k true t.sizes.agents

  abbrev pub after : ℕ → ℕ → ℕ → List ℕ
  after zero x c = acted t was x (chosen t was x c)
  after (suc zero) x k = sent t was x k true false t.sizes.agents
  after (suc (suc kind)) x k = sent t was x k true true t.sizes.agents

  abbrev pub step_checks : ℕ → ℕ → ℕ → List Refusal
  step_checks kind x number = refuse_if 10 (out_of_range t kind x number) ∷ own_checks kind x number

  -- a step of an accepted table and a well-formed state
  unfoldable pub step_in : ℕ → ℕ → ℕ → Outcome
  step_in kind x number =
      outcome (first_of (step_checks kind x number)) was
      (tally_of kind x number) (after kind x number)

-- 9: the state is not well formed. othersFit: whether what the call lends beside state and scratch has the lengths that 8 asks
abbrev pub state_checks_with : Bool → List ℕ → List ℕ → ℕ → List Refusal
state_checks_with othersFit bytes was scratchLength =
    table_checks bytes (othersFit && is_whole was) scratchLength ++ (refuse_if 9 (not (well_formed (table_of bytes) was)) ∷ [])

-- of a call that lends nothing else whose length 8 judges
abbrev pub state_checks : List ℕ → List ℕ → ℕ → List Refusal
state_checks bytes was scratchLength = state_checks_with true bytes was scratchLength

-- a step of any table and state
unfoldable pub step_of : List ℕ → List ℕ → ℕ → ℕ → ℕ → ℕ → Outcome
step_of bytes was scratchLength kind x number =
    outcome (first_of (state_checks bytes was scratchLength ++ step_checks (table_of bytes) was kind x number)) was
    (tally_of (table_of bytes) was kind x number) (after (table_of bytes) was kind x number)
