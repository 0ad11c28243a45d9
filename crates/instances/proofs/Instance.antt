-- DEMAND 2 IS ABOUT SOMETHING: a table that is accepted, its loaded state, steps of each kind that are done and allowed, and one that is neither.
-- Assumes nothing.
use Prim.Native.Nat.{ℕ}
use mathlib.Core.Bool.{true}
use mathlib.Core.Path.{◌≡◌, refl, sym, ap, ◌∙◌}
use mathlib.Core.List.{List, [], ◌∷◌}
use native.Mathlib.Omega.{arith}
use Rattle.table.specs.Checks.{first_of, passes, refuses}
use Rattle.table.specs.Tables.{table_of}
use Rattle.term.specs.Acceptance.{table_checks}
use Rattle.state.specs.WellFormed.{loaded}
use Rattle.steps.specs.declared.Tally.{Tally}
use Rattle.steps.specs.Tallies.{tally}
use Rattle.steps.specs.Steps.{Outcome, done, step_of}
use Rattle.steps.proofs.Computing.{computing}
use Rattle.labs.specs.Agents.{System}
use Rattle.labs.specs.Reading.{system_of}
use Rattle.labs.specs.Demand2.{Allowed, Bytes, Ready}
use Rattle.labs.proofs.Ready.{loaded_ready}
use Rattle.labs.proofs.Demand2.{demand_2}
use Rattle.instances.proofs.DoneSteps.{small_bytes, done_allowed}

-- the table that the paper gives for labs_show: sizes 8, 0, 2, 1, 1, 0; kinds; operands
abbrev pub fleet : List ℕ
fleet =
    8 ∷ 0 ∷ 0 ∷ 0 ∷ 2 ∷ 0 ∷ 1 ∷ 0 ∷ 1 ∷ 0 ∷ 0 ∷ 0
    ∷ 32 ∷ 3 ∷ 34 ∷ 2 ∷ 16 ∷ 64 ∷ 64 ∷ 64
    ∷ 7 ∷ 0 ∷ 0 ∷ 0 ∷ 0 ∷ 0 ∷ 0 ∷ 0 ∷ 0 ∷ 0 ∷ 0 ∷ 0 ∷ 0 ∷ 0 ∷ 2 ∷ 0
    ∷ 0 ∷ 0 ∷ 0 ∷ 0 ∷ 4 ∷ 0 ∷ 0 ∷ 0 ∷ 1 ∷ 0 ∷ 0 ∷ 0 ∷ 3 ∷ 0 ∷ 0 ∷ 0 ∷ []

abbrev pub stepped : List ℕ → ℕ → ℕ → ℕ → Outcome
stepped s kind x number = step_of fleet s 16 kind x number

-- loaded; agent 0 writes, and propagates; agent 1 propagates, copies the entry to its attribute, and confirms
abbrev pub s₀ : List ℕ
s₀ = loaded (table_of fleet)

abbrev pub s₁ : List ℕ
s₁ = (stepped s₀ 0 0 0).state

abbrev pub s₂ : List ℕ
s₂ = (stepped s₁ 1 0 0).state

abbrev pub s₃ : List ℕ
s₃ = (stepped s₂ 1 1 0).state

abbrev pub s₄ : List ℕ
s₄ = (stepped s₃ 0 1 0).state

abbrev pub s₅ : List ℕ
s₅ = (stepped s₄ 2 1 0).state

-- by computing
table_passes : first_of (table_checks fleet true 16) ≡ passes
unfolding computing
table_passes = refl

steps_come : (stepped s₀ 0 0 0 ≡ done (tally 0 0) s₁) × (stepped s₁ 1 0 0 ≡ done (tally 1 0) s₂) × (stepped s₂ 1 1 0 ≡ done (tally 0 0) s₃) × (stepped s₃ 0 1 0 ≡ done (tally 0 0) s₄) × (stepped s₄ 2 1 0 ≡ done (tally 0 0) s₅)
    × ((stepped s₀ 0 1 0).check ≡ refuses 15 0)
unfolding computing
steps_come = (refl, refl, refl, refl, refl, refl)

fleet_small : Bytes fleet
unfolding computing
fleet_small = small_bytes fleet refl

pub fleet_ready : Ready fleet s₀ 16
fleet_ready = loaded_ready fleet fleet_small 16 table_passes

pub fleet_steps : Allowed (table_of fleet) (system_of s₀) (system_of s₁) 0 0 0 (tally 0 0) × Allowed (table_of fleet) (system_of s₁) (system_of s₂) 1 0 0 (tally 1 0)
    × Allowed (table_of fleet) (system_of s₂) (system_of s₃) 1 1 0 (tally 0 0) × Allowed (table_of fleet) (system_of s₃) (system_of s₄) 0 1 0 (tally 0 0)
    × Allowed (table_of fleet) (system_of s₄) (system_of s₅) 2 1 0 (tally 0 0)
fleet_steps =
    let g₁ = done_allowed fleet s₀ s₁ 16 0 0 0 (tally 0 0) fleet_ready steps_come.0 in
    let g₂ = done_allowed fleet s₁ s₂ 16 1 0 0 (tally 1 0) g₁.0 steps_come.1 in
    let g₃ = done_allowed fleet s₂ s₃ 16 1 1 0 (tally 0 0) g₂.0 steps_come.2 in
    let g₄ = done_allowed fleet s₃ s₄ 16 0 1 0 (tally 0 0) g₃.0 steps_come.3 in
    let g₅ = done_allowed fleet s₄ s₅ 16 2 1 0 (tally 0 0) g₄.0 steps_come.4 in
    (g₁.1, g₂.1, g₃.1, g₄.1, g₅.1)

-- agent 1 has nothing to copy yet: no rule allows its act, whatever system it would leave
pub fleet_refuses : (S' : System) (counted : Tally) → Allowed (table_of fleet) (system_of s₀) S' 0 1 0 counted → ⊥
fleet_refuses S' counted h =
    let w = demand_2.every fleet s₀ 16 0 1 0 counted fleet_ready S' h in
    let e : passes ≡ refuses 15 0 = sym (ap (λ (o : Outcome). o.check) w.1) ∙ steps_come.5 in
    let z : ◌≡◌ {A = ℕ} 0 1 = cc in omega arith
