-- Refusals in plain words: the paper's table of refusals, with conditions that are facts and not tests.
use Rattle.std.specs.Prelude.{ℕ, ◌<◌, ◌⊎◌, ◌≡◌, List, [], ◌∷◌}
use Rattle.table.specs.Checks.{Check, passes, refuses}

-- a line of that table: the number returned, and what is so of the place that is returned with it
pub record Condition : Type 1 where
  pub number : ℕ
  pub at : ℕ → Type 0

-- with place 0, where this is so
infix 10 ◌when◌
abbrev pub ◌when◌ : ℕ → Type 0 → Condition
number when fact = record { number = number; at = λ place. (place ≡ 0) × fact }

-- the lowest number below a limit that has the fault
pub record Lowest (limit : ℕ) (Fault : ℕ → Type 0) (place : ℕ) : Type 0 where
  pub below : place < limit
  pub fault : Fault place
  pub none_lower : (n : ℕ) → n < place → Fault n → ⊥

-- at that number, where there is one
abbrev pub at_lowest : ℕ → ℕ → (ℕ → Type 0) → Condition
at_lowest number limit Fault = record { number = number; at = Lowest limit Fault }

-- what the lines come to: the first that is so refuses, with its number and place; where none is so, they pass
abbrev pub Comes : List Condition → Check → Type 0
Comes [] c = c ≡ passes
Comes (l ∷ ls) c =
    ((place : ℕ) × l.at place × (c ≡ refuses l.number place))
    ⊎ (((place : ℕ) → l.at place → ⊥) × Comes ls c)
