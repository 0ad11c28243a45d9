-- Refusals in order: a call's checks are a list, and the first that refuses decides.
use Rattle.std.specs.Prelude.{ℕ, Bool, true, false, cond, List, [], ◌∷◌, ltb}

-- a line of the paper's table of refusals: the number returned, when, and the place
pub record Refusal : Type 0 where
  pub number : ℕ
  pub when : Bool
  pub place : ℕ

-- refuses with this number, and no place, where the test holds
abbrev pub refuse_if : ℕ → Bool → Refusal
refuse_if number test = record { number = number; when = test; place = 0 }

-- refuses with this number at this place, where the place is below a limit
abbrev pub refuse_at : ℕ → ℕ → ℕ → Refusal
refuse_at number limit place = record { number = number; when = ltb place limit; place = place }

-- what checks come to: they pass, or refuse with the paper's number and a place
pub data Check : Type 0 where
  passes : Check
  refuses : ℕ → ℕ → Check

-- the first of the lines that refuses
unfoldable pub first_of : List Refusal → Check
first_of [] = passes
first_of (r ∷ rs) = cond r.when (refuses r.number r.place) (first_of rs)

abbrev pub passed : Check → Bool
passed passes = true
passed (refuses number place) = false

-- what comes of it where they pass; a refusal leaves it as it came
abbrev pub if_passes : {A : Type 0} → Check → A → A → A
if_passes passes after was = after
if_passes (refuses number place) after was = was

-- the number and the place to report; 0 and 0 where nothing is refused
abbrev pub number_of : Check → ℕ
number_of passes = 0
number_of (refuses number place) = number

abbrev pub place_of : Check → ℕ
place_of passes = 0
place_of (refuses number place) = place
