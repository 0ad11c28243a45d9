-- Entries ordered by a stamp.
use Rattle.std.specs.Prelude.{Bool, List, [], ◌∷◌, ℕ, ◌<◌, ltb}

module _ {E : Type 0} (stamp : E → ℕ) where
  -- newer is a higher stamp
  abbrev pub by_stamp : E → E → Bool
  by_stamp e f = ltb (stamp f) (stamp e)

  -- the first stamp is above c, and every other above the one before it
  abbrev pub Climbing : ℕ → List E → Type 0
  Climbing c [] = Unit {0}
  Climbing c (e ∷ l) = (c < stamp e) × Climbing (stamp e) l
