-- Lists of moves of one key, each with the key's links as they are before it.
use Rattle.std.specs.Prelude.{Bool, ◌≡◌, List, [], ◌∷◌, ◌++◌, ℕ, T}
use Rattle.agreement.specs.View.{View}
use Rattle.agreement.specs.Moves.{Move, propagate, moved, Fresh, wrote}

-- a move, and which links (sender, then receiver) hold before it
pub record Turn (E : Type 0) : Type 0 where
  pub link : ℕ → ℕ → Bool
  pub move : Move E

module _ {E : Type 0} (newer : E → E → Bool) where
  -- the view after a turn, and after a list of turns
  abbrev pub after_turn : Turn E → View E → View E
  after_turn t v = moved newer t.link t.move v

  abbrev pub after_turns : List (Turn E) → View E → View E
  after_turns [] v = v
  after_turns (t ∷ ts) v = after_turns ts (after_turn t v)

  -- every write of the list is newer than the entry that it replaces
  abbrev pub AllFresh : List (Turn E) → View E → Type 0
  AllFresh [] v = Unit {0}
  AllFresh (t ∷ ts) v = Fresh newer t.move v × AllFresh ts (after_turn t v)

-- the key's history: the entries written, the first first
abbrev pub history : {E : Type 0} → List (Turn E) → List E
history [] = []
history (t ∷ ts) = wrote t.move ++ history ts

-- the link from a to b held before every turn in which a propagates the key; of other turns nothing is asked
abbrev pub PropagateLinked : {E : Type 0} → ℕ → ℕ → List (Turn E) → Type 0
PropagateLinked a b [] = Unit {0}
PropagateLinked a b (t ∷ ts) = (t.move ≡ propagate a → T (t.link a b)) × PropagateLinked a b ts
