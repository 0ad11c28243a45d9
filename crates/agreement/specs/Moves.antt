-- The moves that change a view. A move of a key looks at no other key.
use Rattle.std.specs.Prelude.{Bool, cond, not, ◌&&◌, ◌||◌, List, [], ◌∷◌, ℕ, T, eqb}
use Rattle.agreement.specs.View.{View}

-- what a step is to the key: agent x writes entry e, propagates or confirms the key; a refused step, or one of another key, is quiet
pub data Move (E : Type 0) : Type 0 where
  quiet : Move E
  write : ℕ → E → Move E
  propagate : ℕ → Move E
  confirm : ℕ → Move E

-- y is another agent, and the link from sender x to receiver y holds
abbrev pub linked : (ℕ → ℕ → Bool) → ℕ → ℕ → Bool
linked link x y = not (eqb x y) && link x y

module _ {E : Type 0} (newer : E → E → Bool) where
  -- x is linked to y and has the newer entry, which y takes
  abbrev pub takes : (ℕ → ℕ → Bool) → View E → ℕ → ℕ → Bool
  takes link v x y = linked link x y && newer (v.entry x) (v.entry y)

  -- x is linked to y and y has the newer entry, which y will propagate
  abbrev pub holds_newer : (ℕ → ℕ → Bool) → View E → ℕ → ℕ → Bool
  holds_newer link v x y = linked link x y && newer (v.entry y) (v.entry x)

  -- the view after a move, all links and entries judged before it
  unfoldable pub moved : (ℕ → ℕ → Bool) → Move E → View E → View E
  moved link quiet v = v
  moved link (write x e) v = record {
    entry = λ y. cond (eqb x y) e (v.entry y);
    waits = λ y. eqb x y || v.waits y;
  }
  moved link (propagate x) v = record {
    entry = λ y. cond (takes link v x y) (v.entry x) (v.entry y);
    waits = λ y. takes link v x y || (not (eqb x y) && v.waits y);
  }
  moved link (confirm x) v = record {
    entry = λ y. cond (takes link v x y) (v.entry x) (v.entry y);
    waits = λ y. takes link v x y || (holds_newer link v x y || v.waits y);
  }

  -- a write is newer than the entry that it replaces
  abbrev pub Fresh : Move E → View E → Type 0
  Fresh quiet v = Unit {0}
  Fresh (write x e) v = T (newer e (v.entry x))
  Fresh (propagate x) v = Unit {0}
  Fresh (confirm x) v = Unit {0}

-- the entry that a move writes, if any
abbrev pub wrote : {E : Type 0} → Move E → List E
wrote quiet = []
wrote (write x e) = e ∷ []
wrote (propagate x) = []
wrote (confirm x) = []
