-- Entries compared by a computed test: `newer e f` says that e is newer than f.
use Rattle.std.specs.Prelude.{Bool, ◌≡◌, ◌⊎◌, T}
use mathlib.Core.List.{List, Memᴰ}

-- the test is a strict order
pub record Order (E : Type 0) (newer : E → E → Bool) : Type 0 where
  pub irreflexive : (e : E) → T (newer e e) → ⊥
  pub transitive : (e f g : E) → T (newer e f) → T (newer f g) → T (newer e g)

-- e is f, or newer than f
abbrev pub NotOlder : {E : Type 0} → (E → E → Bool) → E → E → Type 0
NotOlder newer e f = (e ≡ f) ⊎ T (newer e f)

-- of two different entries of the list one is newer
abbrev pub Comparable : {E : Type 0} → (E → E → Bool) → List E → Type 0
Comparable {E} newer l = (e f : E) → Memᴰ e l → Memᴰ f l → (e ≡ f) ⊎ (T (newer e f) ⊎ T (newer f e))
