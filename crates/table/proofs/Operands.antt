-- What the fields of a node say, where they fit.
-- Assumes nothing.
use Prim.Native.Nat.{ℕ, ◌<◌, ◌≤◌}
use mathlib.Core.Bool.{Bool, true, ◌&&◌}
use mathlib.Core.Path.{◌≡◌, refl}
use mathlib.Core.Logic.{⊎_elim}
use native.Mathlib.Omega.{arith}
use lib.Dec.{ltb, eqb}
use borrow.Author.Tests.{ltb-true, leb-true, eqb-true, eq-eqb}
use Rattle.basis.proofs.Tests.{not_both, and_left, and_right, and_both, or_left, or_right, or_either}
use Rattle.table.specs.declared.Field.{Field}
use Rattle.table.specs.declared.Field.TheVariants.{Never, Zero, Attribute, Stigmergy, Environment, Party, Definition, Process, Guard, Expression, Value}
use Rattle.table.specs.Tables.{Table, kind_at, p_at, q_at}
use Rattle.table.specs.Nodes.{is_node, is_process, is_guard, is_expression, fields_at, fits, fitting, left_node, right_node, names}
use Rattle.table.specs.Sound.{LowerProcess, LowerGuard, LowerExpression}

module _ (t : Table) where
  -- what a field of node n says of its number
  abbrev pub Holds : ℕ → Field → ℕ → Type 0
  Holds n Never x = ⊥
  Holds n Zero x = x ≡ 0
  Holds n Attribute x = x < t.sizes.attributes
  Holds n Stigmergy x = x < t.sizes.stigmergy
  Holds n Environment x = x < t.sizes.environment
  Holds n Party x = x ≤ 2
  Holds n Definition x = x < t.sizes.definitions
  Holds n Process x = LowerProcess t n x
  Holds n Guard x = LowerGuard t n x
  Holds n Expression x = LowerExpression t n x
  Holds n Value x = Unit

  lower_fact : (n x : ℕ) (sort : Bool) → (ltb x n && sort) ≡ true → (x < n) × (sort ≡ true)
  lower_fact n x sort e = (ltb-true x n (and_left (ltb x n) sort e), and_right (ltb x n) sort e)

  pub fits_holds : (n : ℕ) (f : Field) (x : ℕ) → fits t n f x ≡ true → Holds n f x
  unfolding fits
  fits_holds n Never x e = not_both e refl
  fits_holds n Zero x e = eqb-true x 0 e
  fits_holds n Attribute x e = ltb-true x t.sizes.attributes e
  fits_holds n Stigmergy x e = ltb-true x t.sizes.stigmergy e
  fits_holds n Environment x e = ltb-true x t.sizes.environment e
  fits_holds n Party x e = leb-true x 2 e
  fits_holds n Definition x e = ltb-true x t.sizes.definitions e
  fits_holds n Process x e = lower_fact n x (is_process (kind_at t x)) e
  fits_holds n Guard x e = lower_fact n x (is_guard (kind_at t x)) e
  fits_holds n Expression x e = lower_fact n x (is_expression (kind_at t x)) e
  fits_holds n Value x e = tt

  -- a field that names a node names a lower one
  holds_lower : (n : ℕ) (f : Field) (x : ℕ) → is_node f ≡ true → Holds n f x → x < n
  holds_lower n Never x e h = absurd h
  holds_lower n Zero x e h = absurd (not_both e refl)
  holds_lower n Attribute x e h = absurd (not_both e refl)
  holds_lower n Stigmergy x e h = absurd (not_both e refl)
  holds_lower n Environment x e h = absurd (not_both e refl)
  holds_lower n Party x e h = absurd (not_both e refl)
  holds_lower n Definition x e h = absurd (not_both e refl)
  holds_lower n Process x e h = h.0
  holds_lower n Guard x e h = h.0
  holds_lower n Expression x e h = h.0
  holds_lower n Value x e h = absurd (not_both e refl)

  abbrev L : ℕ → Bool
  L n = left_node t n

  abbrev R : ℕ → Bool
  R n = right_node t n

  abbrev P : ℕ → ℕ
  P n = p_at t n

  abbrev Q : ℕ → ℕ
  Q n = q_at t n

  module _ (n : ℕ) (good : fitting t n ≡ true) where
    pub left_holds : Holds n (fields_at t n).p (P n)
    unfolding fitting
    left_holds = fits_holds n (fields_at t n).p (P n) (and_left (fits t n (fields_at t n).p (P n)) (fits t n (fields_at t n).q (Q n)) good)

    pub right_holds : Holds n (fields_at t n).q (Q n)
    unfolding fitting
    right_holds = fits_holds n (fields_at t n).q (Q n) (and_right (fits t n (fields_at t n).p (P n)) (fits t n (fields_at t n).q (Q n)) good)

    pub left_lower : L n ≡ true → P n < n
    left_lower e = holds_lower n (fields_at t n).p (P n) e left_holds

    pub right_lower : R n ≡ true → Q n < n
    right_lower e = holds_lower n (fields_at t n).q (Q n) e right_holds

    pub names_lower : (m : ℕ) → names t n m ≡ true → m < n
    names_lower m e =
        ⊎_elim
        (λ (h : (L n && eqb (P n) m) ≡ true).
        let l = left_lower (and_left (L n) (eqb (P n) m) h) in
        let d = eqb-true (P n) m (and_right (L n) (eqb (P n) m) h) in omega arith)
        (λ (h : (R n && eqb (Q n) m) ≡ true).
        let l = right_lower (and_left (R n) (eqb (Q n) m) h) in
        let d = eqb-true (Q n) m (and_right (R n) (eqb (Q n) m) h) in omega arith)
        (or_either (L n && eqb (P n) m) (R n && eqb (Q n) m) e)

  -- a node names its operands that are nodes
  pub names_left : (n m : ℕ) → L n ≡ true → P n ≡ m → names t n m ≡ true
  names_left n m l e = or_left (L n && eqb (P n) m) (R n && eqb (Q n) m) (and_both (L n) (eqb (P n) m) l (eq-eqb (P n) m e))

  pub names_right : (n m : ℕ) → R n ≡ true → Q n ≡ m → names t n m ≡ true
  names_right n m r e = or_right (L n && eqb (P n) m) (R n && eqb (Q n) m) (and_both (R n) (eqb (Q n) m) r (eq-eqb (Q n) m e))
