-- The list of kinds, as tests and as the paper's rows: the two agree at every kind.
-- Assumes nothing.
use Prim.Native.Nat.{ℕ, ◌+◌, ◌-◌, ◌<◌, ◌≤◌}
use mathlib.Core.Bool.{Bool, true, false, cond, not, ◌&&◌, ◌||◌}
use mathlib.Core.Path.{◌≡◌, refl, sym, subst}
use mathlib.Core.Logic.{◌↔◌, ◌⊎◌, inl, inr, ⊎_elim}
use mathlib.Core.List.{List, [], ◌∷◌}
use native.Mathlib.Omega.{arith}
use lib.Dec.{ltb, leb, eqb}
use borrow.Author.Tests.{ltb-true, leb-true, eqb-true, eq-eqb, lt-ltb, le-leb}
use Rattle.basis.specs.Numbers.{every}
use Rattle.basis.proofs.Numbers.{every_at}
use Rattle.basis.proofs.Tests.{not_both, and_left, and_right, and_both, or_either, or_left, or_right, or_implies}
use Rattle.table.specs.declared.Field.{Field}
use Rattle.table.specs.declared.Field.TheVariants.{Never, Zero, Attribute, Stigmergy, Environment, Party, Definition, Process, Guard, Expression, Value}
use Rattle.table.specs.declared.Fields.{Fields}
use Rattle.table.specs.Tables.{Table, kind_at}
use Rattle.table.specs.Nodes.{row, process_rows, guard_rows, expression_rows, row_of, fields_of, fields_at, is_node, is_process, is_guard, is_expression, fits, fitting}
use Rattle.table.specs.Nodes as nodes
use Rattle.table.specs.Rules.{NamesByP, NamesByQ, IsProcess, IsGuard, IsExpression, Row}

-- tests as facts
pub and_iff : (a b : Bool) {A B : Type 0} → ((a ≡ true) ↔ A) → ((b ≡ true) ↔ B) → ((a && b) ≡ true) ↔ (A × B)
and_iff a b f g = (λ e. (f.0 (and_left a b e), g.0 (and_right a b e)), λ w. and_both a b (f.1 w.0) (g.1 w.1))

pub or_iff : (a b : Bool) {A B : Type 0} → ((a ≡ true) ↔ A) → ((b ≡ true) ↔ B) → ((a || b) ≡ true) ↔ (A ⊎ B)
or_iff a b {A} {B} f g = (
  λ e. ⊎_elim (λ (d : a ≡ true). inl (f.0 d)) (λ (d : b ≡ true). inr (g.0 d)) (or_either a b e),
  ⊎_elim (λ (x : A). or_left a b (f.1 x)) (λ (x : B). or_right a b (g.1 x)),
)

pub not_iff : (a : Bool) {A : Type 0} → ((a ≡ true) ↔ A) → (not a ≡ true) ↔ (A → ⊥)
not_iff true f = (λ e. absurd (not_both e refl), λ w. absurd (w (f.0 refl)))
not_iff false f = (λ e x. not_both (f.1 x) refl, λ w. refl)

pub ltb_iff : (a b : ℕ) → (ltb a b ≡ true) ↔ (a < b)
ltb_iff a b = (ltb-true a b, lt-ltb a b)

pub leb_iff : (a b : ℕ) → (leb a b ≡ true) ↔ (a ≤ b)
leb_iff a b = (leb-true a b, le-leb a b)

pub eqb_iff : (a b : ℕ) → (eqb a b ≡ true) ↔ (a ≡ b)
eqb_iff a b = (eqb-true a b, eq-eqb a b)

pub between_iff : (a b k : ℕ) → ((leb a k && leb k b) ≡ true) ↔ ((a ≤ k) × (k ≤ b))
between_iff a b k = and_iff (leb a k) (leb k b) (leb_iff a k) (leb_iff k b)

-- a test that passes each of n numbers from a on
module _ (test : ℕ → Bool) (a n : ℕ) (e : every (λ (i : ℕ). test (a + i)) n ≡ true) (k : ℕ) where
  pub from_on : a ≤ k → k < a + n → test k ≡ true
  from_on h l =
      let d : a + (k - a) ≡ k = omega arith in
      subst (λ (x : ℕ). test x ≡ true) d (every_at (λ (i : ℕ). test (a + i)) n e (k - a) (omega arith))

-- what every row has, and a kind without one, every kind has
module _ (R : ℕ → Field → Field → Type 0) where
  abbrev pub Each : List nodes.Row → Type 0
  Each [] = Unit
  Each (row k f g ∷ more) = R k f g × Each more

  abbrev At : ℕ → Fields → Type 0
  At k f = R k f.p f.q

  each : ((k : ℕ) → R k Never Never) → (rows : List nodes.Row) → Each rows → (k : ℕ) → At k (row_of rows k)
  unfolding row_of
  each none [] w k = none k
  each none (row i f g ∷ more) w k = by (eqb k i) refl (each none more w.1 k)
    where
      by : (b : Bool) → eqb k i ≡ b → At k (row_of more k) → At k (cond b (nodes.fields f g) (row_of more k))
      by true e later = subst (λ (x : ℕ). R x f g) (sym (eqb-true k i e)) w.0
      by false e later = later

  pub each_kind : ((k : ℕ) → R k Never Never) → Each process_rows → Each guard_rows → Each expression_rows → (k : ℕ) → At k (fields_of k)
  each_kind none a b c k = by (ltb k 16) (ltb k 32)
    where
      by : (d e : Bool) → At k (cond d (row_of process_rows k) (cond e (row_of guard_rows k) (row_of expression_rows k)))
      by true e = each none process_rows a k
      by false true = each none guard_rows b k
      by false false = each none expression_rows c k

-- a test that every row passes
module _ (T : ℕ → Field → Field → Bool) where
  unfoldable all_rows : List nodes.Row → Bool
  all_rows [] = true
  all_rows (row k f g ∷ more) = T k f g && all_rows more

  all_each : (rows : List nodes.Row) → all_rows rows ≡ true → Each (λ (k : ℕ) (f g : Field). T k f g ≡ true) rows
  unfolding all_rows
  all_each [] e = tt
  all_each (row k f g ∷ more) e = (and_left (T k f g) (all_rows more) e, all_each more (and_right (T k f g) (all_rows more) e))

  tested : ((k : ℕ) → T k Never Never ≡ true) → all_rows process_rows ≡ true → all_rows guard_rows ≡ true → all_rows expression_rows ≡ true
      → (k : ℕ) → T k (fields_of k).p (fields_of k).q ≡ true
  tested none a b c =
      each_kind (λ (k : ℕ) (f g : Field). T k f g ≡ true) none (all_each process_rows a) (all_each guard_rows b) (all_each expression_rows c)

-- NAMING: the kinds whose p, and whose q, is a node
abbrev by_p : ℕ → Bool
by_p k = (leb 5 k && leb k 8) || ((leb 17 k && leb k 22) || (leb 36 k && leb k 40))

abbrev by_q : ℕ → Bool
by_q k = (leb 2 k && leb k 8) || ((leb 17 k && leb k 19) || ((leb 21 k && leb k 22) || (leb 36 k && leb k 40)))

abbrev left_test : ℕ → Field → Field → Bool
left_test k f g = not (is_node f) || by_p k

abbrev right_test : ℕ → Field → Field → Bool
right_test k f g = not (is_node g) || by_q k

-- the same, with the kinds that have no row
module _ (k : ℕ) where
  abbrev Between : ℕ → ℕ → Type 0
  Between a b = (a ≤ k) × (k ≤ b)

  abbrev within : ℕ → ℕ → Bool
  within a b = leb a k && leb k b

  by_p_lem : by_p k ≡ true → NamesByP k
  by_p_lem e =
      ⊎_elim (λ (w : Between 5 8). NamesByP.processes w.0 w.1)
      (⊎_elim (λ (w : Between 17 22). NamesByP.guards w.0 w.1) (λ (w : Between 36 40). NamesByP.expressions w.0 w.1))
      ((or_iff (within 5 8) (within 17 22 || within 36 40) (between_iff 5 8 k)
      (or_iff (within 17 22) (within 36 40) (between_iff 17 22 k) (between_iff 36 40 k))).0 e)

  by_q_lem : by_q k ≡ true → NamesByQ k
  by_q_lem e =
      ⊎_elim (λ (w : Between 2 8). NamesByQ.processes w.0 w.1)
      (⊎_elim (λ (w : Between 17 19). NamesByQ.comparisons w.0 w.1)
      (⊎_elim (λ (w : Between 21 22). NamesByQ.connectives w.0 w.1) (λ (w : Between 36 40). NamesByQ.expressions w.0 w.1)))
      ((or_iff (within 2 8) (within 17 19 || (within 21 22 || within 36 40)) (between_iff 2 8 k)
      (or_iff (within 17 19) (within 21 22 || within 36 40) (between_iff 17 19 k)
      (or_iff (within 21 22) (within 36 40) (between_iff 21 22 k) (between_iff 36 40 k)))).0 e)

  pub left_names : is_node (fields_of k).p ≡ true → NamesByP k
  unfolding all_rows process_rows guard_rows expression_rows
  left_names e = by_p_lem (or_implies (is_node (fields_of k).p) (by_p k) e (tested left_test (λ i. refl) refl refl refl k))

  pub right_names : is_node (fields_of k).q ≡ true → NamesByQ k
  unfolding all_rows process_rows guard_rows expression_rows
  right_names e = by_q_lem (or_implies (is_node (fields_of k).q) (by_q k) e (tested right_test (λ i. refl) refl refl refl k))

  abbrev left_of : ℕ → Bool
  left_of i = is_node (fields_of i).p

  abbrev right_of : ℕ → Bool
  right_of i = is_node (fields_of i).q

  pub names_left : NamesByP k → left_of k ≡ true
  unfolding every row_of process_rows guard_rows expression_rows
  names_left (NamesByP.processes h l) = from_on left_of 5 4 refl k h (omega arith)
  names_left (NamesByP.guards h l) = from_on left_of 17 6 refl k h (omega arith)
  names_left (NamesByP.expressions h l) = from_on left_of 36 5 refl k h (omega arith)

  pub names_right : NamesByQ k → right_of k ≡ true
  unfolding every row_of process_rows guard_rows expression_rows
  names_right (NamesByQ.processes h l) = from_on right_of 2 7 refl k h (omega arith)
  names_right (NamesByQ.comparisons h l) = from_on right_of 17 3 refl k h (omega arith)
  names_right (NamesByQ.connectives h l) = from_on right_of 21 2 refl k h (omega arith)
  names_right (NamesByQ.expressions h l) = from_on right_of 36 5 refl k h (omega arith)

  pub left_iff : (left_of k ≡ true) ↔ NamesByP k
  left_iff = (left_names, names_left)

  pub right_iff : (right_of k ≡ true) ↔ NamesByQ k
  right_iff = (right_names, names_right)

-- FIELDS: what a field of node n says of its number
infixr 20 ◌then◌
◌then◌ : {A B : Type 0} → A → B → A × B
a then b = (a, b)

pair : {A B C : Type 0} → (A → B → C) → A × B → C
pair f a = f a.0 a.1

pairs : {A B C D E : Type 0} → (A → B → C → D → E) → A × B → C × D → E
pairs f a b = f a.0 a.1 b.0 b.1

module _ (t : Table) (n : ℕ) where
  abbrev pub Says : Field → ℕ → Type 0
  Says Never x = ⊥
  Says Zero x = x ≡ 0
  Says Attribute x = x < t.sizes.attributes
  Says Stigmergy x = x < t.sizes.stigmergy
  Says Environment x = x < t.sizes.environment
  Says Party x = x ≤ 2
  Says Definition x = x < t.sizes.definitions
  Says Process x = (x < n) × IsProcess t x
  Says Guard x = (x < n) × IsGuard t x
  Says Expression x = (x < n) × IsExpression t x
  Says Value x = Unit

  pub says_iff : (f : Field) (x : ℕ) → (fits t n f x ≡ true) ↔ Says f x
  unfolding fits
  says_iff Never x = (λ e. not_both e refl, λ w. absurd w)
  says_iff Zero x = eqb_iff x 0
  says_iff Attribute x = ltb_iff x t.sizes.attributes
  says_iff Stigmergy x = ltb_iff x t.sizes.stigmergy
  says_iff Environment x = ltb_iff x t.sizes.environment
  says_iff Party x = leb_iff x 2
  says_iff Definition x = ltb_iff x t.sizes.definitions
  says_iff Process x = and_iff (ltb x n) (is_process (kind_at t x)) (ltb_iff x n) (leb_iff (kind_at t x) 9)
  says_iff Guard x = and_iff (ltb x n) (is_guard (kind_at t x)) (ltb_iff x n) (between_iff 16 22 (kind_at t x))
  says_iff Expression x = and_iff (ltb x n) (is_expression (kind_at t x)) (ltb_iff x n) (between_iff 32 40 (kind_at t x))
  says_iff Value x = (λ e. tt, λ w. refl)

  -- THE ROWS: what their fields say is what the paper's rows say
  module _ (p q : ℕ) where
    abbrev Shown : ℕ → Field → Field → Type 0
    Shown k f g = Says f p → Says g q → Row t n k p q

    zeros : {k : ℕ} → Row t n k 0 0 → p ≡ 0 → q ≡ 0 → Row t n k p q
    zeros r a b = rw (a, b) r

    pub says_row : (k : ℕ) → Says (fields_of k).p p → Says (fields_of k).q q → Row t n k p q
    unfolding process_rows guard_rows expression_rows
    says_row =
        each_kind Shown (λ k a b. absurd a)
        (zeros Row.idle
        then zeros Row.tick
        then (λ a. pair (Row.sets_attribute a))
        then (λ a. pair (Row.sets_stigmergy a))
        then (λ a. pair (Row.sets_environment a))
        then pairs Row.sequence
        then pairs Row.choice
        then pairs Row.guarded
        then pairs Row.parallel
        then (λ a b. rw b (Row.call a))
        then tt)
        (zeros Row.true
        then pairs Row.equal
        then pairs Row.less
        then pairs Row.greater
        then (λ a b. rw b (Row.not a.0 a.1))
        then pairs Row.and
        then pairs Row.or
        then tt)
        ((λ a b. Row.constant)
        then Row.attribute
        then Row.stigmergy
        then (λ a b. rw b (Row.environment a))
        then pairs Row.plus
        then pairs Row.minus
        then pairs Row.times
        then pairs Row.divide
        then pairs Row.remainder
        then tt)

  pub row_says : {k p q : ℕ} → Row t n k p q → Says (fields_of k).p p × Says (fields_of k).q q
  unfolding row_of process_rows guard_rows expression_rows
  row_says Row.idle = (refl, refl)
  row_says Row.tick = (refl, refl)
  row_says (Row.sets_attribute a b c) = (a, (b, c))
  row_says (Row.sets_stigmergy a b c) = (a, (b, c))
  row_says (Row.sets_environment a b c) = (a, (b, c))
  row_says (Row.sequence a b c d) = ((a, b), (c, d))
  row_says (Row.choice a b c d) = ((a, b), (c, d))
  row_says (Row.guarded a b c d) = ((a, b), (c, d))
  row_says (Row.parallel a b c d) = ((a, b), (c, d))
  row_says (Row.call a) = (a, refl)
  row_says Row.true = (refl, refl)
  row_says (Row.equal a b c d) = ((a, b), (c, d))
  row_says (Row.less a b c d) = ((a, b), (c, d))
  row_says (Row.greater a b c d) = ((a, b), (c, d))
  row_says (Row.not a b) = ((a, b), refl)
  row_says (Row.and a b c d) = ((a, b), (c, d))
  row_says (Row.or a b c d) = ((a, b), (c, d))
  row_says Row.constant = (tt, tt)
  row_says (Row.attribute a b) = (a, b)
  row_says (Row.stigmergy a b) = (a, b)
  row_says (Row.environment a) = (a, refl)
  row_says (Row.plus a b c d) = ((a, b), (c, d))
  row_says (Row.minus a b c d) = ((a, b), (c, d))
  row_says (Row.times a b c d) = ((a, b), (c, d))
  row_says (Row.divide a b c d) = ((a, b), (c, d))
  row_says (Row.remainder a b c d) = ((a, b), (c, d))
