-- Refusal 4: a node with a bad kind or operand.
use Rattle.std.specs.Prelude.{ℕ, Bool, true, false, cond, not, ◌&&◌, ◌||◌, List, [], ◌∷◌, ltb, leb, eqb}
use Rattle.basis.specs.Numbers.{some_below}
use Rattle.basis.specs.Kinds as kind
use Rattle.table.specs.declared.Field.{Field}
use Rattle.table.specs.declared.Field.TheVariants.{Never, Zero, Attribute, Stigmergy, Environment, Party, Definition, Process, Guard, Expression, Value}
use Rattle.table.specs.declared.Fields.{Fields}
use Rattle.table.specs.Tables.{Table, kind_at, p_at, q_at, first_root, first_link_root, first_agent_root}

-- what p and q hold
abbrev pub fields : Field → Field → Fields
fields p q = record { p = p; q = q }

pub data Row : Type 0 where
  row : ℕ → Field → Field → Row

-- the list of kinds, but for the root: kind, p, q
unfoldable pub process_rows : List Row
process_rows =
    row kind.idle Zero Zero
    ∷ row kind.tick Zero Zero
    ∷ row kind.set_attribute Attribute Expression
    ∷ row kind.set_stigmergy Stigmergy Expression
    ∷ row kind.set_environment Environment Expression
    ∷ row kind.sequence Process Process
    ∷ row kind.choice Process Process
    ∷ row kind.guarded Guard Process
    ∷ row kind.parallel Process Process
    ∷ row kind.call Definition Zero
    ∷ []

unfoldable pub guard_rows : List Row
guard_rows =
    row kind.true Zero Zero
    ∷ row kind.equal Expression Expression
    ∷ row kind.less Expression Expression
    ∷ row kind.greater Expression Expression
    ∷ row kind.not Guard Zero
    ∷ row kind.and Guard Guard
    ∷ row kind.or Guard Guard
    ∷ []

unfoldable pub expression_rows : List Row
expression_rows =
    row kind.constant Value Value
    ∷ row kind.attribute Attribute Party
    ∷ row kind.stigmergy Stigmergy Party
    ∷ row kind.environment Environment Zero
    ∷ row kind.plus Expression Expression
    ∷ row kind.minus Expression Expression
    ∷ row kind.times Expression Expression
    ∷ row kind.divide Expression Expression
    ∷ row kind.remainder Expression Expression
    ∷ []

-- the row of a kind; a kind without a row has fields that nothing fits
unfoldable pub row_of : List Row → ℕ → Fields
row_of [] n = fields Never Never
row_of (row k p q ∷ more) n = cond (eqb n k) (fields p q) (row_of more n)

abbrev pub fields_of : ℕ → Fields
fields_of k =
    cond (ltb k kind.true) (row_of process_rows k)
    (cond (ltb k kind.constant) (row_of guard_rows k)
    (row_of expression_rows k))

-- kinds of processes, guards and expressions
abbrev pub is_process : ℕ → Bool
is_process k = leb k kind.call

abbrev pub is_guard : ℕ → Bool
is_guard k = leb kind.true k && leb k kind.or

abbrev pub is_expression : ℕ → Bool
is_expression k = leb kind.constant k && leb k kind.remainder

-- among them those of attribute, stigmergy and environment keys
abbrev pub is_key_kind : ℕ → Bool
is_key_kind k = leb kind.attribute k && leb k kind.environment

-- a field that names a node
abbrev pub is_node : Field → Bool
is_node Never = false
is_node Zero = false
is_node Attribute = false
is_node Stigmergy = false
is_node Environment = false
is_node Party = false
is_node Definition = false
is_node Process = true
is_node Guard = true
is_node Expression = true
is_node Value = false

module _ (t : Table) where
  -- node n is no root
  abbrev pub inner : ℕ → Bool
  inner n = ltb n (first_root t)

  -- roots name the definitions' bodies, then the keys' links, then the agents' starting processes
  abbrev pub root_names : ℕ → Field
  root_names n = cond (ltb n (first_link_root t)) Process (cond (ltb n (first_agent_root t)) Guard Process)

  -- what p and q of node n hold, if it has this kind: the last D + S + A nodes, and no others, are roots
  unfoldable pub fields_here : ℕ → ℕ → Fields
  fields_here n k =
      cond (inner n) (fields_of k)
      (cond (eqb k kind.root) (fields (root_names n) Zero)
      (fields Never Never))

  abbrev pub fields_at : ℕ → Fields
  fields_at n = fields_here n (kind_at t n)

  -- what fits a field of node n: a node that it names has a lower number and the right sort
  unfoldable pub fits : ℕ → Field → ℕ → Bool
  fits n Never x = false
  fits n Zero x = eqb x 0
  fits n Attribute x = ltb x t.sizes.attributes
  fits n Stigmergy x = ltb x t.sizes.stigmergy
  fits n Environment x = ltb x t.sizes.environment
  fits n Party x = leb x 2
  fits n Definition x = ltb x t.sizes.definitions
  fits n Process x = ltb x n && is_process (kind_at t x)
  fits n Guard x = ltb x n && is_guard (kind_at t x)
  fits n Expression x = ltb x n && is_expression (kind_at t x)
  fits n Value x = true

  -- both fields of node n are as the list has them
  unfoldable pub fitting : ℕ → Bool
  fitting n = fits n (fields_at n).p (p_at t n) && fits n (fields_at n).q (q_at t n)

  -- p, or q, of node n is a node
  abbrev pub left_node : ℕ → Bool
  left_node n = is_node (fields_at n).p

  abbrev pub right_node : ℕ → Bool
  right_node n = is_node (fields_at n).q

  -- node n names node m
  abbrev pub names : ℕ → ℕ → Bool
  names n m = (left_node n && eqb (p_at t n) m) || (right_node n && eqb (q_at t n) m)

  -- a node below n, roots aside, names m
  unfoldable pub named : ℕ → ℕ → Bool
  named n m = some_below (λ (k : ℕ). inner k && names k m) n

  -- node n, which is no root, makes a second naming: of a node that a lower one names, or by naming one twice
  unfoldable pub names_again : ℕ → Bool
  names_again n =
      inner n
      && ((left_node n && named n (p_at t n))
      || ((right_node n && named n (q_at t n))
      || (left_node n && (right_node n && eqb (p_at t n) (q_at t n)))))

  unfoldable pub bad_node : ℕ → Bool
  bad_node n = not (fitting n) || names_again n
