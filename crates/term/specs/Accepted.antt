-- What the checks of a table leave, as facts.
use Rattle.std.specs.Prelude.{ℕ, ◌+◌, ◌*◌, ◌<◌, ◌≤◌, Bool, true, false, ◌≡◌, List, length}
use Rattle.table.specs.Tables.{Table, header_bytes, sizes_of, table_of, kind_at, first_root}
use Rattle.table.specs.Sound.{Sound, LowerProcess, LowerGuard}
use Rattle.basis.specs.Kinds as kind
use Rattle.term.specs.declared.Label.{Label}
use Rattle.term.specs.declared.Label.TheVariants.{Ticking, Acting}
use Rattle.term.specs.Terms.{Term, Seq, Par, Tick, Idle, Node}
use Rattle.term.specs.Exposure.{bad_call}
use Rattle.term.specs.Acceptance.{scratch_words, overfull}

-- 6 has passed: each exposed call names a lower definition
abbrev pub CallsLower : Table → Type 0
CallsLower t = (d : ℕ) → d < t.sizes.definitions → bad_call t d ≡ false

-- of the table alone: it is sound, its exposed calls are lower, and no process node is over-full
pub record Checked (t : Table) : Type 0 where
  pub sound : Sound t
  pub calls : CallsLower t
  pub nodes : (n : ℕ) → n < t.sizes.nodes → overfull t n ≡ false

-- of the lengths too: 1 to 8 have passed
pub record Acceptable (bytes : List ℕ) (fits : Bool) (scratchLength : ℕ) : Type 0 where
  pub size : length bytes ≡ header_bytes + 5 * (sizes_of bytes).nodes
  pub fit : fits ≡ true
  pub scratch : scratch_words (sizes_of bytes) ≤ scratchLength
  pub table : Checked (table_of bytes)

-- a term over the table's process nodes
abbrev pub Over : Table → Term → Type 0
Over t (Seq P Q) = Over t P × Over t Q
Over t (Par P Q) = Over t P × Over t Q
Over t Tick = Unit {0}
Over t Idle = Unit {0}
Over t (Node n) = LowerProcess t (first_root t) n

-- node n is an action of the table, or a guard
abbrev pub ActionNode : Table → ℕ → Type 0
ActionNode t n = (n < first_root t) × (kind.set_attribute ≤ kind_at t n) × (kind_at t n ≤ kind.set_environment)

abbrev pub GuardNode : Table → ℕ → Type 0
GuardNode t n = LowerGuard t (first_root t) n

-- what is done is a tick, or an action of the table
abbrev pub Labelled : Table → Label → Type 0
Labelled t Ticking = Unit {0}
Labelled t (Acting n) = ActionNode t n
