-- The byte of each node kind.
use Rattle.std.specs.Prelude.{ℕ, ◌≡◌, ◌≢◌, Result, MatchResult}
use Rattle.basis.specs.declared.node_kinds.UnknownKind.{UnknownKind}
use Rattle.basis.specs.declared.node_kinds.NodeKind.{NodeKind}
use Rattle.basis.specs.declared.node_kinds.NodeKind.TheVariants.{Idle, Tick, SetAttribute, SetStigmergy, SetEnvironment, Sequence, Choice, Guarded, Parallel, Call, True, Equal, Less, Greater, Not, And, Or, Constant, Attribute, Stigmergy, Environment, Plus, Minus, Times, Divide, Remainder, Root}

abbrev pub number_of : NodeKind → ℕ
number_of Idle = 0
number_of Tick = 1
number_of SetAttribute = 2
number_of SetStigmergy = 3
number_of SetEnvironment = 4
number_of Sequence = 5
number_of Choice = 6
number_of Guarded = 7
number_of Parallel = 8
number_of Call = 9
number_of True = 16
number_of Equal = 17
number_of Less = 18
number_of Greater = 19
number_of Not = 20
number_of And = 21
number_of Or = 22
number_of Constant = 32
number_of Attribute = 33
number_of Stigmergy = 34
number_of Environment = 35
number_of Plus = 36
number_of Minus = 37
number_of Times = 38
number_of Divide = 39
number_of Remainder = 40
number_of Root = 64

-- a byte names a kind, or none
abbrev pub Names : ℕ → Result NodeKind UnknownKind → Type 0
Names byte r = MatchResult r (λ k. number_of k ≡ byte) (λ e. (k : NodeKind) → number_of k ≢ byte)
