-- The keys that Zc gains in an act.
use Rattle.std.specs.Prelude.{ℕ, ◌^◌, ◌<◌, Bool, ◌&&◌, ◌≡◌, List, ltb}
use Rattle.basis.specs.KeySets.{has, plus_all}
use Rattle.table.specs.Tables.{Table, agent_limit}
use Rattle.term.specs.declared.Label.{Label}
use Rattle.term.specs.declared.Label.TheVariants.{Ticking, Acting}
use Rattle.term.specs.Processes.{Derivation}
use Rattle.state.specs.Layout.{key_limit, stamp_of}
use Rattle.state.specs.Standing.{HasBlocks}
use Rattle.steps.specs.Acts.{to_confirm}
use Rattle.judging.specs.declared.Allowed.{Allowed}
use Rattle.judging.specs.Guards.{guard_keys}

-- key k is in a set, and agent x has an entry for it
abbrev pub has_entry : List ℕ → ℕ → ℕ → ℕ → Bool
has_entry s x keys k = has keys k && ltb 0 (stamp_of s x k)

-- an action is at a node of the table
abbrev pub LabelKey : Table → Label → Type 0
LabelKey t Ticking = Unit {0}
LabelKey t (Acting n) = n < t.sizes.nodes

-- a state with room for all blocks, an agent that has one, an action of the table, a set of keys
pub record Gaining (t : Table) (s : List ℕ) (x : ℕ) (a : Allowed) : Type 0 where
  pub blocks : HasBlocks s
  pub agent : x < agent_limit
  pub within : LabelKey t a.label
  pub small : a.keys < 2 ^ key_limit

-- r is what Zc gains in any derivation that does this, under guards that read these keys
abbrev pub Gains : Table → List ℕ → ℕ → Allowed → ℕ → Type 0
Gains t was x a r = (d : Derivation) → a.label ≡ d.label → a.keys ≡ guard_keys t d.guards → r ≡ plus_all (to_confirm t was x d) key_limit 0
