-- Refusal 14: the guards that are asked are those that are marked.
use Rattle.std.specs.Prelude.{ℕ, ◌*◌, ◌<◌, ◌≤◌, true, cond, ◌≡◌, List, length, Result, Ok, Err}
use Rattle.basis.specs.KeySets.{plus_all}
use Rattle.table.specs.Tables.{Table}
use Rattle.table.specs.declared.refusals.Refused.{Refused}
use Rattle.table.specs.declared.refusals.Refused.TheVariants.{GuardFails}
use Rattle.choice.specs.Marking.{marked_guard, is_in}
use Rattle.state.specs.Layout.{key_limit}
use Rattle.evaluation.specs.Situated.{Situated}
use Rattle.steps.specs.Acts.{all_hold, guards_read}

-- the marked guards are those of a list, which are nodes of the table
pub record GuardsMarked (t : Table) (gs marks : List ℕ) : Type 0 where
  pub room : t.sizes.nodes ≤ 32 * length marks
  pub guards : (b : ℕ) → marked_guard t.kinds marks b ≡ is_in b gs
  pub nodes : (b : ℕ) → is_in b gs ≡ true → b < t.sizes.nodes

-- agent x can be asked for guards of the table, by marks of its nodes
pub record GuardsGiven (t : Table) (was : List ℕ) (x : ℕ) (marks : List ℕ) : Type 0 where
  pub situated : Situated was x x
  pub room : t.sizes.nodes ≤ 32 * length marks

-- the set of stigmergy keys that guards read
abbrev pub guard_keys : Table → List ℕ → ℕ
guard_keys t gs = plus_all (guards_read t gs) key_limit 0

-- what is found of guards: the keys that they read, or that one does not hold
unfoldable pub asked_of : Table → List ℕ → ℕ → List ℕ → Result ℕ Refused
asked_of t was x gs = cond (all_hold t was x gs) (Ok (guard_keys t gs)) (Err GuardFails)
