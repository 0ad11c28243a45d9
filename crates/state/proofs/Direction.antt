-- A link over both parties, as an example that is computed.
use mathlib.Core.Path.{◌≡◌, refl}
use mathlib.Core.Bool.{true, false}
use mathlib.Core.List.{List, [], ◌∷◌}
use Prim.Native.Nat.{ℕ}
use Rattle.basis.specs.Below.{below}
use Rattle.basis.specs.Numbers.{for_each}
use Rattle.table.specs.Tables.{Table, table}
use Rattle.state.specs.declared.Store.TheVariants.{Attributes}
use Rattle.state.specs.Layout.{value_in, put}
use Rattle.state.specs.Evaluation.{value_step, truth_step, link_holds}
use Rattle.state.specs.WellFormed.{loaded}

-- 0: the sender's attribute 0; 1: the receiver's; 2: 0 < 1; 3: idle; then the roots of the link and of two agents
abbrev two : Table
two =
    table (record { nodes = 7; definitions = 0; agents = 2; attributes = 1; stigmergy = 1; environment = 0 })
    (33 ∷ 33 ∷ 18 ∷ 0 ∷ 64 ∷ 64 ∷ 64 ∷ [])
    (0 ∷ 0 ∷ 1 ∷ 0 ∷ 0 ∷ 0 ∷ 2 ∷ 0 ∷ 0 ∷ 0 ∷ 1 ∷ 0 ∷ 0 ∷ 0 ∷ 0 ∷ 0 ∷ 2 ∷ 0 ∷ 0 ∷ 0 ∷ 3 ∷ 0 ∷ 0 ∷ 0 ∷ 3 ∷ 0 ∷ 0 ∷ 0 ∷ [])

-- agent 0 has attribute 0 = 4, agent 1 has 5
abbrev four_five : List ℕ
four_five = put (Attributes 1) 0 5 1 (put (Attributes 0) 0 4 1 (loaded two))

pub low_to_high : link_holds two four_five 0 0 1 ≡ true
unfolding below for_each value_in put value_step truth_step loaded
low_to_high = refl

pub high_to_low : link_holds two four_five 0 1 0 ≡ false
unfolding below for_each value_in put value_step truth_step loaded
high_to_low = refl
