-- Words written between a front and a back.
use Rattle.std.specs.Prelude.{ℕ, ◌+◌, ◌≤◌, ◌≡◌, List, ◌++◌, length, take, drop}
use Rattle.table.specs.Tables.{Table}
use Rattle.term.specs.Terms.{words}
use Rattle.choice.specs.declared.Gap.{Gap}
use Rattle.choice.specs.declared.Goal.{Goal}
use Rattle.choice.specs.Turns.{chosen_at, Reached}

-- what is left at a goal fits into the gap
pub record Room (t : Table) (g : Goal ℕ) (gap : Gap) (ws : List ℕ) : Type 0 where
  pub reached : Reached t g
  pub fits : gap.front + length (words (chosen_at t g).leaving) ≤ gap.back
  pub end : gap.back ≤ length ws

-- ws with `middle` between front and back has become out, with a new gap
pub record Written (ws : List ℕ) (front back : ℕ) (middle : List ℕ) (r : Gap) (out : List ℕ) : Type 0 where
  pub same : length out ≡ length ws
  pub order : r.front ≤ r.back
  pub end : r.back ≤ length ws
  pub words : take r.front out ++ drop r.back out ≡ take front ws ++ (middle ++ drop back ws)

-- so many words fit into the gap
abbrev pub RoomFor : List ℕ → Gap → ℕ → Type 0
RoomFor ws gap n = (gap.front + n ≤ gap.back) × (gap.back ≤ length ws)

-- words have been put at the ends of a gap: ws has become out, with the gap that is left
pub record Narrowed (ws : List ℕ) (gap : Gap) (pre post : List ℕ) (r : Gap) (out : List ℕ) : Type 0 where
  pub same : length out ≡ length ws
  pub front : r.front ≡ gap.front + length pre
  pub back : r.back + length post ≡ gap.back
  pub before : take r.front out ≡ take gap.front ws ++ pre
  pub after : drop r.back out ≡ post ++ drop gap.back ws
