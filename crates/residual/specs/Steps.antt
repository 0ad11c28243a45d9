-- One step from a residual towards its choice.
use Rattle.std.specs.Prelude.{ℕ, ◌+◌, ◌-◌, ◌<◌, true, cond, ◌≡◌, List, [], ◌++◌, eqb, length, drop}
use Rattle.table.specs.Tables.{Table}
use Rattle.term.specs.declared.Label.TheVariants.{Ticking}
use Rattle.term.specs.declared.Mode.{Mode}
use Rattle.term.specs.declared.Mode.TheVariants.{Any, Actions, Ticks}
use Rattle.term.specs.Terms.{Term, words, seq_word, idle_word}
use Rattle.term.specs.Accepted.{Over}
use Rattle.term.specs.Processes.{Derivation, process, all_few}
use Rattle.term.specs.Choices.{count_in}
use Rattle.accept.specs.declared.Counts.{Counts}
use Rattle.choice.specs.declared.Goal.{Goal}
use Rattle.choice.specs.declared.Pick.{Pick}
use Rattle.choice.specs.declared.Pick.TheVariants.{LeftActs, RightActs, LeftTicks, RightTicks}
use Rattle.choice.specs.Chosen.{chosen_in}
use Rattle.choice.specs.Picks.{acting_of}
use Rattle.choice.specs.Turns.{goal_of, chosen_at, Reached, Around, Ended}
use Rattle.residual.specs.declared.Cursor.{Cursor}
use Rattle.residual.specs.declared.Step.{Step}
use Rattle.residual.specs.declared.Step.TheVariants.{Ticked, Leaf, Acts, Joins}

-- how many actions of the right part come before the joined derivations: none in a sequence
unfoldable pub beside_of : ℕ → Mode → Counts → ℕ
beside_of w m Q = cond (eqb w seq_word) 0 (acting_of m Q)

-- choice c of all derivations of the term at a place
abbrev pub whole_of : ℕ → ℕ → Goal Cursor
whole_of at c = goal_of (record { at = at }) Any c

-- at an operator's term, by the cursors of its parts and of its end
abbrev pub pick_step : Mode → Cursor → Cursor → Cursor → Pick → Step
pick_step m left right end (LeftActs i) = Acts (goal_of left Actions i) (end.at - right.at)
pick_step m left right end (RightActs i) = Acts (goal_of right Actions i) 0
pick_step m left right end (LeftTicks j i) = Joins (goal_of right m i) (end.at - right.at) 0 (goal_of left Ticks j)
pick_step m left right end (RightTicks j i) = Joins (goal_of left m i) (right.at - left.at) (end.at - right.at) (goal_of right Ticks j)

-- the target's choice of a term over process nodes is there, and each subterm has few derivations
pub record Choosable (t : Table) (T : Term) (g : Goal Cursor) : Type 0 where
  pub over : Over t T
  pub few : all_few t T ≡ true
  pub choice : g.choice < count_in g.mode (process t T)

-- the derivation that the choice is
abbrev pub going : Table → Term → Goal Cursor → Derivation
going t T g = chosen_in g.mode (process t T) g.choice

-- the term stands at the target's place of ws, and its choice is there
pub record Stands (t : Table) (T : Term) (g : Goal Cursor) (ws : List ℕ) : Type 0 where
  pub choosable : Choosable t T g
  pub begins : drop g.from.at ws ≡ words T ++ drop (g.from.at + length (words T)) ws

-- the term X, target h's, is a part of the term T, target g's: it stands between some words
pub record Part (t : Table) (T : Term) (g : Goal Cursor) (X : Term) (h : Goal Cursor) : Type 0 where
  pub before : List ℕ
  pub after : List ℕ
  pub term : words T ≡ before ++ (words X ++ after)
  pub some : 0 < length before
  pub place : h.from.at ≡ g.from.at + length before
  pub choosable : Choosable t X h

-- an action of a part: the words around the part stay
pub record Acting (t : Table) (T : Term) (g h : Goal Cursor) (after : ℕ) : Type 0 where
  pub term : Term
  pub part : Part t T g term h
  pub size : after ≡ length part.after
  pub around : Around (going t T g) (going t term h) [] part.before part.after

-- a tick of one part joins a derivation of the other, whose words alone stay
pub record Joining (t : Table) (T : Term) (g h : Goal Cursor) (n after : ℕ) (k : Goal Cursor) : Type 0 where
  pub term : Term
  pub part : Part t T g term h
  pub size : n ≡ length (words term)
  pub rest : after ≡ length part.after
  pub ticking : Term
  pub tick : Part t T g ticking k
  pub around : Around (going t T g) (going t term h) (going t ticking k).guards [] []

-- what a step says of the target's choice of the term T
abbrev pub Stepped : Table → Term → Goal Cursor → Step → Type 0
Stepped t T g Ticked = (length (words T) ≡ 1) × Ended (going t T g) Ticking idle_word
Stepped t T g (Leaf h) = (length (words T) ≡ 1) × Reached t h × (going t T g ≡ chosen_at t h)
Stepped t T g (Acts h after) = Acting t T g h after
Stepped t T g (Joins h n after k) = Joining t T g h n after k
