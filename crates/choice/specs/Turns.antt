-- One step from a node towards its choice.
use Rattle.std.specs.Prelude.{ℕ, suc, ◌+◌, ◌-◌, ◌*◌, ◌<◌, max, cond, ◌≡◌, List, [], ◌∷◌, ◌++◌, ltb, length}
use Rattle.table.specs.Tables.{Table, first_root}
use Rattle.term.specs.declared.Label.{Label}
use Rattle.term.specs.declared.Mode.{Mode}
use Rattle.term.specs.declared.Mode.TheVariants.{Actions, Ticks}
use Rattle.term.specs.Terms.{words, par_word}
use Rattle.term.specs.Processes.{Process, idle, tick, act, choice, guarded, call, seq, par, Derivation, node_process}
use Rattle.term.specs.Accepted.{GuardNode}
use Rattle.term.specs.Choices.{count_in}
use Rattle.term.specs.Exposure.{can_tick}
use Rattle.choice.specs.declared.Pick.{Pick}
use Rattle.choice.specs.declared.Pick.TheVariants.{LeftActs, RightActs, LeftTicks, RightTicks}
use Rattle.choice.specs.declared.Goal.{Goal}
use Rattle.choice.specs.declared.Side.{Side}
use Rattle.choice.specs.declared.Side.TheVariants.{Alone, Under, After}
use Rattle.choice.specs.declared.Kept.{Kept}
use Rattle.choice.specs.declared.Kept.TheVariants.{Nothing, Right, Left}
use Rattle.choice.specs.declared.Turn.{Turn}
use Rattle.choice.specs.declared.Turn.TheVariants.{End, On}
use Rattle.choice.specs.Chosen.{chosen_in}

abbrev pub goal_of : {P : Type 0} → P → Mode → ℕ → Goal P
goal_of from m c = record { from = from; mode = m; choice = c }

-- at a sequence or a parallel of nodes p and q, by its operator's word
abbrev pub pick_turn : ℕ → Mode → ℕ → ℕ → Pick → Turn
pick_turn w m p q (LeftActs i) = On (goal_of p Actions i) Alone (Right w q)
pick_turn w m p q (RightActs i) = On (goal_of q Actions i) Alone (Left p)
pick_turn w m p q (LeftTicks j i) = On (goal_of q m i) (After (goal_of p Ticks j)) Nothing
pick_turn w m p q (RightTicks j i) = On (goal_of p m i) (After (goal_of q Ticks j)) Nothing

-- at a choice of nodes p and q, where p has so many derivations
unfoldable pub choice_turn : Mode → ℕ → ℕ → ℕ → ℕ → Turn
choice_turn m c p q k = cond (ltb c k) (On (goal_of p m c) Alone Nothing) (On (goal_of q m (c - k)) Alone Nothing)

-- the lowest level with each call that the process exposes below it
unfoldable pub exposure : Process → ℕ
exposure idle = 0
exposure tick = 0
exposure (act n) = 0
exposure (choice P Q) = max (exposure P) (exposure Q)
exposure (guarded g P) = exposure P
exposure (call d P) = suc d
exposure (seq P Q q) = max (exposure P) (cond (can_tick P) (exposure Q) 0)
exposure (par P p Q q) = max (exposure P) (exposure Q)

-- how far a walk from node n can go, where definitions below a level may be called: a table has at most 4,096 nodes
abbrev pub reach : ℕ → ℕ → ℕ
reach level n = 4097 * level + n

-- of a goal: the derivation; how far a walk to it can go; that it is there
module _ (t : Table) where
  abbrev pub chosen_at : Goal ℕ → Derivation
  chosen_at g = chosen_in g.mode (node_process t g.from) g.choice

  abbrev pub ahead : Goal ℕ → ℕ
  ahead g = reach (exposure (node_process t g.from)) g.from

pub record Reached (t : Table) (g : Goal ℕ) : Type 0 where
  pub low : g.from < first_root t
  pub choice : g.choice < count_in g.mode (node_process t g.from)

-- a walk to goal g can go on to goal h
pub record Nearer (t : Table) (g h : Goal ℕ) : Type 0 where
  pub reached : Reached t h
  pub falls : ahead t h < ahead t g

-- the guards that are collected besides, and where they stand
abbrev pub side_guards : Table → Side → List ℕ
side_guards t Alone = []
side_guards t (Under b) = b ∷ []
side_guards t (After h) = (chosen_at t h).guards

abbrev pub SideReached : Table → Goal ℕ → Side → Type 0
SideReached t g Alone = Unit {0}
SideReached t g (Under b) = GuardNode t b
SideReached t g (After h) = Nearer t g h

-- what is collected besides is there
abbrev pub Sided : Table → Side → Type 0
Sided t Alone = Unit {0}
Sided t (Under b) = GuardNode t b
Sided t (After h) = Reached t h

-- the words that stay before and after what is left, and how many they are
abbrev pub kept_before : Kept → List ℕ
kept_before Nothing = []
kept_before (Right w n) = w ∷ []
kept_before (Left n) = par_word ∷ n ∷ []

abbrev pub kept_after : Kept → List ℕ
kept_after Nothing = []
kept_after (Right w n) = n ∷ []
kept_after (Left n) = []

abbrev pub kept_size : Kept → ℕ
kept_size kept = length (kept_before kept) + length (kept_after kept)

-- d does what e does, under these guards besides, and leaves what e leaves between some words
pub record Around (d e : Derivation) (besides front back : List ℕ) : Type 0 where
  pub label : d.label ≡ e.label
  pub guards : d.guards ≡ besides ++ e.guards
  pub words : words d.leaving ≡ front ++ (words e.leaving ++ back)

-- d does this, under no guard, and leaves one word
pub record Ended (d : Derivation) (done : Label) (word : ℕ) : Type 0 where
  pub label : d.label ≡ done
  pub guards : d.guards ≡ []
  pub words : words d.leaving ≡ word ∷ []

-- the walk to goal g goes on to goal h
pub record Onward (t : Table) (g h : Goal ℕ) (side : Side) (kept : Kept) : Type 0 where
  pub nearer : Nearer t g h
  pub collects : SideReached t g side
  pub around : Around (chosen_at t g) (chosen_at t h) (side_guards t side) (kept_before kept) (kept_after kept)

-- what a step towards goal g says of it
abbrev pub Turned : Table → Goal ℕ → Turn → Type 0
Turned t g (End label word) = Ended (chosen_at t g) label word
Turned t g (On h side kept) = Onward t g h side kept
