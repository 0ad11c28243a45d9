-- Points to come back to: lists of steps, runs, loads, saves, restores and drops, from load and a shelf of no names.
use Rattle.std.specs.Prelude.{ℕ, ◌≤◌, ◌<◌, cond, ◌≡◌, List, [], ◌∷◌, ◌++◌, eqb}
use Rattle.std.proofs.Math.Option.{Option, none, some}
use Rattle.agreement.specs.Machine.{after_steps}
use Rattle.agreement.specs.Order.{NotOlder}
use Rattle.table.specs.Checks.{Check, passes, if_passes}
use Rattle.table.specs.Tables.{table_of}
use Rattle.state.specs.Layout.{stamp_of}
use Rattle.state.specs.Entries.{entry_of, newer}
use Rattle.state.specs.WellFormed.{loaded}
use Rattle.steps.specs.Steps.{load_of}
use Rattle.steps.specs.Runs.{run_of}
use Rattle.steps.specs.Shelves.{place_limit, name_of, saved_of}
use Rattle.steps.specs.Points.{save_of, restore_of, drop_of}
use Rattle.steps.specs.Kept.{IsName, Held}
use Rattle.labs.specs.Lists.{Step, Line, outcome_of, next, state_of}
use Rattle.labs.specs.Run.{size, first_steps}
use Rattle.labs.specs.Demand2.{Bytes}
use Rattle.theorems.specs.Demand3.{Demand3}

-- a run: any schedule, answer bytes as they were lent, and scratch length
pub record Scheduled : Type 0 where
  pub schedule : List ℕ
  pub answers : List ℕ
  pub scratch : ℕ

-- a save, a restore or a drop: any name and scratch length
pub record Call : Type 0 where
  pub name : ℕ
  pub scratch : ℕ

-- an element of the list; a load is of the same table, with any scratch length
pub data Element : Type 0 where
  step : Step → Element
  run : Scheduled → Element
  load : ℕ → Element
  save : Call → Element
  restore : Call → Element
  drop : Call → Element

-- STATE AND SHELF
pub record Buffers : Type 0 where
  pub state : List ℕ
  pub shelf : List ℕ

abbrev pub buffers : List ℕ → List ℕ → Buffers
buffers state shelf = record { state = state; shelf = shelf }

module _ (bytes : List ℕ) (b : Buffers) where
  abbrev pub check_of : Element → Check
  check_of (step x) = (outcome_of bytes b.state x).check
  check_of (run r) = (run_of bytes b.state r.scratch r.schedule r.answers).check
  check_of (load scratch) = (load_of bytes b.state scratch).check
  check_of (save c) = (save_of bytes b.state c.scratch b.shelf c.name).check
  check_of (restore c) = (restore_of bytes b.state c.scratch b.shelf c.name).check
  check_of (drop c) = (drop_of bytes c.scratch b.shelf c.name).check

  -- after an element; a refused one changes nothing
  abbrev pub next_buffers : Element → Buffers
  next_buffers (step x) = buffers (next bytes b.state x) b.shelf
  next_buffers (run r) = buffers (run_of bytes b.state r.scratch r.schedule r.answers).progress.state b.shelf
  next_buffers (load scratch) = buffers (load_of bytes b.state scratch).state b.shelf
  next_buffers (save c) = buffers b.state (save_of bytes b.state c.scratch b.shelf c.name).words
  next_buffers (restore c) = buffers (restore_of bytes b.state c.scratch b.shelf c.name).words b.shelf
  next_buffers (drop c) = buffers b.state (drop_of bytes c.scratch b.shelf c.name).words

-- LINES: the surviving line, and the line that is kept under each name, if one is
pub record Lines : Type 0 where
  pub line : Line
  pub kept : ℕ → Option Line

abbrev pub lines : Line → (ℕ → Option Line) → Lines
lines line kept = record { line = line; kept = kept }

-- a line that a load begins: no steps yet
abbrev pub from_load : List ℕ → Line
from_load bytes = record { start = loaded (table_of bytes); steps = [] }

-- a line with these steps more
abbrev pub more : Line → List Step → Line
more l xs = record { start = l.start; steps = l.steps ++ xs }

-- the steps of a run, as many as its schedule says
abbrev pub steps_in : Scheduled → List Step
steps_in r = first_steps r.schedule r.scratch (size r.schedule)

-- under one name another line is kept, or none
abbrev pub keeping : ℕ → Option Line → (ℕ → Option Line) → ℕ → Option Line
keeping name l kept n = cond (eqb n name) l (kept n)

-- the line that is kept, or else the one that there is
abbrev pub kept_or : Option Line → Line → Line
kept_or (some l) line = l
kept_or none line = line

-- after an element that came to this check: a step, refused or not, is added to the line, and so are the steps of a run that is done; a load begins
-- a line, and the kept ones stay; a save keeps the line under its name, a restore takes the one kept under its name back, start and steps, a drop
-- forgets it; a refused run, load, save, restore or drop changes no line
abbrev pub next_lines : List ℕ → Check → Lines → Element → Lines
next_lines bytes c l (step x) = lines (more l.line (x ∷ [])) l.kept
next_lines bytes c l (run r) = if_passes c (lines (more l.line (steps_in r)) l.kept) l
next_lines bytes c l (load scratch) = if_passes c (lines (from_load bytes) l.kept) l
next_lines bytes c l (save q) = if_passes c (lines l.line (keeping q.name (some l.line) l.kept)) l
next_lines bytes c l (restore q) = if_passes c (lines (kept_or (l.kept q.name) l.line) l.kept) l
next_lines bytes c l (drop q) = if_passes c (lines l.line (keeping q.name none l.kept)) l

-- STATE, SHELF AND LINES so far
pub record Course : Type 0 where
  pub buffers : Buffers
  pub lines : Lines

module _ (bytes : List ℕ) where
  abbrev pub next_course : Course → Element → Course
  next_course c e = record { buffers = next_buffers bytes c.buffers e; lines = next_lines bytes (check_of bytes c.buffers e) c.lines e }

  -- from what load leaves and a shelf, with the line that begins there and none kept
  abbrev pub course_after : List ℕ → List Element → Course
  course_after shelf es =
      after_steps next_course (record { buffers = buffers (loaded (table_of bytes)) shelf; lines = lines (from_load bytes) (λ name. none) }) es

abbrev pub IsRestore : Element → Type 0
IsRestore (step x) = ⊥
IsRestore (run r) = ⊥
IsRestore (load scratch) = ⊥
IsRestore (save c) = ⊥
IsRestore (restore c) = Unit {0}
IsRestore (drop c) = ⊥

abbrev pub IsLoad : Element → Type 0
IsLoad (step x) = ⊥
IsLoad (run r) = ⊥
IsLoad (load scratch) = Unit {0}
IsLoad (save c) = ⊥
IsLoad (restore c) = ⊥
IsLoad (drop c) = ⊥

module _ (bytes shelf : List ℕ) (es : List Element) where
  abbrev pub state_then : List ℕ
  state_then = (course_after bytes shelf es).buffers.state

  abbrev pub shelf_then : List ℕ
  shelf_then = (course_after bytes shelf es).buffers.shelf

  abbrev pub surviving_line : Line
  surviving_line = (course_after bytes shelf es).lines.line

  abbrev pub kept_line : ℕ → Option Line
  kept_line = (course_after bytes shelf es).lines.kept

  -- ELEMENT e COMES NEXT. It is done; the state after it
  abbrev pub IsDone : Element → Type 0
  IsDone e = check_of bytes (course_after bytes shelf es).buffers e ≡ passes

  abbrev pub state_next : Element → List ℕ
  state_next e = (next_buffers bytes (course_after bytes shelf es).buffers e).state

  -- it is a restore that is done; it is a load that is done
  abbrev pub DoneRestore : Element → Type 0
  DoneRestore e = IsRestore e × IsDone e

  abbrev pub DoneLoad : Element → Type 0
  DoneLoad e = IsLoad e × IsDone e

  pub record Surviving : Type 0 where
    -- the state is the one to which the surviving line leads
    pub state : state_then ≡ state_of bytes surviving_line
    -- every held state is the one to which the line kept under its name leads
    pub held : (i : ℕ) → i < place_limit → (name_of shelf_then i ≡ 0 → ⊥) →
        (l : Line) × (kept_line (name_of shelf_then i) ≡ some l) × (saved_of shelf_then i ≡ state_of bytes l)
    -- and a line is kept under held names alone
    pub kept : (name : ℕ) (l : Line) → kept_line name ≡ some l → IsName name × Held shelf_then name
    -- these lines start at what load leaves
    pub starts : surviving_line.start ≡ loaded (table_of bytes)
    pub kept_starts : (name : ℕ) (l : Line) → kept_line name ≡ some l → l.start ≡ loaded (table_of bytes)
    -- demand 3 holds along the surviving line
    pub demand_3 : Demand3 bytes surviving_line.steps
    -- an agent's entry becomes older only at a restore or a load that is done
    pub older : (e : Element) → (DoneRestore e → ⊥) → (DoneLoad e → ⊥) →
        (a k : ℕ) → a < (table_of bytes).sizes.agents → k < (table_of bytes).sizes.stigmergy →
        NotOlder newer (entry_of (state_next e) a k) (entry_of state_then a k)
    -- of lists without load: stamps fall only at a restore that is done. That no element is a load is asked of e alone, whatever came before it
    pub fall : (e : Element) → (IsLoad e → ⊥) → (DoneRestore e → ⊥) →
        (a k : ℕ) → a < (table_of bytes).sizes.agents → k < (table_of bytes).sizes.stigmergy →
        stamp_of state_then a k ≤ stamp_of (state_next e) a k

-- no place of a shelf has a name
abbrev pub NoNames : List ℕ → Type 0
NoNames shelf = (i : ℕ) → i < place_limit → name_of shelf i ≡ 0

-- for every table that load accepts, every shelf of no names, whatever else its words are, and every list of elements
abbrev pub SurvivingHolds : Type 0
SurvivingHolds =
    (bytes lent : List ℕ) (scratch : ℕ) → Bytes bytes → (load_of bytes lent scratch).check ≡ passes →
    (shelf : List ℕ) → NoNames shelf → (es : List Element) → Surviving bytes shelf es
