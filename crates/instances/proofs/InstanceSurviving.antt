-- SURVIVING LINES ARE ABOUT SOMETHING: the fleet's agent 0 writes, and a save; both agents propagate, and agent 1 has the entry; a restore,
-- and it has none; agent 0 propagates again, and it has. After a drop the name is not held.
-- A planner who loads instead, and keeps the shelf: a run of those steps makes a line of its own, and the restore brings the saved one back.
-- Assumes nothing.
use Prim.Native.Nat.{ℕ}
use mathlib.Core.Bool.{true}
use mathlib.Core.Path.{◌≡◌, refl, sym, ap, ◌∙◌}
use mathlib.Core.Logic.{inl, inr, ⊎_elim}
use mathlib.Core.Option.{Option, none, some}
use mathlib.Core.List.{List, [], ◌∷◌, ◌++◌, map}
use native.Mathlib.Omega.{arith}
use lib.ListN.{length, replicate, length-replicate}
use Rattle.basis.proofs.Tests.{same_or_other}
use Rattle.basis.proofs.Lists.{get_d_row}
use Rattle.agreement.specs.Machine.{after_steps}
use Rattle.table.specs.Checks.{Check, passes, refuses, first_of}
use Rattle.table.specs.Tables.{table_of}
use Rattle.table.proofs.Checks.{append_later}
use Rattle.term.specs.Acceptance.{table_checks}
use Rattle.state.specs.declared.Store.TheVariants.{Entries}
use Rattle.state.specs.Layout.{state_words, stamp_of}
use Rattle.state.specs.Entries.{entry, entry_of}
use Rattle.state.specs.WellFormed.{loaded}
use Rattle.state.proofs.Load.{loaded_mark}
use Rattle.steps.specs.Steps.{Outcome, load_of, state_checks_with, state_checks}
use Rattle.steps.specs.Runs.{schedule_checks, run_of}
use Rattle.steps.specs.Shelves.{shelf_words, name_of}
use Rattle.steps.specs.Points.{save_of, restore_of, drop_of}
use Rattle.steps.specs.Kept.{Held, WellFormed, IsName, Saves, Drops}
use Rattle.steps.proofs.Computing.{computing}
use Rattle.steps.proofs.Steps.{state_checks_lem, accepted_load}
use Rattle.steps.proofs.Shelves.{own_held}
use Rattle.steps.proofs.Points.{saves, restores, restore_not_held, drops, kept}
use Rattle.labs.specs.Lists.{Step, Line, state_after, state_of}
use Rattle.theorems.specs.Demand3.{history, Demand3}
use Rattle.theorems.specs.Surviving.{Call, Element, step, run, load, save, restore, drop, check_of, Lines, lines, more, kept_or, next_lines, course_after, state_then, surviving_line, kept_line, Surviving, NoNames}
use Rattle.instances.proofs.Instance.{fleet, fleet_ready}
use Rattle.instances.proofs.Instance3.{acts, propagates, rehearsed}
use Rattle.theorems.proofs.Surviving.{surviving}

-- the save, the restore and the drop, under name 5, and agent 0's propagate after them
abbrev call : Call
call = record { name = 5; scratch = 16 }

-- a line from load
abbrev from : List Step → Line
from xs = record { start = loaded (table_of fleet); steps = xs }

abbrev again : Step
again = record { kind = 1; agent = 0; number = 0; scratch = 16 }

-- the elements before the save, before the restore, up to it, before the drop, and all
abbrev pub written : List Element
written = map step acts

abbrev pub copied : List Element
copied = written ++ (save call ∷ map step propagates)

abbrev pub returned : List Element
returned = copied ++ (restore call ∷ [])

abbrev pub ended : List Element
ended = returned ++ (step again ∷ [])

abbrev pub over : List Element
over = ended ++ (drop call ∷ [])

-- what comes of them
pub record Returned (shelf : List ℕ) : Type 0 where
  -- the save and the restore are done
  pub saves : check_of fleet (course_after fleet shelf written).buffers (save call) ≡ passes
  pub restores : check_of fleet (course_after fleet shelf copied).buffers (restore call) ≡ passes
  -- agent 1's stamp falls at the restore
  pub stamp_before : stamp_of (state_then fleet shelf copied) 1 0 ≡ 1
  pub stamp_after : stamp_of (state_then fleet shelf returned) 1 0 ≡ 0
  -- the surviving line has the acts and the propagate after the restore, and not those before it; it has one write, and demand 3
  -- holds along it
  pub line : surviving_line fleet shelf ended ≡ from (acts ++ (again ∷ []))
  pub one_write : history fleet (surviving_line fleet shelf ended).steps ≡ record { agent = 0; key = 0; value = 7; stamp = 1 } ∷ []
  pub holds : Demand3 fleet (surviving_line fleet shelf ended).steps
  -- in the end agent 1 has the entry again
  pub copied_again : entry_of (state_then fleet shelf ended) 1 0 ≡ entry 7 1 0
  -- the drop is done; no line is kept under the name then, and a restore of it is refused
  pub drops : check_of fleet (course_after fleet shelf ended).buffers (drop call) ≡ passes
  pub forgotten : kept_line fleet shelf over 5 ≡ none
  pub not_held : check_of fleet (course_after fleet shelf over).buffers (restore call) ≡ refuses 21 0

-- A LOAD INSTEAD of the restore: the steps up to there, as a schedule of five, first without room for their answers, and then with room
abbrev schedule : List ℕ
schedule = 5 ∷ 0 ∷ 0 ∷ 0 ∷ 0 ∷ 1 ∷ 1 ∷ 1 ∷ 0 ∷ 0 ∷ 0 ∷ 0 ∷ 0 ∷ 0 ∷ 0 ∷ 0 ∷ 0 ∷ 0 ∷ 0 ∷ 0 ∷ 0 ∷ 0 ∷ 0 ∷ 1 ∷ 0 ∷ 0 ∷ 0 ∷ []

abbrev scheduled : List ℕ → Element
scheduled answers = run (record { schedule = schedule; answers = answers; scratch = 16 })

-- the elements up to the load, the refused run, the run that is done, and the restore
abbrev pub reloaded : List Element
reloaded = copied ++ (load 16 ∷ [])

abbrev pub short : List Element
short = reloaded ++ (scheduled [] ∷ [])

abbrev pub ran : List Element
ran = short ++ (scheduled (replicate 5 0) ∷ [])

abbrev pub back : List Element
back = ran ++ (restore call ∷ [])

-- what comes of them
pub record Reloaded (shelf : List ℕ) : Type 0 where
  -- the load is done, and agent 1's stamp falls; a line without steps begins, and the saved one stays kept
  pub loads : check_of fleet (course_after fleet shelf copied).buffers (load 16) ≡ passes
  pub stamp_before : stamp_of (state_then fleet shelf copied) 1 0 ≡ 1
  pub stamp_after : stamp_of (state_then fleet shelf reloaded) 1 0 ≡ 0
  pub line_loaded : surviving_line fleet shelf reloaded ≡ from []
  pub kept_loaded : kept_line fleet shelf reloaded 5 ≡ some (from acts)
  -- the refused run adds no step
  pub refuses_run : check_of fleet (course_after fleet shelf reloaded).buffers (scheduled []) ≡ refuses 20 0
  pub line_short : surviving_line fleet shelf short ≡ from []
  -- the one that is done adds its five, the two that are refused among them, and agent 1 has the entry
  pub runs : check_of fleet (course_after fleet shelf short).buffers (scheduled (replicate 5 0)) ≡ passes
  pub line_ran : surviving_line fleet shelf ran ≡ from (acts ++ propagates)
  pub copied_there : entry_of (state_then fleet shelf ran) 1 0 ≡ entry 7 1 0
  -- the restore is done, and brings the saved line back, start and steps
  pub restores : check_of fleet (course_after fleet shelf ran).buffers (restore call) ≡ passes
  pub line_back : surviving_line fleet shelf back ≡ from acts
  pub none_there : entry_of (state_then fleet shelf back) 1 0 ≡ entry 0 0 0

-- by computing: the states before the save, before the restore and in the end
abbrev before_save : List ℕ
before_save = state_after fleet acts

abbrev before_restore : List ℕ
before_restore = state_after fleet (acts ++ propagates)

abbrev at_last : List ℕ
at_last = state_after fleet (acts ++ (again ∷ []))

record Computed : Type 0 where
  table : first_of (table_checks fleet true 16) ≡ passes
  at_save : first_of (state_checks_with true fleet before_save 16) ≡ passes
  at_restore : first_of (state_checks_with true fleet before_restore 16) ≡ passes
  at_end : first_of (state_checks_with true fleet at_last 16) ≡ passes
  none_yet : stamp_of before_save 1 0 ≡ 0
  stamp : stamp_of before_restore 1 0 ≡ 1
  one_write : history fleet (acts ++ (again ∷ [])) ≡ record { agent = 0; key = 0; value = 7; stamp = 1 } ∷ []
  copied_again : entry_of at_last 1 0 ≡ entry 7 1 0

computed : Computed
unfolding computing
computed = record { table = refl; at_save = refl; at_restore = refl; at_end = refl; none_yet = refl; stamp = refl; one_write = refl; copied_again = refl }

-- the lines after the restore, from what the save and the restore came to
abbrev lines_by : Check → Check → Lines
lines_by c d =
    next_lines fleet d (after_steps (next_lines fleet passes) (next_lines fleet c (lines (from acts) (λ name. none)) (save call)) (map step propagates)) (restore call)

-- a run of the schedule after load is judged by its answer buffer alone
run_judged : (answers : List ℕ) → (run_of fleet (loaded (table_of fleet)) 16 schedule answers).check ≡ first_of (schedule_checks schedule answers)
unfolding run_of
run_judged answers = append_later (state_checks fleet (loaded (table_of fleet)) 16) (schedule_checks schedule answers) fleet_ready.passed

judged : (first_of (schedule_checks schedule []) ≡ refuses 20 0) × (first_of (schedule_checks schedule (replicate 5 0)) ≡ passes)
unfolding first_of
judged = (refl, refl)

-- of the shelf its length and its names are known
module _ (shelf : List ℕ) (whole : length shelf ≡ shelf_words) (free : NoNames shelf) where
  formed : WellFormed shelf (table_of fleet)
  formed = record { small = λ i h. omega (arith, free i h); once = λ i j h l e. inl (free i h); formed = λ i h n. absurd (n (free i h)) }

  is_name : IsName 5
  is_name = (omega arith, omega arith)

  saves_there : Saves fleet 16 shelf 5 before_save
  saves_there = saves fleet 16 shelf 5 before_save

  save_done : (save_of fleet before_save 16 shelf 5).check ≡ passes
  save_done =
      saves_there.done_when.1 (
        computed.at_save,
        record { table = computed.table; whole = whole; formed = formed },
        is_name,
        inr (0, record { place = omega arith; named = free 0 (omega arith) }),
      )

  abbrev then : List ℕ
  then = (save_of fleet before_save 16 shelf 5).words

  restore_done : (restore_of fleet before_restore 16 then 5).check ≡ passes
  restore_done = (kept.back fleet 16 16 shelf 5 before_save before_restore save_done computed.at_restore).0

  drops_there : Drops fleet 16 then 5
  drops_there = drops fleet 16 then 5

  drop_done : (drop_of fleet 16 then 5).check ≡ passes
  drop_done = let u = (restores fleet 16 then 5 before_restore).done_when.0 restore_done in drops_there.done_when.1 (u.1, u.2, u.3)

  abbrev last : List ℕ
  last = (drop_of fleet 16 then 5).words

  gone : Held last 5 → ⊥
  gone h =
      let u = drops_there.done_when.0 drop_done in
      let w = drops_there.done drop_done in
      let j = h.0 in
      let n = h.1.named in
      let own = own_held (table_of fleet) then 5 w.0 u.0.formed (omega arith) w.1 in
      ⊎_elim (λ (e : j ≡ w.0). let z = sym n ∙ ap (name_of last) e ∙ w.2.name in omega arith)
      (λ (d : j ≡ w.0 → ⊥). own.alone j h.1.place d (sym (w.2.names j h.1.place d) ∙ n)) (same_or_other j w.0)

  refused : (state : List ℕ) → first_of (state_checks_with true fleet state 16) ≡ passes → (restore_of fleet state 16 last 5).check ≡ refuses 21 0
  refused state e =
      let u = drops_there.done_when.0 drop_done in
      restore_not_held fleet 16 last 5 state e
      (record { table = computed.table; whole = (drops_there.done drop_done).2.words ∙ u.0.whole; formed = (drops_there.done drop_done).3 })
      (λ p. gone p.1)

  line_returned : surviving_line fleet shelf returned ≡ from acts
  line_returned =
      ap (λ (c : Check). (lines_by c (restore_of fleet before_restore 16 then 5).check).line) save_done ∙ ap (λ (c : Check). (lines_by passes c).line) restore_done

  survives : (es : List Element) → Surviving fleet shelf es
  survives es = surviving fleet (replicate state_words 0) 16 fleet_ready.small rehearsed.loads shelf free es

  pub came_back : Returned shelf
  came_back =
      let line : surviving_line fleet shelf ended ≡ from (acts ++ (again ∷ [])) = ap (λ (l : Line). more l (again ∷ [])) line_returned in
      let state : state_then fleet shelf ended ≡ at_last = (survives ended).state ∙ ap (state_of fleet) line in
      record {
        saves = save_done;
        restores = restore_done;
        stamp_before = computed.stamp;
        stamp_after = ap (λ (s : List ℕ). stamp_of s 1 0) ((survives returned).state ∙ ap (state_of fleet) line_returned) ∙ computed.none_yet;
        line = line;
        one_write = ap (λ (l : Line). history fleet l.steps) line ∙ computed.one_write;
        holds = (survives ended).demand_3;
        copied_again = ap (λ (s : List ℕ). entry_of s 1 0) state ∙ computed.copied_again;
        drops = drop_done;
        forgotten = ap (λ (c : Check). (next_lines fleet c (course_after fleet shelf ended).lines (drop call)).kept 5) drop_done;
        not_held = refused (state_then fleet shelf ended) (ap (λ (s : List ℕ). first_of (state_checks_with true fleet s 16)) state ∙ computed.at_end);
      }

  -- THE LOAD INSTEAD
  load_done : (load_of fleet before_restore 16).check ≡ passes
  load_done = ap (λ (o : Outcome). o.check) (accepted_load fleet before_restore 16 ((state_checks_lem fleet before_restore 16).0 computed.at_restore).0)

  -- where the line of a list is this, its state is the one to which it leads
  at : (es : List Element) (l : Line) → surviving_line fleet shelf es ≡ l → state_then fleet shelf es ≡ state_of fleet l
  at es l e = (survives es).state ∙ ap (state_of fleet) e

  -- a run that comes to a state of no steps
  judged_at : (es : List Element) (answers : List ℕ) → surviving_line fleet shelf es ≡ from []
      → check_of fleet (course_after fleet shelf es).buffers (scheduled answers) ≡ first_of (schedule_checks schedule answers)
  judged_at es answers e = ap (λ (s : List ℕ). (run_of fleet s 16 schedule answers).check) (at es (from []) e) ∙ run_judged answers

  pub loaded_again : Reloaded shelf
  loaded_again =
      let l₁ : surviving_line fleet shelf reloaded ≡ from [] = ap (λ (c : Check). (next_lines fleet c (course_after fleet shelf copied).lines (load 16)).line) load_done in
      let k₁ : kept_line fleet shelf reloaded 5 ≡ some (from acts) =
      ap (λ (c : Check). (next_lines fleet c (course_after fleet shelf copied).lines (load 16)).kept 5) load_done
      ∙ ap (λ (c : Check). (next_lines fleet c (course_after fleet shelf written).lines (save call)).kept 5) save_done in
      let r₂ = judged_at reloaded [] l₁ ∙ judged.0 in
      let l₂ : surviving_line fleet shelf short ≡ from [] = ap (λ (c : Check). (next_lines fleet c (course_after fleet shelf reloaded).lines (scheduled [])).line) r₂ ∙ l₁ in
      let k₂ : kept_line fleet shelf short 5 ≡ some (from acts) = ap (λ (c : Check). (next_lines fleet c (course_after fleet shelf reloaded).lines (scheduled [])).kept 5) r₂ ∙ k₁ in
      let r₃ = judged_at short (replicate 5 0) l₂ ∙ judged.1 in
      let l₃ : surviving_line fleet shelf ran ≡ from (acts ++ propagates) =
      ap (λ (c : Check). (next_lines fleet c (course_after fleet shelf short).lines (scheduled (replicate 5 0))).line) r₃
      ∙ ap (λ (l : Line). more l (acts ++ propagates)) l₂ in
      let k₃ : kept_line fleet shelf ran 5 ≡ some (from acts) =
      ap (λ (c : Check). (next_lines fleet c (course_after fleet shelf short).lines (scheduled (replicate 5 0))).kept 5) r₃ ∙ k₂ in
      let s₃ = at ran (from (acts ++ propagates)) l₃ in
      let r₄ = (kept.back fleet 16 16 shelf 5 before_save (state_then fleet shelf ran) save_done
      (ap (λ (s : List ℕ). first_of (state_checks_with true fleet s 16)) s₃ ∙ computed.at_restore)).0 in
      let l₄ : surviving_line fleet shelf back ≡ from acts =
      ap (λ (c : Check). (next_lines fleet c (course_after fleet shelf ran).lines (restore call)).line) r₄
      ∙ ap (λ (o : Option Line). kept_or o (surviving_line fleet shelf ran)) k₃ in
      record {
        loads = load_done;
        stamp_before = computed.stamp;
        stamp_after = ap (λ (s : List ℕ). stamp_of s 1 0) (at reloaded (from []) l₁) ∙ loaded_mark (table_of fleet) (Entries 1) 0 (omega arith);
        line_loaded = l₁;
        kept_loaded = k₁;
        refuses_run = r₂;
        line_short = l₂;
        runs = r₃;
        line_ran = l₃;
        copied_there = ap (λ (s : List ℕ). entry_of s 1 0) s₃ ∙ rehearsed.agree.1;
        restores = r₄;
        line_back = l₄;
        none_there = ap (λ (s : List ℕ). entry_of s 1 0) (at back (from acts) l₄) ∙ rehearsed.none_yet;
      }

-- such a shelf
pub returned_zero : Returned (replicate shelf_words 0)
returned_zero = came_back (replicate shelf_words 0) (length-replicate {A = ℕ} shelf_words 0) (λ i h. get_d_row shelf_words i 0)

pub reloaded_zero : Reloaded (replicate shelf_words 0)
reloaded_zero = loaded_again (replicate shelf_words 0) (length-replicate {A = ℕ} shelf_words 0) (λ i h. get_d_row shelf_words i 0)
