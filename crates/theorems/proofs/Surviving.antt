-- Surviving lines: state and shelf are what the lines give, so demand 3 holds along them.
-- Assumes nothing.
use Prim.Native.Nat.{ℕ, ◌<◌}
use mathlib.Core.Path.{◌≡◌, refl, sym, ap, subst, ◌∙◌}
use mathlib.Core.Logic.{inl, ⊎_elim}
use mathlib.Core.Option.{Option, none, some}
use mathlib.Core.List.{List, [], ◌∷◌}
use native.Mathlib.Omega.{arith}
use lib.Dec.{ltb→lt}
use borrow.Author.Tests.{eq-eqb, ne_eqb}
use Rattle.basis.proofs.Tests.{same_or_other}
use Rattle.agreement.specs.Machine.{after_steps}
use Rattle.agreement.specs.Order.{NotOlder}
use Rattle.agreement.proofs.Machine.{after_steps_append}
use Rattle.table.specs.Checks.{Check, passes, refuses}
use Rattle.table.specs.Tables.{table_of}
use Rattle.term.proofs.Acceptance.{accepted_passes}
use Rattle.state.specs.Layout.{is_whole}
use Rattle.state.specs.Entries.{entry_of, newer}
use Rattle.state.specs.WellFormed.{loaded}
use Rattle.state.specs.Formed.{ProperFacts}
use Rattle.steps.specs.Steps.{Outcome}
use Rattle.steps.specs.Runs.{Progress}
use Rattle.steps.specs.Shelves.{place_limit, name_of, saved_of}
use Rattle.steps.specs.Kept.{Free, Held, OnlyAt, IsName}
use Rattle.steps.proofs.Steps.{load_accepted, accepted_load}
use Rattle.steps.proofs.Proper.{load_proper}
use Rattle.steps.proofs.Shelves.{Own, own_held, own_saved}
use Rattle.steps.proofs.Points.{saves, restores, drops}
use Rattle.labs.specs.Lists.{Step, Line, next, state_from, state_of}
use Rattle.labs.specs.Run.{Run}
use Rattle.labs.specs.Demand2.{Bytes}
use Rattle.theorems.specs.Demand3.{Demand3}
use Rattle.theorems.specs.Surviving.{Scheduled, Call, Element, step, run, load, save, restore, drop, check_of, next_buffers, Lines, lines, more, steps_in, keeping, kept_or, next_lines, Course, next_course, course_after, IsRestore, IsLoad, Surviving, NoNames, SurvivingHolds}
use Rattle.theorems.proofs.Views.{stamp_in}
use Rattle.theorems.proofs.Reached.{not_older, steps_proper, load_refused}
use Rattle.labs.proofs.Run.{run_is}
use Rattle.theorems.proofs.Demand3.{demand_3}

none_not : {l : Line} → none ≡ some l → ⊥
none_not e = let z : ◌≡◌ {A = ℕ} 0 1 = cc in omega arith

some_same : {l k : Line} → some l ≡ some k → l ≡ k
some_same e = cc

-- what is kept under a name, and under another
module _ (name : ℕ) (o : Option Line) (kept : ℕ → Option Line) (n : ℕ) where
  keeping_same : n ≡ name → keeping name o kept n ≡ o
  keeping_same e = rw (eq-eqb n name e)

  keeping_other : (n ≡ name → ⊥) → keeping name o kept n ≡ kept n
  keeping_other d = rw (ne_eqb n name d)

-- THE SHELF: every held state is what the line kept under its name gives, and a line is kept under held names alone
record Shelved (bytes shelf : List ℕ) (kept : ℕ → Option Line) : Type 0 where
  held : (i : ℕ) → i < place_limit → (Free shelf i → ⊥) → (l : Line) × (kept (name_of shelf i) ≡ some l) × (saved_of shelf i ≡ state_of bytes l)
  named : (name : ℕ) (l : Line) → kept name ≡ some l → IsName name × Held shelf name

-- what comes to a place, and what is kept under its name: both, or neither
record Fresh (bytes : List ℕ) (name word : ℕ) (state : List ℕ) (o : Option Line) : Type 0 where
  held : (word ≡ 0 → ⊥) → (l : Line) × (o ≡ some l) × (word ≡ name) × (state ≡ state_of bytes l)
  kept : (l : Line) → o ≡ some l → word ≡ name

module _ (bytes shelf after : List ℕ) (name i word : ℕ) (state : List ℕ) (o : Option Line) (kept : ℕ → Option Line) where
  changed : IsName name → Own shelf name i → OnlyAt shelf i word state after → Fresh bytes name word state o → Shelved bytes shelf kept
      → Shelved bytes after (keeping name o kept)
  changed is own only fresh old = record { held = held; named = named }
    where
      held : (j : ℕ) → j < place_limit → (Free after j → ⊥)
          → (l : Line) × (keeping name o kept (name_of after j) ≡ some l) × (saved_of after j ≡ state_of bytes l)
      held j h f = ⊎_elim here other (same_or_other j i)
        where
          here : j ≡ i → (l : Line) × (keeping name o kept (name_of after j) ≡ some l) × (saved_of after j ≡ state_of bytes l)
          here e =
              let n : name_of after j ≡ word = ap (name_of after) e ∙ only.name in
              let w = fresh.held (λ z. f (n ∙ z)) in
              (w.0, keeping_same name o kept (name_of after j) (n ∙ w.2) ∙ w.1, ap (saved_of after) e ∙ only.state ∙ w.3)

          other : (j ≡ i → ⊥) → (l : Line) × (keeping name o kept (name_of after j) ≡ some l) × (saved_of after j ≡ state_of bytes l)
          other d =
              let n = only.names j h d in
              let w = old.held j h (λ z. f (n ∙ z)) in
              (w.0, keeping_other name o kept (name_of after j) (λ e. own.alone j h d (sym n ∙ e)) ∙ ap kept n ∙ w.1, only.states j h d ∙ w.2)

      named : (n : ℕ) (l : Line) → keeping name o kept n ≡ some l → IsName n × Held after n
      named n l f = ⊎_elim here other (same_or_other n name)
        where
          here : n ≡ name → IsName n × Held after n
          here e =
              let w = fresh.kept l (sym (keeping_same name o kept n e) ∙ f) in
              ((omega (arith, is.0), omega (arith, is.1)), (i, record { place = own.place; named = only.name ∙ w ∙ sym e }))

          other : (n ≡ name → ⊥) → IsName n × Held after n
          other d =
              let w = old.named n l (sym (keeping_other name o kept n d) ∙ f) in
              let h = w.1.1 in
              let m = h.named in
              let apart : w.1.0 ≡ i → ⊥ = λ e. ⊎_elim (λ (z : Free shelf i). let y = sym m ∙ ap (name_of shelf) e ∙ z in omega (arith, w.0.0))
              (λ (z : name_of shelf i ≡ name). d (sym m ∙ ap (name_of shelf) e ∙ z)) own.was in
              (w.0, (w.1.0, record { place = h.place; named = only.names w.1.0 h.place apart ∙ m }))

-- every line starts at what load leaves
record Starts (bytes : List ℕ) (l : Lines) : Type 0 where
  line : l.line.start ≡ loaded (table_of bytes)
  kept : (name : ℕ) (k : Line) → l.kept name ≡ some k → k.start ≡ loaded (table_of bytes)

-- STATE AND SHELF follow the lines
record Follows (bytes : List ℕ) (c : Course) : Type 0 where
  state : c.buffers.state ≡ state_of bytes c.lines.line
  shelf : Shelved bytes c.buffers.shelf c.lines.kept

module _ (bytes : List ℕ) (small : Bytes bytes) (begun : ProperFacts (table_of bytes) (loaded (table_of bytes))) where
  grown : (l : Line) (xs : List Step) → state_of bytes (more l xs) ≡ state_from bytes (state_of bytes l) xs
  grown l xs = after_steps_append (next bytes) l.start l.steps xs

  module _ (c : Course) (f : Follows bytes c) (start : Starts bytes c.lines) where
    abbrev state : List ℕ
    state = c.buffers.state

    abbrev shelf : List ℕ
    shelf = c.buffers.shelf

    abbrev line : Line
    line = c.lines.line

    abbrev kept : ℕ → Option Line
    kept = c.lines.kept

    -- after an element that came to this check
    abbrev by : Check → Element → Course
    by k e = record { buffers = next_buffers bytes c.buffers e; lines = next_lines bytes k c.lines e }

    proper : ProperFacts (table_of bytes) state
    proper =
        subst (ProperFacts (table_of bytes)) (sym f.state)
        (steps_proper bytes small line.start line.steps (subst (ProperFacts (table_of bytes)) (sym start.line) begun))

    runs : (r : Scheduled) → Run bytes state r.scratch r.schedule r.answers
    runs r = run_is bytes state r.scratch r.schedule r.answers small proper.small

    -- a refused run leaves the state as it came
    run_stays : (r : Scheduled) (n place : ℕ) → check_of bytes c.buffers (run r) ≡ refuses n place → (next_buffers bytes c.buffers (run r)).state ≡ state
    run_stays r n place e = ap (λ (p : Progress). p.state) ((runs r).run_refused n place e)

    after_run : (r : Scheduled) (k : Check) → check_of bytes c.buffers (run r) ≡ k → Follows bytes (by k (run r))
    after_run r passes e = record {
      state = ((runs r).run_done e).state ∙ ap (λ (s : List ℕ). state_from bytes s (steps_in r)) f.state ∙ sym (grown line (steps_in r));
      shelf = f.shelf;
    }
    after_run r (refuses n place) e = record { state = run_stays r n place e ∙ f.state; shelf = f.shelf }

    after_load : (scratch : ℕ) (k : Check) → check_of bytes c.buffers (load scratch) ≡ k → Follows bytes (by k (load scratch))
    after_load scratch passes e = record { state = ap (λ (o : Outcome). o.state) (accepted_load bytes state scratch (load_accepted bytes state scratch e)); shelf = f.shelf }
    after_load scratch (refuses n place) e = record { state = load_refused bytes state scratch n place e ∙ f.state; shelf = f.shelf }

    after_save : (q : Call) (k : Check) → check_of bytes c.buffers (save q) ≡ k → Follows bytes (by k (save q))
    after_save q passes e =
        let s = saves bytes q.scratch shelf q.name state in
        let u = s.done_when.0 e in
        let w = s.done e in
        let own = own_saved (table_of bytes) shelf q.name w.0 u.1.formed u.2.0 w.1 in
        record {
          state = f.state;
          shelf = changed bytes shelf _ q.name w.0 q.name state (some line) kept u.2 own w.2
              (record { held = λ z. (line, refl, refl, f.state); kept = λ l d. refl }) f.shelf;
        }
    after_save q (refuses n place) e = record { state = f.state; shelf = rw ((saves bytes q.scratch shelf q.name state).refused n place e) f.shelf }

    after_restore : (q : Call) (k : Check) → check_of bytes c.buffers (restore q) ≡ k → Follows bytes (by k (restore q))
    after_restore q passes e =
        let s = restores bytes q.scratch shelf q.name state in
        let u = s.done_when.0 e in
        let w = s.done e in
        let n = w.1.named in
        let h = f.shelf.held w.0 w.1.place (λ z. let y = sym n ∙ z in let p = u.2.0 in omega arith) in
        let l : kept q.name ≡ some h.0 = ap kept (sym n) ∙ h.1 in
        record { state = w.2 ∙ h.2 ∙ ap (λ (o : Option Line). state_of bytes (kept_or o line)) (sym l); shelf = f.shelf }
    after_restore q (refuses n place) e = record { state = (restores bytes q.scratch shelf q.name state).refused n place e ∙ f.state; shelf = f.shelf }

    after_drop : (q : Call) (k : Check) → check_of bytes c.buffers (drop q) ≡ k → Follows bytes (by k (drop q))
    after_drop q passes e =
        let s = drops bytes q.scratch shelf q.name in
        let u = s.done_when.0 e in
        let w = s.done e in
        record {
          state = f.state;
          shelf = changed bytes shelf _ q.name w.0 0 (saved_of shelf w.0) none kept u.1
              (own_held (table_of bytes) shelf q.name w.0 u.0.formed u.1.0 w.1) w.2
              (record { held = λ z. absurd (z refl); kept = λ l d. absurd (none_not d) }) f.shelf;
        }
    after_drop q (refuses n place) e = record { state = f.state; shelf = rw ((drops bytes q.scratch shelf q.name).refused n place e) f.shelf }

    follows_next : (e : Element) → Follows bytes (next_course bytes c e)
    follows_next (step x) = record { state = ap (λ (s : List ℕ). next bytes s x) f.state ∙ sym (grown line (x ∷ [])); shelf = f.shelf }
    follows_next (run r) = after_run r (check_of bytes c.buffers (run r)) refl
    follows_next (load scratch) = after_load scratch (check_of bytes c.buffers (load scratch)) refl
    follows_next (save q) = after_save q (check_of bytes c.buffers (save q)) refl
    follows_next (restore q) = after_restore q (check_of bytes c.buffers (restore q)) refl
    follows_next (drop q) = after_drop q (check_of bytes c.buffers (drop q)) refl

    -- an entry is older only after a restore or a load that is done
    module _ (a k : ℕ) (l : k < (table_of bytes).sizes.stigmergy) where
      abbrev NotOlderIn : List ℕ → Type 0
      NotOlderIn s = NotOlder newer (entry_of s a k) (entry_of state a k)

      abbrev Stays : Element → Type 0
      Stays e = NotOlderIn (next_buffers bytes c.buffers e).state

      -- so it is where a done element stays so, and a refused one leaves the state as it came
      stays : (e : Element) → (check_of bytes c.buffers e ≡ passes → Stays e)
          → ((n place : ℕ) → check_of bytes c.buffers e ≡ refuses n place → (next_buffers bytes c.buffers e).state ≡ state)
          → (d : Check) → check_of bytes c.buffers e ≡ d → Stays e
      stays e f g passes d = f d
      stays e f g (refuses n place) d = inl (ap (λ (s : List ℕ). entry_of s a k) (g n place d))

      not_older_next : (e : Element) → (IsRestore e × (check_of bytes c.buffers e ≡ passes) → ⊥)
          → (IsLoad e × (check_of bytes c.buffers e ≡ passes) → ⊥) → Stays e
      not_older_next (step x) m n = not_older bytes state (x ∷ []) a k l
      not_older_next (run r) m n =
          stays (run r) (λ e. subst NotOlderIn (sym ((runs r).run_done e).state) (not_older bytes state (steps_in r) a k l)) (run_stays r) (check_of bytes c.buffers (run r)) refl
      not_older_next (load scratch) m n =
          stays (load scratch) (λ e. absurd (n (tt, e))) (load_refused bytes state scratch) (check_of bytes c.buffers (load scratch)) refl
      not_older_next (save q) m n = inl refl
      not_older_next (restore q) m n =
          stays (restore q) (λ e. absurd (m (tt, e))) (restores bytes q.scratch shelf q.name state).refused (check_of bytes c.buffers (restore q)) refl
      not_older_next (drop q) m n = inl refl

-- AND THE LINES still start there
module _ (bytes : List ℕ) (l : Lines) (s : Starts bytes l) where
  -- where one more line is kept, or none
  starts_keeping : (name : ℕ) (o : Option Line) → ((k : Line) → o ≡ some k → k.start ≡ loaded (table_of bytes)) → Starts bytes (lines l.line (keeping name o l.kept))
  starts_keeping name o h = record {
    line = s.line;
    kept = λ n k e.
        ⊎_elim (λ (d : n ≡ name). h k (sym (keeping_same name o l.kept n d) ∙ e)) (λ (d : n ≡ name → ⊥). s.kept n k (sym (keeping_other name o l.kept n d) ∙ e))
        (same_or_other n name);
  }

  -- the line that a restore takes back
  starts_kept : (o : Option Line) (name : ℕ) → l.kept name ≡ o → (kept_or o l.line).start ≡ loaded (table_of bytes)
  starts_kept (some k) name e = s.kept name k e
  starts_kept none name e = s.line

  starts_next : (c : Check) (e : Element) → Starts bytes (next_lines bytes c l e)
  starts_next c (step x) = record { line = s.line; kept = s.kept }
  starts_next passes (run r) = record { line = s.line; kept = s.kept }
  starts_next passes (load scratch) = record { line = refl; kept = s.kept }
  starts_next passes (save q) = starts_keeping q.name (some l.line) (λ k e. ap (λ (k : Line). k.start) (sym (some_same e)) ∙ s.line)
  starts_next passes (restore q) = record { line = starts_kept (l.kept q.name) q.name refl; kept = s.kept }
  starts_next passes (drop q) = starts_keeping q.name none (λ k e. absurd (none_not e))
  starts_next (refuses n place) (run r) = record { line = s.line; kept = s.kept }
  starts_next (refuses n place) (load scratch) = s
  starts_next (refuses n place) (save q) = s
  starts_next (refuses n place) (restore q) = s
  starts_next (refuses n place) (drop q) = s

module _ (bytes : List ℕ) (small : Bytes bytes) (begun : ProperFacts (table_of bytes) (loaded (table_of bytes))) where
  follows : (c : Course) → Follows bytes c → Starts bytes c.lines → (es : List Element)
      → Follows bytes (after_steps (next_course bytes) c es) × Starts bytes (after_steps (next_course bytes) c es).lines
  follows c f s [] = (f, s)
  follows c f s (e ∷ es) = follows (next_course bytes c e) (follows_next bytes small begun c f s e) (starts_next bytes c.lines s (check_of bytes c.buffers e) e) es

  module _ (demand : (xs : List Step) → Demand3 bytes xs) (lent : List ℕ) (free : NoNames lent) (es : List Element) where
    abbrev course : Course
    course = course_after bytes lent es

    there : Follows bytes course × Starts bytes course.lines
    there =
        follows (course_after bytes lent [])
        (record { state = refl; shelf = record { held = λ i h n. absurd (n (free i h)); named = λ name l e. absurd (none_not e) } })
        (record { line = refl; kept = λ name l e. absurd (none_not e) }) es

    survives : Surviving bytes lent es
    survives =
        record {
          state = there.0.state;
          held = there.0.shelf.held;
          kept = there.0.shelf.named;
          starts = there.1.line;
          kept_starts = there.1.kept;
          demand_3 = demand course.lines.line.steps;
          older = λ e m n a k h l. not_older_next bytes small begun course there.0 there.1 a k l e m n;
          fall = λ e m n a k h l.
              ⊎_elim (λ f. omega (arith, ap stamp_in f)) (λ t. omega (arith, ltb→lt)) (not_older_next bytes small begun course there.0 there.1 a k l e n (λ d. m d.0));
        }

pub surviving : SurvivingHolds
surviving bytes lent scratch small e shelf free es =
    let a = load_accepted bytes lent scratch e in
    survives bytes small (load_proper bytes (is_whole lent) scratch (accepted_passes bytes (is_whole lent) scratch a)) (demand_3 bytes lent scratch e).1 shelf free es
