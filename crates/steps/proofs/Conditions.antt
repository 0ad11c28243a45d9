-- What each call asks beyond table and state, line by line.
-- Assumes nothing.
use Prim.Native.Nat.{ℕ, zero, suc, ◌+◌, ◌*◌, ◌<◌, ◌≤◌}
use mathlib.Core.Bool.{Bool, true, false, not, ◌&&◌, ◌||◌}
use mathlib.Core.Logic.{◌⊎◌, ◌↔◌, inl, inr, ⊎_elim}
use mathlib.Core.Path.{◌≡◌, refl, ap, ◌∙◌}
use mathlib.Core.List.{List, [], ◌∷◌, Memᴰ}
use native.Mathlib.Omega.{arith}
use lib.Dec.{eqb, ltb, leb}
use lib.ListN.{length}
use borrow.Author.Tests.{eqb-true, eqb-false, eq-eqb, ne_eqb, ltb-true, lt-ltb, leb-true, le-leb, not-true, not-false}
use Rattle.basis.specs.KeySets.{has}
use Rattle.basis.proofs.Tests.{not_both, and_left, and_right, and_both, and_fails, or_either, or_left, or_right}
use Rattle.value.specs.Values.{Value}
use Rattle.std.specs.Prelude.{None, Some}
use Rattle.table.specs.Checks.{refuse_if}
use Rattle.table.specs.Conditions.{◌when◌}
use Rattle.table.specs.Tables.{Table, kind_at}
use Rattle.table.proofs.Conditions.{Line, Follows, follows_if}
use Rattle.term.specs.declared.Label.{Label}
use Rattle.term.specs.declared.Label.TheVariants.{Ticking, Acting}
use Rattle.term.specs.Terms.{words}
use Rattle.term.specs.Processes.{all_few}
use Rattle.term.proofs.Subterms.{few_part, some_many}
use Rattle.state.specs.Layout.{zc_of, zp_of, term_in}
use Rattle.state.specs.Entries.{clock_of}
use Rattle.state.specs.Evaluation.{holds}
use Rattle.steps.specs.Acts.{is_absent, writes_entry, choices, chosen, all_hold, value_for, lacks_value, act_checks}
use Rattle.steps.specs.Steps.{out_of_range, own_checks, step_checks}
use Rattle.steps.specs.Runs.{steps_of, schedule_checks}
use Rattle.steps.specs.Shelves.{is_name, is_held, shelf_formed}
use Rattle.steps.specs.Points.{shelf_check, save_checks, held_checks}
use Rattle.steps.specs.Refusals.{TooMany, Unmet, NoValue, NoStamp, act_conditions, own_conditions, step_conditions, run_conditions, save_conditions, held_conditions}
use Rattle.steps.proofs.Steps.{in_range_lem}
use Rattle.steps.proofs.Shelves.{is_name_lem, is_held_lem, is_well_formed}
use Rattle.steps.proofs.PointChecks.{has_room}

-- A LINE that refuses unless a fact is so
pub unless : (number : ℕ) (test : Bool) {Fact : Type 0} → (test ≡ false) ↔ Fact → Line (refuse_if number test) (number when (Fact → ⊥))
unless number test h = follows_if number test (λ e w. not_both e (h.1 w)) (λ e n. n (h.0 e))

pub unless_not : (number : ℕ) (test : Bool) {Fact : Type 0} → (test ≡ true) ↔ Fact → Line (refuse_if number (not test)) (number when (Fact → ⊥))
unless_not number test h = unless number (not test) (λ e. h.0 (not-false test e), λ w. ap not (h.1 w))

-- a line that refuses where a fact is so
pub where_so : (number : ℕ) (test : Bool) {Fact : Type 0} → (test ≡ true) ↔ Fact → Line (refuse_if number test) (number when Fact)
where_so number test h = follows_if number test h.0 (λ e w. not_both (h.1 w) e)

pub where_not : (number : ℕ) (test : Bool) {Fact : Type 0} → (test ≡ false) ↔ Fact → Line (refuse_if number (not test)) (number when Fact)
where_not number test h = where_so number (not test) (λ e. h.0 (not-true test e), λ w. ap not (h.1 w))

-- comparisons
eq_exactly : (a b : ℕ) → (eqb a b ≡ true) ↔ (a ≡ b)
eq_exactly a b = (eqb-true a b, eq-eqb a b)

pub ne_exactly : (a b : ℕ) → (eqb a b ≡ false) ↔ (a ≡ b → ⊥)
ne_exactly a b = (eqb-false a b, ne_eqb a b)

lt_exactly : (a b : ℕ) → (ltb a b ≡ true) ↔ (a < b)
lt_exactly a b = (ltb-true a b, lt-ltb a b)

le_exactly : (a b : ℕ) → (leb a b ≡ true) ↔ (a ≤ b)
le_exactly a b = (leb-true a b, le-leb a b)

and_exactly : (a b : Bool) {A B : Type 0} → (a ≡ true) ↔ A → (b ≡ true) ↔ B → ((a && b) ≡ true) ↔ (A × B)
and_exactly a b f g = (λ e. (f.0 (and_left a b e), g.0 (and_right a b e)), λ w. and_both a b (f.1 w.0) (g.1 w.1))

or_exactly : (a b : Bool) {A B : Type 0} → (a ≡ true) ↔ A → (b ≡ true) ↔ B → ((a || b) ≡ true) ↔ (A ⊎ B)
or_exactly a b f g =
    (λ e. ⊎_elim (λ d. inl (f.0 d)) (λ d. inr (g.0 d)) (or_either a b e), ⊎_elim (λ w. or_left a b (f.1 w)) (λ w. or_right a b (g.1 w)))

not_exactly : (b : Bool) {B : Type 0} → (b ≡ false) ↔ B → (not b ≡ true) ↔ B
not_exactly b h = (λ e. h.0 (not-true b e), λ w. ap not (h.1 w))

-- AN ACT'S
module _ (t : Table) (was : List ℕ) (x : ℕ) where
  too_many : (all_few t (term_in was x) ≡ false) ↔ TooMany t was x
  too_many = (
    λ e. let m = some_many t (term_in was x) e in record { part = m.0; within = m.1; many = m.2 },
    λ m. by (all_few t (term_in was x)) refl m,
  )
    where
      by : (b : Bool) → all_few t (term_in was x) ≡ b → TooMany t was x → b ≡ false
      by true e m = absurd (omega (arith, m.many, few_part t m.within e))
      by false e m = refl

  unmet : (guards : List ℕ) → all_hold t was x guards ≡ false → Unmet t was x guards
  unmet [] e = absurd (not_both refl e)
  unmet (b ∷ g) e =
      ⊎_elim (λ (d : holds t was x x b ≡ false). record { guard = b; collected = Memᴰ.head refl; fails = d })
      (λ (d : all_hold t was x g ≡ false). let w = unmet g d in record { guard = w.guard; collected = Memᴰ.tail w.collected; fails = w.fails })
      (and_fails (holds t was x x b) (all_hold t was x g) e)

  each_holds : (guards : List ℕ) {b : ℕ} → Memᴰ b guards → all_hold t was x guards ≡ true → holds t was x x b ≡ true
  each_holds [] {b = b} m e = elim m [ ]
  each_holds (b ∷ g) (Memᴰ.head i) e = ap (λ (c : ℕ). holds t was x x c) i ∙ and_left (holds t was x x b) (all_hold t was x g) e
  each_holds (b ∷ g) (Memᴰ.tail m) e = each_holds g m (and_right (holds t was x x b) (all_hold t was x g) e)

  absent : (v : Value) → is_absent v ≡ true → v ≡ None
  absent None e = refl
  absent (Some v) e = absurd (not_both e refl)

  no_value : (label : Label) → (lacks_value t was x label ≡ true) ↔ NoValue t was x label
  no_value label = (there label, λ w. ap (lacks_value t was x) w.action ∙ ap is_absent w.absent)
    where
      there : (label : Label) → lacks_value t was x label ≡ true → NoValue t was x label
      there Ticking e = absurd (not_both e refl)
      there (Acting n) e = record { node = n; action = refl; absent = absent (value_for t was x n) e }

  no_stamp : (label : Label) → ((writes_entry t label && leb 65535 (clock_of was)) ≡ true) ↔ NoStamp t was x label
  no_stamp label = (there label, back)
    where
      there : (label : Label) → (writes_entry t label && leb 65535 (clock_of was)) ≡ true → NoStamp t was x label
      there Ticking e = absurd (not_both e refl)
      there (Acting n) e = record {
        node = n;
        action = refl;
        stigmergy = eqb-true (kind_at t n) 3 (and_left (eqb (kind_at t n) 3) (leb 65535 (clock_of was)) e);
        highest = leb-true 65535 (clock_of was) (and_right (eqb (kind_at t n) 3) (leb 65535 (clock_of was)) e);
      }

      back : NoStamp t was x label → (writes_entry t label && leb 65535 (clock_of was)) ≡ true
      back w = and_both (writes_entry t label) (leb 65535 (clock_of was)) (ap (writes_entry t) w.action ∙ eq-eqb (kind_at t w.node) 3 w.stigmergy)
          (le-leb 65535 (clock_of was) w.highest)

  act_follows : (c : ℕ) → Follows (act_checks t was x c) (act_conditions t was x c)
  act_follows c =
      let d = chosen t was x c in (
        unless_not 11 (eqb (zc_of was x) 0 && eqb (zp_of was x) 0) (and_exactly (eqb (zc_of was x) 0) (eqb (zp_of was x) 0) (eq_exactly (zc_of was x) 0) (eq_exactly (zp_of was x) 0)),
        λ e11. (
          where_not 12 (all_few t (term_in was x)) too_many,
          λ e12. (
            where_so 13 (leb (length (choices t was x)) c) (le_exactly (length (choices t was x)) c),
            λ e13. (
              where_not 14 (all_hold t was x d.guards) (guards d.guards),
              λ e14. (
                where_so 15 (lacks_value t was x d.label) (no_value d.label),
                λ e15. (
                  where_so 16 (writes_entry t d.label && leb 65535 (clock_of was)) (no_stamp d.label),
                  λ e16. (where_so 17 (ltb 63 (length (words d.leaving))) (lt_exactly 63 (length (words d.leaving))), λ e17. tt),
                ),
              ),
            ),
          ),
        ),
      )
    where
      guards : (g : List ℕ) → (all_hold t was x g ≡ false) ↔ Unmet t was x g
      guards g = (unmet g, λ w. by (all_hold t was x g) refl w)
        where
          by : (b : Bool) → all_hold t was x g ≡ b → Unmet t was x g → b ≡ false
          by true e w = absurd (not_both (each_holds g w.collected e) w.fails)
          by false e w = refl

  -- A STEP'S
  own_follows : (kind number : ℕ) → Follows (own_checks t was kind x number) (own_conditions t was x kind number)
  own_follows zero c = act_follows c
  own_follows (suc zero) k = (where_not 18 (has (zp_of was x) k) (λ e. e, λ e. e), λ e. tt)
  own_follows (suc (suc kind)) k = (where_not 18 (has (zc_of was x) k) (λ e. e, λ e. e), λ e. tt)

pub step_follows : (t : Table) (was : List ℕ) (kind x number : ℕ) → Follows (step_checks t was kind x number) (step_conditions t was kind x number)
step_follows t was kind x number = (unless 10 (out_of_range t kind x number) (in_range_lem t was kind x number), λ e. own_follows t was x kind number)

-- A RUN'S
pub run_follows : (schedule answers : List ℕ) → Follows (schedule_checks schedule answers) (run_conditions schedule answers)
run_follows schedule answers = (
  where_so 19 (ltb (length schedule) 2 || (not (eqb (length schedule) (2 + 5 * n)) || ltb 8192 n))
      (or_exactly (ltb (length schedule) 2) (not (eqb (length schedule) (2 + 5 * n)) || ltb 8192 n) (lt_exactly (length schedule) 2)
      (or_exactly (not (eqb (length schedule) (2 + 5 * n))) (ltb 8192 n)
      (not_exactly (eqb (length schedule) (2 + 5 * n)) (ne_exactly (length schedule) (2 + 5 * n))) (lt_exactly 8192 n))),
  λ e. (where_so 20 (ltb (length answers) n) (lt_exactly (length answers) n), λ f. tt),
)
  where
    n : ℕ
    n = steps_of schedule

-- A SAVE'S; A RESTORE'S AND A DROP'S
module _ (t : Table) (shelf : List ℕ) (name : ℕ) where
  pub save_follows : Follows (shelf_check t shelf ∷ save_checks shelf name) (save_conditions t shelf name)
  save_follows = (
    unless_not 9 (shelf_formed shelf t) (is_well_formed t shelf),
    λ e9. (unless_not 21 (is_name name) (is_name_lem name), λ e21. (unless_not 22 (is_held shelf name || is_held shelf 0) (has_room shelf name), λ e22. tt)),
  )

  pub held_follows : Follows (shelf_check t shelf ∷ held_checks shelf name) (held_conditions t shelf name)
  held_follows = (
    unless_not 9 (shelf_formed shelf t) (is_well_formed t shelf),
    λ e9. (unless_not 21 (is_name name && is_held shelf name) (and_exactly (is_name name) (is_held shelf name) (is_name_lem name) (is_held_lem shelf name)), λ e21. tt),
  )
