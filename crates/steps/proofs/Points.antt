-- Save, restore and drop: when they are done, and what they come to.
-- Assumes nothing.
use Prim.Native.Nat.{ℕ, ◌<◌}
use mathlib.Core.Bool.{Bool, true}
use mathlib.Core.Path.{◌≡◌, refl, sym, ap, subst, ◌∙◌}
use mathlib.Core.Logic.{◌⊎◌, ◌↔◌, ⊎_elim}
use mathlib.Core.List.{List, ◌∷◌, ◌++◌}
use native.Mathlib.Omega.{arith}
use lib.ListN.{length}
use borrow.Author.Tests.{eqb-true, eq-eqb}
use Rattle.table.specs.Checks.{Check, passes, refuses, Refusal, first_of}
use Rattle.table.specs.Tables.{Table, table_of}
use Rattle.table.proofs.Checks.{append_later, append_passes, append_both}
use Rattle.term.specs.Acceptance.{table_checks}
use Rattle.steps.specs.Steps.{state_checks_with}
use Rattle.steps.specs.Shelves.{place_limit, shelf_words, is_whole_shelf, saved_of, place_of, save_place}
use Rattle.steps.specs.Points.{change, shelf_check, save_checks, held_checks, saved, restored, dropped, save_of, restore_of, drop_of}
use Rattle.steps.specs.Kept.{Free, Holds, Held, Room, LowestFree, WellFormed, OnlyAt, IsName, StatePasses, Usable, Does, Saves, Restores, Drops, Kept}
use Rattle.steps.proofs.Steps.{state_checks_lem}
use Rattle.steps.proofs.Shelves.{is_held_lem, place_held, place_saved, saved_below, is_well_formed, own_saved, formed_after}
use Rattle.steps.proofs.ShelfWords.{only_named, only_saved}
use Rattle.steps.proofs.PointChecks.{fits_table, fits_state, state_table, state_whole, has_room, save_checks_lem, held_checks_lem, not_known}

-- a change, by its check
module _ (was words : List ℕ) where
  pub change_check : (c : Check) → (change c was words).check ≡ c
  unfolding change
  change_check c = refl

  pub change_done : (c : Check) → c ≡ passes → (change c was words).words ≡ words
  unfolding change
  change_done c e = rw e

  pub change_refused : (c : Check) {number place : ℕ} → c ≡ refuses number place → (change c was words).words ≡ was
  unfolding change
  change_refused c e = rw e

  -- what it does
  module _ (c : Check) {When : Type 0} (h : (c ≡ passes) ↔ When) (Then : List ℕ → Type 0) where
    does : (When → Then words) → Does (change c was words) was When Then
    does d =
        record {
          done_when = (λ e. h.0 (sym came ∙ e), λ p. came ∙ h.1 p);
          done = λ e. subst Then (sym (change_done c (sym came ∙ e))) (d (h.0 (sym came ∙ e)));
          refused = λ n place e. change_refused c (sym came ∙ e);
        }
      where
        came : (change c was words).check ≡ c
        came = change_check c

-- THE CALLS
module _ (bytes : List ℕ) (scratch : ℕ) (shelf : List ℕ) (name : ℕ) where
  abbrev t : Table
  t = table_of bytes

  abbrev whole : Bool
  whole = is_whole_shelf shelf

  abbrev UsableShelf : Type 0
  UsableShelf = Usable bytes scratch shelf

  abbrev of_name : List Refusal
  of_name = shelf_check t shelf ∷ held_checks shelf name

  usable : whole ≡ true → first_of (table_checks bytes true scratch) ≡ passes → WellFormed shelf t → UsableShelf
  usable w e f = record { table = e; whole = eqb-true (length shelf) shelf_words w; formed = f }

  is_whole : length shelf ≡ shelf_words → whole ≡ true
  is_whole e = eq-eqb (length shelf) shelf_words e

  -- the place of a held name
  held_place : Held shelf name → Holds shelf name (place_of shelf name)
  held_place w = place_held shelf name ((is_held_lem shelf name).1 w)

  drop_done : (first_of (table_checks bytes whole scratch ++ of_name) ≡ passes) ↔ (UsableShelf × IsName name × Held shelf name)
  drop_done = (
    λ e.
        let w = append_passes (table_checks bytes whole scratch) of_name e in
        let o = (fits_table bytes scratch whole).0 w.0 in
        let p = (held_checks_lem t shelf name).0 w.1 in
        (usable o.0 o.1 p.0, p.1, p.2),
    λ p. append_both (table_checks bytes whole scratch) of_name ((fits_table bytes scratch whole).1 (is_whole p.0.whole, p.0.table))
        ((held_checks_lem t shelf name).1 (p.0.formed, p.1, p.2)),
  )

  pub drops : Drops bytes scratch shelf name
  unfolding drop_of
  drops = does shelf (dropped shelf name) (first_of (table_checks bytes whole scratch ++ of_name)) drop_done _ did
    where
      did : UsableShelf × IsName name × Held shelf name
          → (i : ℕ) × Holds shelf name i × OnlyAt shelf i 0 (saved_of shelf i) (dropped shelf name) × WellFormed (dropped shelf name) t
      did p =
          let h = held_place p.2 in
          let only = only_named shelf p.0.whole (place_of shelf name) h.place 0 in (
            place_of shelf name,
            h,
            only,
            formed_after t shelf p.0.formed (place_of shelf name) 0 (saved_of shelf (place_of shelf name)) _ only
                (omega arith) (λ z. absurd (z refl)) (λ j h d f. refl),
          )

  module _ (state : List ℕ) where
    abbrev opening : List Refusal
    opening = state_checks_with whole bytes state scratch

    abbrev Passes : Type 0
    Passes = StatePasses bytes scratch state

    -- a list after the opening one
    module _ (own : List Refusal) where
      open_passes : first_of (opening ++ own) ≡ passes → (WellFormed shelf t → UsableShelf) × Passes × (first_of own ≡ passes)
      open_passes e =
          let w = append_passes opening own e in
          let o = (fits_state bytes scratch state whole).0 w.0 in
          (usable o.0 (state_table bytes scratch state o.1), o.1, w.1)

      open_later : Passes → UsableShelf → first_of (opening ++ own) ≡ first_of own
      open_later e u = append_later opening own ((fits_state bytes scratch state whole).1 (is_whole u.whole, e))

    restore_done : (first_of (opening ++ of_name) ≡ passes) ↔ (Passes × UsableShelf × IsName name × Held shelf name)
    restore_done = (
      λ e.
          let o = open_passes of_name e in
          let p = (held_checks_lem t shelf name).0 o.2 in
          (o.1, o.0 p.0, p.1, p.2),
      λ p. open_later of_name p.0 p.1 ∙ (held_checks_lem t shelf name).1 (p.1.formed, p.2, p.3),
    )

    pub restores : Restores bytes scratch shelf name state
    unfolding restore_of
    restores =
        does state (restored shelf name) (first_of (opening ++ of_name)) restore_done _ (λ p. (place_of shelf name, held_place p.3, refl))

    -- a name that is not held
    pub restore_not_held : Passes → UsableShelf → (IsName name × Held shelf name → ⊥) → (restore_of bytes state scratch shelf name).check ≡ refuses 21 0
    unfolding restore_of
    restore_not_held e u n = change_check state (restored shelf name) (first_of (opening ++ of_name)) ∙ open_later of_name e u ∙ not_known t shelf name u.formed n

    abbrev of_save : List Refusal
    of_save = shelf_check t shelf ∷ save_checks shelf name

    save_done : (first_of (opening ++ of_save) ≡ passes) ↔ (Passes × UsableShelf × IsName name × Room shelf name)
    save_done = (
      λ e.
          let o = open_passes of_save e in
          let p = (save_checks_lem t shelf name).0 o.2 in
          (o.1, o.0 p.0, p.1, p.2),
      λ p. open_later of_save p.0 p.1 ∙ (save_checks_lem t shelf name).1 (p.1.formed, p.2, p.3),
    )

    pub saves : Saves bytes scratch shelf name state
    unfolding save_of
    saves = does shelf after (first_of (opening ++ of_save)) save_done _ did
      where
        after : List ℕ
        after = saved state shelf name

        did : Passes × UsableShelf × IsName name × Room shelf name
            → (i : ℕ) × (Holds shelf name i ⊎ LowestFree shelf name i) × OnlyAt shelf i name state after × WellFormed after t
        did p =
            let i = save_place shelf name in
            let h = place_saved shelf name ((has_room shelf name).1 p.3) in
            let only = only_saved shelf p.1.whole i (saved_below shelf name i h) state (state_whole bytes scratch state p.0) name in
            let own = own_saved t shelf name i p.1.formed p.2.0 h in (
              i,
              h,
              only,
              formed_after t shelf p.1.formed i name state _ only p.2.1 (λ z. ((state_checks_lem bytes state scratch).0 p.0).1)
                  (λ j h d f. absurd (own.alone j h d f)),
            )

-- COMING BACK
module _ (bytes : List ℕ) (scratch later : ℕ) (shelf : List ℕ) (name : ℕ) (state now : List ℕ) where
  abbrev held : List ℕ
  held = (save_of bytes state scratch shelf name).words

  back : (save_of bytes state scratch shelf name).check ≡ passes → StatePasses bytes later now
      → ((restore_of bytes now later held name).check ≡ passes) × ((restore_of bytes now later held name).words ≡ state)
  back e f = (again, same)
    where
      s : Saves bytes scratch shelf name state
      s = saves bytes scratch shelf name state

      r : Restores bytes later held name now
      r = restores bytes later held name now

      place : (s.done e).0 < place_limit
      place = saved_below shelf name (s.done e).0 (s.done e).1

      again : (restore_of bytes now later held name).check ≡ passes
      again =
          let u = s.done_when.0 e in
          let w = s.done e in
          r.done_when.1 (
            f,
            record { table = state_table bytes later now f; whole = w.2.words ∙ u.1.whole; formed = (s.done e).3 },
            u.2,
            (w.0, record { place = place; named = w.2.name }),
          )

      same : (restore_of bytes now later held name).words ≡ state
      same =
          let p = (s.done_when.0 e).2.0 in
          let w = s.done e in
          let d = r.done again in
          ⊎_elim (λ (z : Free held d.0). let y = sym d.1.named ∙ z in absurd (omega arith))
          (λ (z : d.0 ≡ w.0). d.2 ∙ ap (saved_of held) z ∙ w.2.state) ((s.done e).3.once d.0 w.0 d.1.place place (d.1.named ∙ sym w.2.name))

pub kept : Kept
kept = record { is_well_formed = is_well_formed; saves = saves; restores = restores; drops = drops; back = back }
