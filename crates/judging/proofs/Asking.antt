-- The guards of a list, and those that are marked: whether they hold, and which keys they read.
-- Assumes nothing.
use Prim.Native.Nat.{ℕ, ◌+◌, ◌≤◌}
use mathlib.Core.Bool.{Bool, true, false, not, cond, ◌&&◌, ◌||◌}
use mathlib.Core.Logic.{⊎_elim}
use mathlib.Core.Path.{◌≡◌, refl, sym, ap, ◌∙◌}
use mathlib.Core.List.{List, [], ◌∷◌}
use native.Mathlib.Omega.{arith}
use lib.Dec.{eqb}
use lib.ListN.{replicate}
use borrow.Author.Tests.{eqb-true, eq-eqb}
use Rattle.std.specs.Prelude.{Ok, Err}
use Rattle.basis.specs.KeySets.{plus_all}
use Rattle.basis.specs.Numbers.{some_below}
use Rattle.basis.proofs.Numbers.{some_at, some_witness}
use Rattle.basis.proofs.Tests.{not_both, same_test, and_left, and_right, and_both, or_left, or_right, or_either, not_and}
use Rattle.table.specs.Tables.{Table, kind_at}
use Rattle.table.specs.Nodes.{is_guard}
use Rattle.table.specs.declared.refusals.Refused.{Refused}
use Rattle.table.specs.declared.refusals.Refused.TheVariants.{GuardFails}
use Rattle.term.proofs.Each.{Each}
use Rattle.term.specs.Accepted.{GuardNode}
use Rattle.state.specs.Evaluation.{holds, reads}
use Rattle.state.specs.Layout.{key_limit}
use Rattle.evaluation.specs.Reading.{Adds}
use Rattle.evaluation.proofs.Adding.{adds_same, adds_both, all_adds, adds_all}
use Rattle.choice.specs.Marking.{has_mark, marked_guard, Lowest, is_in, Marked}
use Rattle.choice.proofs.Collecting.{zeros_none}
use Rattle.choice.proofs.Searching.{Passed, some_skip, some_next}
use Rattle.steps.specs.Acts.{all_hold, guards_read}
use Rattle.judging.specs.Guards.{GuardsMarked, guard_keys, asked_of}

-- what every element has, an element has
is_in_each : (P : ℕ → Type 0) (gs : List ℕ) → Each P gs → (b : ℕ) → is_in b gs ≡ true → P b
unfolding is_in
is_in_each P [] h b e = absurd (not_both e refl)
is_in_each P (g ∷ gs) h b e =
    ⊎_elim (λ (f : eqb b g ≡ true). let i : b ≡ g = eqb-true b g f in rw i h.0)
    (λ (f : is_in b gs ≡ true). is_in_each P gs h.1 b f) (or_either (eqb b g) (is_in b gs) e)

-- guards that are marked where nothing was before
pub collected : (t : Table) (gs : List ℕ) (n : ℕ) (out : List ℕ) → Each (GuardNode t) gs → Marked t gs (replicate n 0) out → GuardsMarked t gs out
collected t gs n out each m =
    record {
      room = m.marks.room;
      guards = λ b.
          same_test (marked_guard t.kinds out b) (is_in b gs)
          (λ e. let g = and_left (is_guard (kind_at t b)) (has_mark out b) e in sym (marked b g) ∙ and_right (is_guard (kind_at t b)) (has_mark out b) e)
          (λ e. let g = is_in_each (GuardNode t) gs each b e in and_both (is_guard (kind_at t b)) (has_mark out b) g.1 (marked b g.1 ∙ e));
      nodes = λ b e. omega (arith, (is_in_each (GuardNode t) gs each b e).0);
    }
  where
    marked : (b : ℕ) → is_guard (kind_at t b) ≡ true → has_mark out b ≡ is_in b gs
    marked b g = m.guards b g ∙ ap (λ (x : Bool). x || is_in b gs) (zeros_none n b)

-- where f says whether some element of a list passes, a marked guard passes where one of the list does
module _ (p : ℕ → Bool) (f : List ℕ → Bool) (none : f [] ≡ false) (more : (g : ℕ) (gs : List ℕ) → f (g ∷ gs) ≡ (p g || f gs)) where
  some_of : (gs : List ℕ) (b : ℕ) → is_in b gs ≡ true → p b ≡ true → f gs ≡ true
  unfolding is_in
  some_of [] b i e = absurd (not_both i refl)
  some_of (g ∷ gs) b i e =
      more g gs ∙ ⊎_elim (λ (d : eqb b g ≡ true). or_left (p g) (f gs) (rw (eqb-true b g d) at e)) (λ (d : is_in b gs ≡ true). or_right (p g) (f gs) (some_of gs b d e))
      (or_either (eqb b g) (is_in b gs) i)

  one_of : (gs : List ℕ) → f gs ≡ true → (b : ℕ) × (is_in b gs ≡ true) × (p b ≡ true)
  unfolding is_in
  one_of [] e = absurd (not_both e none)
  one_of (g ∷ gs) e =
      ⊎_elim (λ (d : p g ≡ true). (g, or_left (eqb g g) (is_in g gs) (eq-eqb g g refl), d))
      (λ (d : f gs ≡ true). let w = one_of gs d in (w.0, or_right (eqb w.0 g) (is_in w.0 gs) w.1, w.2)) (or_either (p g) (f gs) (sym (more g gs) ∙ e))

  some_marked : {t : Table} {gs ms : List ℕ} → GuardsMarked t gs ms → (n : ℕ) → t.sizes.nodes ≤ n → some_below (λ (b : ℕ). marked_guard t.kinds ms b && p b) n ≡ f gs
  some_marked {t} {gs} {ms} marks n h =
      same_test (some_below both n) (f gs)
      (λ e.
      let w = some_witness both n e in
      some_of gs w.0 (sym (marks.guards w.0) ∙ and_left (marked_guard t.kinds ms w.0) (p w.0) w.2) (and_right (marked_guard t.kinds ms w.0) (p w.0) w.2))
      (λ e.
      let w = one_of gs e in
      some_at both n w.0 (omega (arith, marks.nodes w.0 w.1)) (and_both (marked_guard t.kinds ms w.0) (p w.0) (marks.guards w.0 ∙ w.1) w.2))
    where
      both : ℕ → Bool
      both b = marked_guard t.kinds ms b && p b

-- up to the next marked guard there is none, and up to the last node where there is none more
pub passed : {test : ℕ → Bool} {limit from r : ℕ} → Lowest test limit from r → Passed test from r
passed low = record { ahead = low.ahead; none = low.none }

module _ (t : Table) (was : List ℕ) (x : ℕ) where
  -- a marked guard below n does not hold
  abbrev pub some_fails : List ℕ → ℕ → Bool
  some_fails ms n = some_below (λ (b : ℕ). marked_guard t.kinds ms b && not (holds t was x x b)) n

  pub all_held : {gs ms : List ℕ} → GuardsMarked t gs ms → (n : ℕ) → t.sizes.nodes ≤ n → some_fails ms n ≡ not (all_hold t was x gs)
  all_held marks = some_marked (λ b. not (holds t was x x b)) (λ gs. not (all_hold t was x gs)) refl (λ g gs. not_and (holds t was x x g) (all_hold t was x gs)) marks

-- WHAT THE MARKED GUARDS READ
module _ (t : Table) where
  -- a marked guard below n reads key k
  abbrev pub marked_reads : List ℕ → ℕ → ℕ → Bool
  marked_reads marks n k = some_below (λ (b : ℕ). marked_guard t.kinds marks b && reads t b k) n

  module _ (marks : List ℕ) {n keys : ℕ} (so : Adds (marked_reads marks n) 0 keys) where
    -- one guard more
    pub reads_more : {limit m : ℕ} → Lowest (marked_guard t.kinds marks) limit n m → {r : ℕ} → r ≡ plus_all (reads t m) key_limit keys → Adds (marked_reads marks (m + 1)) 0 r
    reads_more low e = adds_same (λ k. some_next (passed low) (λ (b : ℕ). reads t b k) low.is) (adds_both so (all_adds (so.small (omega arith)) e))

    -- no guard more
    pub reads_all : Passed (marked_guard t.kinds marks) n t.sizes.nodes → {gs : List ℕ} → GuardsMarked t gs marks → keys ≡ guard_keys t gs
    reads_all last c =
        adds_all (omega arith) (adds_same (λ k. sym (some_marked (λ b. reads t b k) (λ gs. guards_read t gs k) refl (λ g gs. refl) c t.sizes.nodes (omega arith))
        ∙ some_skip last (λ (b : ℕ). reads t b k)) so)

-- WHAT IS FOUND OF GUARDS
module _ (t : Table) (was : List ℕ) (x : ℕ) (gs : List ℕ) where
  pub asked_hold : {keys : ℕ} → all_hold t was x gs ≡ true → keys ≡ guard_keys t gs → Ok keys ≡ asked_of t was x gs
  unfolding asked_of
  asked_hold e f = rw (asked_of, e, f)

  pub asked_fails : all_hold t was x gs ≡ false → Err GuardFails ≡ asked_of t was x gs
  unfolding asked_of
  asked_fails e = rw (asked_of, e)

  pub hold_asked : {keys : ℕ} → Ok keys ≡ asked_of t was x gs → (all_hold t was x gs ≡ true) × (keys ≡ guard_keys t gs)
  unfolding asked_of
  hold_asked {keys} = by (all_hold t was x gs)
    where
      by : (b : Bool) → Ok keys ≡ cond b (Ok (guard_keys t gs)) (Err GuardFails) → (b ≡ true) × (keys ≡ guard_keys t gs)
      by true e = (refl, cc)
      by false e = cc

  pub fails_asked : {e : Refused} → Err e ≡ asked_of t was x gs → (all_hold t was x gs ≡ false) × (e ≡ GuardFails)
  unfolding asked_of
  fails_asked {e} = by (all_hold t was x gs)
    where
      by : (b : Bool) → Err e ≡ cond b (Ok (guard_keys t gs)) (Err GuardFails) → (b ≡ false) × (e ≡ GuardFails)
      by true f = cc
      by false f = (refl, cc)
