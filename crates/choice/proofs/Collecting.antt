-- Marks of the guards that a walk collects, and of the nodes whose only tick it has walked.
-- Assumes nothing.
use Prim.Native.Nat.{ℕ, ◌*◌, ◌/◌, ◌%◌, ◌<◌, ◌≤◌}
use mathlib.Core.Bool.{Bool, true, false, cond, ◌||◌, or_assoc, or_comm, or-false}
use mathlib.Core.Logic.{⊎_elim}
use mathlib.Core.Path.{◌≡◌, refl, sym, ap, subst, ◌∙◌}
use mathlib.Core.List.{List, [], ◌∷◌, ◌++◌}
use native.Mathlib.Omega.{arith}
use lib.Dec.{eqb, leb}
use lib.ListN.{length, get_or, replicate, length-set, length-replicate}
use borrow.Author.Tests.{leb-true, eqb-true, ne_eqb, eq-eqb}
use Rattle.basis.specs.KeySets.{has}
use Rattle.basis.proofs.KeySets.{has_plus, has_nothing}
use Rattle.basis.proofs.Lists.{get_d_set, get_d_row}
use Rattle.basis.proofs.Tests.{either, same_or_other, same_test, not_both, and_left, or_right, or_either}
use Rattle.table.specs.Tables.{Table, kind_at}
use Rattle.table.specs.Nodes.{is_process, is_guard}
use Rattle.term.specs.declared.Mode.{Mode}
use Rattle.term.specs.declared.Mode.TheVariants.{Any, Actions, Ticks}
use Rattle.term.specs.Processes.{Process, node_process}
use Rattle.term.specs.Accepted.{GuardNode}
use Rattle.term.specs.Choices.{tick_count, count_in}
use Rattle.term.proofs.Acceptance.{no_process}
use Rattle.accept.specs.declared.Counts.{Counts}
use Rattle.accept.specs.Counts.{true_counts}
use Rattle.choice.specs.declared.Goal.{Goal}
use Rattle.choice.specs.declared.Side.{Side}
use Rattle.choice.specs.declared.Side.TheVariants.{Alone, Under, After}
use Rattle.choice.specs.Chosen.{chosen_in}
use Rattle.choice.specs.Turns.{ahead, Reached}
use Rattle.choice.specs.Marking.{only_tick, has_mark, WithMark, is_in, WalkMarks, Marked}
use Rattle.choice.proofs.Chosen.{no_idle}

is_in_append : (b : ℕ) (xs ys : List ℕ) → is_in b (xs ++ ys) ≡ (is_in b xs || is_in b ys)
unfolding is_in
is_in_append b [] ys = refl
is_in_append b (x ∷ xs) ys = rw (is_in_append b xs ys) (sym (or_assoc (eqb b x) (is_in b xs) (is_in b ys)))

-- one mark more
module _ {ms : List ℕ} {n : ℕ} {out : List ℕ} (m : WithMark ms n out) where
  mark_length : length out ≡ length ms
  mark_length = ap (λ (vs : List ℕ). length vs) m.changed ∙ length-set ms (n / 32) m.word

  set_marked : n < 32 * length ms → (b : ℕ) → has_mark out b ≡ (eqb b n || has_mark ms b)
  set_marked h b =
      ap (λ (vs : List ℕ). has_mark vs b) m.changed ∙ ap (λ (w : ℕ). has w (b % 32)) (get_d_set ms (n / 32) (b / 32) m.word 0 (omega arith))
      ∙ ⊎_elim same (λ (d : b / 32 ≡ n / 32 → ⊥). rw (ne_eqb (b / 32) (n / 32) d, ne_eqb b n (λ e. d (ap (λ (x : ℕ). x / 32) e)))) (same_or_other (b / 32) (n / 32))
    where
      same : b / 32 ≡ n / 32 → has (cond (eqb (b / 32) (n / 32)) m.word (get_or ms (b / 32) 0)) (b % 32) ≡ (eqb b n || has_mark ms b)
      same d =
          rw (eq-eqb (b / 32) (n / 32) d, m.is, has_plus (get_or ms (n / 32) 0) (n % 32) (b % 32), d)
          (ap (λ (x : Bool). x || has (get_or ms (n / 32) 0) (b % 32))
          (same_test (eqb (n % 32) (b % 32)) (eqb b n) (λ e. eq-eqb b n (omega (arith, eqb-true (n % 32) (b % 32) e))) (λ e. eq-eqb (n % 32) (b % 32) (ap (λ (x : ℕ). x % 32) (sym (eqb-true b n e))))))

-- a guard is no process
apart : (t : Table) (b n : ℕ) → is_guard (kind_at t b) ≡ true → is_process (kind_at t n) ≡ true → eqb b n ≡ false
apart t b n g p =
    ne_eqb b n (λ e.
    let h = leb-true 16 (kind_at t b) (and_left (leb 16 (kind_at t b)) (leb (kind_at t b) 22) g) in
    let l = leb-true (kind_at t n) 9 p in
    let k : kind_at t b ≡ kind_at t n = ap (λ (x : ℕ). kind_at t x) e in
    omega arith)

-- a node that has a choice is a process
pub reached_process : (t : Table) (g : Goal ℕ) → Reached t g → is_process (kind_at t g.from) ≡ true
reached_process t g r =
    ⊎_elim (λ (e : is_process (kind_at t g.from) ≡ true). e)
    (λ (e : is_process (kind_at t g.from) ≡ false). absurd (no_idle g.mode g.choice (subst (λ (P : Process). g.choice < count_in g.mode P) (no_process t g.from e) r.choice)))
    (either (is_process (kind_at t g.from)))

-- where one tick is looked for and there is one only, that is the choice
pub only_first : (m : Mode) (k : Counts) (P : Process) (c : ℕ) → only_tick m k ≡ true → k ≡ true_counts P → c < count_in m P → chosen_in m P c ≡ chosen_in Ticks P 0
only_first Any k P c e f h = absurd (not_both e refl)
only_first Actions k P c e f h = absurd (not_both e refl)
only_first Ticks k P c e f h =
    let x : tick_count P ≡ 1 = sym (ap (λ (z : Counts). z.ticks) f) ∙ eqb-true k.ticks 1 e in
    let z : c ≡ 0 = omega arith in
    ap (chosen_in Ticks P) z

module _ (t : Table) (ms : List ℕ) (marks : WalkMarks t ms) where
  marks_guard : (g : ℕ) → is_guard (kind_at t g) ≡ true → g < 32 * length ms → {vs : List ℕ} → WithMark ms g vs → WalkMarks t vs
  marks_guard g e h m =
      record {
        room = omega (arith, marks.room, mark_length m);
        walked = λ n p w b k i.
            let v : has_mark ms n ≡ true = sym (set_marked m h n ∙ ap (λ (x : Bool). x || has_mark ms n) (other n p)) ∙ w in
            set_marked m h b ∙ or_right (eqb b g) (has_mark ms b) (marks.walked n p v b k i);
      }
    where
      other : (n : ℕ) → is_process (kind_at t n) ≡ true → eqb n g ≡ false
      other n p = ne_eqb n g (λ x. not_both (eq-eqb g n (sym x)) (apart t g n e p))

  -- no guard, or the same ones
  pub marked_none : Marked t [] ms ms
  unfolding is_in
  marked_none = record { marks = marks; same = refl; guards = λ b e. sym (or-false (has_mark ms b)) }

  -- one guard
  pub marked_guard_lem : (g : ℕ) → GuardNode t g → {vs : List ℕ} → WithMark ms g vs → Marked t (g ∷ []) ms vs
  unfolding is_in
  marked_guard_lem g e m =
      record {
        marks = marks_guard g e.1 inside m;
        same = mark_length m;
        guards = λ b h. set_marked m inside b ∙ or_comm (eqb b g) (has_mark ms b) ∙ ap (λ (x : Bool). has_mark ms b || x) (sym (or-false (eqb b g)));
      }
    where
      inside : g < 32 * length ms
      inside = omega (arith, e.0, marks.room)

  -- a tick's guards, and then those of what it joins
  pub marked_join : (us gs mid out : List ℕ) → Marked t us ms mid → Marked t gs mid out → Marked t (us ++ gs) ms out
  marked_join us gs mid out k m =
      record {
        marks = m.marks;
        same = m.same ∙ k.same;
        guards = λ b e.
            m.guards b e ∙ ap (λ (x : Bool). x || is_in b gs) (k.guards b e) ∙ or_assoc (has_mark ms b) (is_in b us) (is_in b gs) ∙ ap (λ (x : Bool). has_mark ms b || x) (sym (is_in_append b us gs));
      }

  -- a node whose only tick has been walked, and one whose only tick has just been walked
  pub marked_before : (n : ℕ) → is_process (kind_at t n) ≡ true → has_mark ms n ≡ true → Marked t (chosen_in Ticks (node_process t n) 0).guards ms ms
  marked_before n p w = record { marks = marks; same = refl; guards = λ b e. by (has_mark ms b) (is_in b (chosen_in Ticks (node_process t n) 0).guards) (marks.walked n p w b e) }
    where
      by : (x y : Bool) → (y ≡ true → x ≡ true) → x ≡ (x || y)
      by true y f = refl
      by false true f = f refl
      by false false f = refl

  pub marked_after : (n : ℕ) → is_process (kind_at t n) ≡ true → n < t.sizes.nodes → {mid : List ℕ} → Marked t (chosen_in Ticks (node_process t n) 0).guards ms mid
      → {vs : List ℕ} → WithMark mid n vs → Marked t (chosen_in Ticks (node_process t n) 0).guards ms vs
  marked_after n p h {mid} m {vs} w =
      record {
        marks = record { room = omega (arith, m.marks.room, mark_length w); walked = walked };
        same = mark_length w ∙ m.same;
        guards = λ b e. set_marked w inside b ∙ ap (λ (x : Bool). x || has_mark mid b) (apart t b n e p) ∙ m.guards b e;
      }
    where
      gs : List ℕ
      gs = (chosen_in Ticks (node_process t n) 0).guards

      inside : n < 32 * length mid
      inside = omega (arith, m.marks.room)

      kept : (b : ℕ) → has_mark mid b ≡ true → has_mark vs b ≡ true
      kept b e = set_marked w inside b ∙ or_right (eqb b n) (has_mark mid b) e

      walked : (k : ℕ) → is_process (kind_at t k) ≡ true → has_mark vs k ≡ true
          → (b : ℕ) → is_guard (kind_at t b) ≡ true → is_in b (chosen_in Ticks (node_process t k) 0).guards ≡ true → has_mark vs b ≡ true
      walked k q v b e i =
          ⊎_elim
          (λ (x : eqb k n ≡ true).
          let z : k ≡ n = eqb-true k n x in
          let j : is_in b gs ≡ true = ap (λ (y : ℕ). is_in b (chosen_in Ticks (node_process t y) 0).guards) (sym z) ∙ i in
          kept b (m.guards b e ∙ or_right (has_mark ms b) (is_in b gs) j))
          (λ (x : has_mark mid k ≡ true). kept b (m.marks.walked k q x b e i))
          (or_either (eqb k n) (has_mark mid k) (sym (set_marked w inside k) ∙ v))

pub marked_same : {t : Table} {gs hs ms out : List ℕ} → gs ≡ hs → Marked t hs ms out → Marked t gs ms out
marked_same {t} {gs} {hs} {ms} {out} e m = subst (λ (l : List ℕ). Marked t l ms out) (sym e) m

-- how far a walk to what is collected besides can go
abbrev pub side_ahead : Table → Side → ℕ
side_ahead t Alone = 0
side_ahead t (Under b) = 0
side_ahead t (After h) = ahead t h

-- zeros mark nothing
pub zeros_none : (n i : ℕ) → has_mark (replicate n 0) i ≡ false
zeros_none n i = rw (get_d_row {A = ℕ} n (i / 32) 0) (has_nothing (i % 32))

pub marks_zeros : (t : Table) (n : ℕ) → t.sizes.nodes ≤ 32 * n → WalkMarks t (replicate n 0)
marks_zeros t n h = record { room = rw (length-replicate {A = ℕ} n 0) h; walked = λ k p w. absurd (not_both w (zeros_none n k)) }
