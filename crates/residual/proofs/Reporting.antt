-- A walk that marks the guards of a residual's choice, and tells what it does and how many words it leaves.
-- Assumes nothing.
use Prim.Native.Nat.{ℕ, ◌+◌, ◌-◌, ◌≤◌}
use mathlib.Core.Path.{◌≡◌, sym, ap, ◌∙◌}
use mathlib.Core.List.{List, ◌++◌, append_assoc, append-nil}
use native.Mathlib.Omega.{arith}
use lib.ListN.{length}
use Rattle.table.specs.Tables.{Table}
use Rattle.term.specs.declared.Label.TheVariants.{Ticking}
use Rattle.term.specs.Terms.{Term, words, idle_word}
use Rattle.term.specs.Processes.{Derivation}
use Rattle.choice.specs.declared.Effect.{Effect}
use Rattle.choice.specs.Turns.{Around, Ended}
use Rattle.choice.specs.Marking.{WalkMarks, Marked}
use Rattle.choice.specs.Outcomes.{grown_by, Walked}
use Rattle.choice.proofs.Turning.{around_size}
use Rattle.choice.proofs.Collecting.{marked_none, marked_join, marked_same}
use Rattle.choice.specs.declared.Goal.{Goal}
use Rattle.residual.specs.declared.Cursor.{Cursor}
use Rattle.residual.specs.Steps.{going, Part, Acting, Joining, Stands}
use Rattle.residual.proofs.Standing.{part_size, part_stands}

-- the walk to derivation d has come to a target, and its marks from ms to vs: d does what that does, leaves so many
-- words more, and the guards passed are marked
pub record Toward (t : Table) (ws : List ℕ) (d : Derivation) (ms : List ℕ) (g : Goal Cursor) (more : ℕ) (vs : List ℕ) : Type 0 where
  pub term : Term
  pub stands : Stands t term g ws
  pub label : d.label ≡ (going t term g).label
  pub size : length (words d.leaving) ≡ more + length (words (going t term g).leaving)
  pub bound : more + length (words term) ≤ length ws
  pub passed : List ℕ
  pub guards : d.guards ≡ passed ++ (going t term g).guards
  pub marked : Marked t passed ms vs

module _ (t : Table) (ws : List ℕ) (d : Derivation) (ms : List ℕ) (marks : WalkMarks t ms) (g : Goal Cursor) (more : ℕ) (vs : List ℕ) (w : Toward t ws d ms g more vs) where
  toward_on : (h : Goal Cursor) (X : Term) → Part t w.term g X h → (us front back : List ℕ) → Around (going t w.term g) (going t X h) us front back
      → length front + length back + length (words X) ≤ length (words w.term) → (k : ℕ) → k ≡ more + (length front + length back)
      → (out : List ℕ) → Marked t us vs out → Toward t ws d ms h k out
  toward_on h X p us front back a l k e out m =
      let x = around_size a in
      record {
        term = X;
        stands = part_stands t w.term g ws w.stands p;
        label = w.label ∙ a.label;
        size = omega (arith, w.size);
        bound = omega (arith, w.bound);
        passed = w.passed ++ us;
        guards = w.guards ∙ ap (λ (gs : List ℕ). w.passed ++ gs) a.guards ∙ sym (append_assoc w.passed us (going t X h).guards);
        marked = marked_join t ms marks w.passed us vs out w.marked m;
      }

  pub toward_acts : (h : Goal Cursor) (after : ℕ) → Acting t w.term g h after → Toward t ws d ms h (more + (h.from.at - g.from.at + after)) vs
  toward_acts h after s =
      let z = part_size t w.term g ws w.stands s.part in
      toward_on h s.term s.part _ _ _ s.around (omega arith) _ (omega (arith, s.size, s.part.place)) vs (marked_none t vs w.marked.marks)

  pub toward_joins : (h : Goal Cursor) (n after : ℕ) (k : Goal Cursor) (s : Joining t w.term g h n after k)
      → (out : List ℕ) → Marked t (going t s.ticking k).guards vs out → Toward t ws d ms h more out
  toward_joins h n after k s out m =
      let z = part_size t w.term g ws w.stands s.part in
      toward_on h s.term s.part _ _ _ s.around (omega arith) more (omega arith) out m

  module _ (limit : ℕ) where
    pub toward_tick : Ended (going t w.term g) Ticking idle_word → 1 + more ≤ limit → Walked t d limit ms (record { label = Ticking; size = 1 + more }) vs
    toward_tick e l =
        let s = ap length e.words in
        record {
          marked = marked_same (w.guards ∙ ap (λ (gs : List ℕ). w.passed ++ gs) e.guards ∙ append-nil w.passed) w.marked;
          tells = record { label = sym (w.label ∙ e.label); size = omega (arith, w.size); bound = l };
        }

    pub toward_node : (e : Derivation) → going t w.term g ≡ e → (least : ℕ) (o : Effect) (out : List ℕ) → Walked t e least vs o out
        → (r : Effect) → r ≡ grown_by o more → least + more ≤ limit → Walked t d limit ms r out
    toward_node e f least o out k r u l =
        let s = w.size ∙ ap (λ (x : Derivation). more + length (words x.leaving)) f in
        let n = k.tells in
        rw u record {
          marked = marked_same (w.guards ∙ ap (λ (x : Derivation). w.passed ++ x.guards) f) (marked_join t ms marks w.passed e.guards vs out w.marked k.marked);
          tells = record { label = n.label ∙ sym (w.label ∙ ap (λ (x : Derivation). x.label) f); size = omega (arith, n.size); bound = omega (arith, n.bound) };
        }
