-- A walk that writes what a residual's choice leaves: what stands before its front, what is to be left, and what stands after it.
-- Assumes nothing.
use Prim.Native.Nat.{ℕ, ◌+◌, ◌-◌, ◌≤◌, ◌<◌}
use mathlib.Core.Path.{◌≡◌, sym, ap, ap₂, ◌∙◌}
use mathlib.Core.List.{List, ◌++◌, append_assoc, append-nil}
use native.Mathlib.Omega.{arith}
use lib.ListN.{length, take, drop, length-append, length-drop}
use lib.Seq.{paste, length-paste, take-paste, drop-paste, take-append_seam}
use Rattle.std.specs.List.{copy_within}
use Rattle.table.specs.Tables.{Table}
use Rattle.term.specs.Terms.{Term, words}
use Rattle.choice.specs.Turns.{goal_of}
use Rattle.choice.specs.declared.Goal.{Goal}
use Rattle.residual.specs.declared.Cursor.{Cursor}
use Rattle.residual.specs.Steps.{Choosable, going, Acting, Joining, Stands}
use Rattle.residual.proofs.Moving.{paste_before, paste_from, paste_after}
use Rattle.residual.proofs.Places.{past, begins}
use Rattle.residual.proofs.Standing.{stands_within, part_size, part_before, part_begins}

regroup : (a b x q r : List ℕ) → (a ++ b) ++ (x ++ (q ++ r)) ≡ a ++ ((b ++ (x ++ q)) ++ r)
regroup a b x q r = simp append_assoc

-- the walk has come to a target: what that leaves, between the words before the front and those after the term, is to be left, and fits
pub record Spot (t : Table) (goal : List ℕ) (room front : ℕ) (g : Goal Cursor) (ws : List ℕ) : Type 0 where
  pub long : length ws ≡ room
  pub term : Term
  pub stands : Stands t term g ws
  pub order : front ≤ g.from.at
  pub fits : front + length (words (going t term g).leaving) ≤ g.from.at + length (words term)
  pub words : take front ws ++ (words (going t term g).leaving ++ drop (g.from.at + length (words term)) ws) ≡ goal

module _ (t : Table) (goal : List ℕ) (room front : ℕ) (g : Goal Cursor) (ws : List ℕ) (w : Spot t goal room front g ws) where
  abbrev T : Term
  T = w.term

  abbrev at : ℕ
  at = g.from.at

  abbrev rest : List ℕ
  rest = drop (at + length (words T)) ws

  pub spot_within : (front ≤ g.from.at) × (g.from.at + length (words w.term) ≤ length ws)
  spot_within = (w.order, stands_within t T g ws w.stands)

  -- the words up to an acting part have been moved down to the front
  module _ (h : Goal Cursor) (after : ℕ) (s : Acting t w.term g h after) where
    abbrev n : ℕ
    n = h.from.at - at

    pub acts_bound : (front ≤ g.from.at) × (g.from.at + (h.from.at - g.from.at) ≤ length ws) × (g.from.at < h.from.at)
    acts_bound = omega (arith, part_size t T g ws w.stands s.part, spot_within, s.part.place, s.part.some)

    pub spot_acts : (out : List ℕ) → out ≡ copy_within ws g.from.at h.from.at front → Spot t goal room (front + (h.from.at - g.from.at)) h out
    spot_acts out v =
        record {
          long = rw v (length-paste ws front (drop at ws) n (omega (arith, b)) room_there) ∙ w.long;
          term = s.term;
          stands = record { choosable = s.part.choosable; begins = begins out h.from.at (words s.term) tail there };
          order = omega (arith, b);
          fits = omega (arith, w.fits, part_size t T g ws w.stands s.part, s.part.place, x, length-append left s.part.after);
          words =
              ap₂ (λ (f e : List ℕ). f ++ (left ++ e)) before (past out h.from.at (words s.term) tail there) ∙ regroup (take front ws) s.part.before left s.part.after rest ∙
              ap (λ (l : List ℕ). take front ws ++ (l ++ rest)) (sym s.around.words) ∙ w.words;
        }
      where
        b : (front ≤ at) × (at + n ≤ length ws) × (at < h.from.at)
        b = acts_bound

        room_there : n ≤ length (drop at ws)
        room_there = rw length-drop (omega (arith, b))

        size : n ≡ length s.part.before
        size = omega (arith, s.part.place)

        left : List ℕ
        left = words (going t s.term h).leaving

        tail : List ℕ
        tail = s.part.after ++ rest

        x : length (words (going t T g).leaving) ≡ length s.part.before + length (left ++ s.part.after)
        x = ap length s.around.words ∙ length-append s.part.before (left ++ s.part.after)

        there : drop h.from.at out ≡ words s.term ++ tail
        there = rw v (paste_after ws front (drop at ws) n (omega (arith, b)) room_there h.from.at (omega (arith, b))) ∙ part_begins t T g ws w.stands s.part

        before : take (front + n) out ≡ take front ws ++ s.part.before
        before =
            rw v (take-paste ws front (drop at ws) n (omega (arith, b)) room_there) ∙
            ap (λ (l : List ℕ). take front ws ++ l) (ap (λ (k : ℕ). take k (drop at ws)) size ∙ part_before t T g ws w.stands s.part)

  -- the joined part's n words have been moved up to the term's end
  module _ (h : Goal Cursor) (n after : ℕ) (k : Goal Cursor) (s : Joining t w.term g h n after k) where
    abbrev to : ℕ
    to = h.from.at + after

    pub joins_bound : (g.from.at < h.from.at) × (h.from.at + after + n ≤ length ws)
    joins_bound = omega (arith, part_size t T g ws w.stands s.part, spot_within, s.part.place, s.part.some, s.size, s.rest)

    pub spot_joins : (out : List ℕ) → out ≡ copy_within ws h.from.at (h.from.at + n) (h.from.at + after)
        → Spot t goal room front (goal_of (record { at = h.from.at + after }) h.mode h.choice) out
    spot_joins out v =
        record {
          long = rw put (length-paste ws to (drop h.from.at ws) n (omega (arith, b)) room_there) ∙ w.long;
          term = s.term;
          stands = record { choosable = record { over = c.over; few = c.few; choice = c.choice }; begins = begins out to (words s.term) (drop (to + n) out) there };
          order = omega (arith, w.order, b);
          fits = omega (arith, w.fits, ends, ap length leaves);
          words =
              ap₂ (λ (f e : List ℕ). f ++ (words (going t s.term h).leaving ++ e))
              (rw put (paste_before ws to (drop h.from.at ws) n (omega (arith, b)) room_there front (omega (arith, w.order, b))))
              (rw put (paste_after ws to (drop h.from.at ws) n (omega (arith, b)) room_there (to + length (words s.term)) (omega (arith, s.size))) ∙ ap (λ (i : ℕ). drop i ws) ends) ∙
              ap (λ (l : List ℕ). take front ws ++ (l ++ rest)) (sym leaves) ∙ w.words;
        }
      where
        b : (at < h.from.at) × (to + n ≤ length ws)
        b = joins_bound

        room_there : n ≤ length (drop h.from.at ws)
        room_there = rw length-drop (omega (arith, b))

        put : out ≡ paste ws to (drop h.from.at ws) n
        put = let e : h.from.at + n - h.from.at ≡ n = omega arith in v ∙ ap (λ (k : ℕ). paste ws to (drop h.from.at ws) k) e

        c : Choosable t s.term h
        c = s.part.choosable

        ends : to + length (words s.term) ≡ at + length (words T)
        ends = omega (arith, part_size t T g ws w.stands s.part, s.part.place, s.rest)

        leaves : words (going t T g).leaving ≡ words (going t s.term h).leaving
        leaves = s.around.words ∙ append-nil (words (going t s.term h).leaving)

        joined : take n (drop h.from.at ws) ≡ words s.term
        joined = ap₂ (λ (i : ℕ) (l : List ℕ). take i l) s.size (part_begins t T g ws w.stands s.part) ∙ take-append_seam (words s.term) _

        there : drop to out ≡ words s.term ++ drop (to + n) out
        there =
            rw put (paste_from ws to (drop h.from.at ws) n (omega (arith, b)) room_there ∙ ap (λ (l : List ℕ). l ++ drop (to + n) ws) joined ∙
            ap (λ (l : List ℕ). words s.term ++ l) (sym (drop-paste ws to (drop h.from.at ws) n (omega (arith, b)) room_there)))
