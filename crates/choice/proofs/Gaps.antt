-- The gap in which a walk writes: the room that each step leaves, and the words that it adds.
-- Assumes nothing.
use Prim.Native.Nat.{ℕ}
use mathlib.Core.Path.{◌≡◌, ◌∙◌}
use mathlib.Core.List.{List, ◌++◌, append_assoc}
use native.Mathlib.Omega.{arith}
use lib.ListN.{length}
use Rattle.table.specs.Tables.{Table}
use Rattle.term.specs.Terms.{words}
use Rattle.choice.specs.declared.Gap.{Gap}
use Rattle.choice.specs.declared.Goal.{Goal}
use Rattle.choice.specs.declared.Side.{Side}
use Rattle.choice.specs.declared.Kept.{Kept}
use Rattle.choice.specs.Turns.{chosen_at, kept_before, kept_after, Onward}
use Rattle.choice.specs.Writing.{Room, Written, Narrowed}
use Rattle.choice.proofs.Turning.{around_size}

-- the words that each step adds
pub written_same : {ws : List ℕ} {front back : ℕ} {middle other : List ℕ} {r : Gap} {out : List ℕ} → middle ≡ other → Written ws front back other r out → Written ws front back middle r out
written_same e w = rw e w

-- what is written into the gap that is left is written between them
written_around : {ws : List ℕ} {gap : Gap} {pre post : List ℕ} {g : Gap} {vs : List ℕ} {mid : List ℕ} {r : Gap} {out : List ℕ}
    → Narrowed ws gap pre post g vs → Written vs g.front g.back mid r out → Written ws gap.front gap.back (pre ++ (mid ++ post)) r out
written_around k w =
    record { same = w.same ∙ k.same; order = w.order; end = omega (arith, w.end, k.same); words = w.words ∙ rw (k.before, k.after) (simp append_assoc) }

-- a walk from goal f, with gap a in us, has come to goal g, with gap b in ws: what is written there is written as a whole
pub record Onto (t : Table) (f : Goal ℕ) (a : Gap) (us : List ℕ) (g : Goal ℕ) (b : Gap) (ws : List ℕ) : Type 0 where
  pub room : Room t g b ws
  pub same : length ws ≡ length us
  pub rest : (r : Gap) (out : List ℕ) → Written ws b.front b.back (words (chosen_at t g).leaving) r out → Written us a.front a.back (words (chosen_at t f).leaving) r out

pub onto_on : (t : Table) (f : Goal ℕ) (a : Gap) (us : List ℕ) (g : Goal ℕ) (b : Gap) (ws : List ℕ) → Onto t f a us g b ws
    → (h : Goal ℕ) (side : Side) (kept : Kept) → Onward t g h side kept → (c : Gap) (vs : List ℕ) → Narrowed ws b (kept_before kept) (kept_after kept) c vs → Onto t f a us h c vs
onto_on t f a us g b ws w h side kept s c vs k =
    record {
      room = record { reached = s.nearer.reached; fits = omega (arith, w.room.fits, around_size s.around, k.front, k.back); end = omega (arith, w.room.end, k.back, k.same) };
      same = k.same ∙ w.same;
      rest = λ r out x. w.rest r out (written_same s.around.words (written_around k x));
    }
