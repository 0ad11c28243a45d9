-- A whole residual in the words that hold it: where it stands, its choices, and what it becomes.
-- Assumes nothing.
use Prim.Native.Nat.{ℕ, ◌+◌, ◌-◌, ◌<◌, ◌≤◌}
use mathlib.Core.Path.{◌≡◌, refl, sym, ap, subst, ◌∙◌}
use mathlib.Core.List.{List, [], ◌++◌, append-nil}
use native.Mathlib.Nat.{zero-add}
use native.Mathlib.Omega.{arith}
use lib.ListN.{length, drop, length-drop}
use Rattle.std.specs.Prelude.{Option, Some, None}
use Rattle.table.specs.Tables.{Table, first_root}
use Rattle.term.specs.declared.Mode.TheVariants.{Any}
use Rattle.term.specs.Terms.{Term, words}
use Rattle.term.specs.Accepted.{Over}
use Rattle.term.specs.Processes.{Derivation, process, derivation_at}
use Rattle.term.proofs.Counting.{length_derivations}
use Rattle.term.proofs.Words.{whole_read}
use Rattle.choice.specs.Picks.{total_of}
use Rattle.accept.specs.Prepared.{Prepared}
use Rattle.choice.specs.Marking.{WalkMarks}
use Rattle.choice.proofs.Chosen.{chosen_any}
use Rattle.choice.proofs.Collecting.{marked_none}
use Rattle.residual.specs.declared.Measured.{Measured}
use Rattle.residual.specs.Measures.{Told, ToldIf, Found}
use Rattle.residual.specs.Steps.{whole_of, going, Stands}
use Rattle.residual.specs.Wholes.{Whole, residual_term, Taking, Offered}
use Rattle.residual.proofs.Places.{empty, begins}
use Rattle.residual.proofs.Placing.{Spot}
use Rattle.residual.proofs.Reporting.{Toward}
use Rattle.residual.proofs.Stepping.{told_true}

-- the residual is the words from a place on
module _ (t : Table) (s : List ℕ) (ready : Prepared t s) (at : ℕ) (ws : List ℕ) (all : Whole t (drop at ws)) where
  abbrev T : Term
  T = residual_term (drop at ws)

  read : Over t T × (words T ≡ drop at ws)
  read = whole_read t (omega (arith, ready.checked.sound.shaped.limits.nodes)) (drop at ws) all.term

  pub term_size : length (words (residual_term (drop at ws))) ≡ length ws - at
  term_size = ap length read.1 ∙ length-drop at ws

  there : drop at ws ≡ words T ++ []
  there = sym (append-nil (words T) ∙ read.1)

  -- what is found of it
  found_there : {roots : ℕ} → first_root t ≡ roots → (r : Option Measured) → Found roots s ws at r → ToldIf t (residual_term (drop at ws)) at r
  found_there e r f = f.right t e ready.counted T [] read.0 there

  pub offered_none : {roots : ℕ} → first_root t ≡ roots → Found roots s ws at None → Offered t (residual_term (drop at ws)) None
  offered_none e f = found_there e None f

  pub offered_some : {roots : ℕ} → first_root t ≡ roots → (m : Measured) → Found roots s ws at (Some m) → (n : ℕ) → n ≡ total_of Any m.counts
      → Offered t (residual_term (drop at ws)) (Some n)
  offered_some e m f n d =
      let w : Told t T at m = found_there e (Some m) f in
      record { few = w.few; count = d ∙ ap (total_of Any) (told_true t T at m w) ∙ sym (length_derivations (process t T)) }

  module _ (c : ℕ) (k : Taking t (residual_term (drop at ws)) c) where
    stands_whole : Stands t (residual_term (drop at ws)) (whole_of at c) ws
    stands_whole =
        record {
          choosable = record { over = read.0; few = k.few; choice = subst (λ (n : ℕ). c < n) (length_derivations (process t T)) k.choice };
          begins = begins ws at (words T) [] there;
        }

    -- a walk begins at it
    chosen : derivation_at (process t (residual_term (drop at ws))) c ≡ going t (residual_term (drop at ws)) (whole_of at c)
    chosen = sym (chosen_any (process t T) c)

    pub toward_whole : (ms : List ℕ) → WalkMarks t ms → Toward t ws (derivation_at (process t (residual_term (drop at ws))) c) ms (whole_of at c) 0 ms
    toward_whole ms marks =
        record {
          term = T;
          stands = stands_whole;
          label = ap (λ (x : Derivation). x.label) chosen;
          size = ap (λ (x : Derivation). length (words x.leaving)) chosen ∙ sym (zero-add _);
          bound = omega (arith, term_size);
          passed = [];
          guards = ap (λ (x : Derivation). x.guards) chosen;
          marked = marked_none t ms marks;
        }

    pub spot_whole : at ≤ length ws → length (words (derivation_at (process t (residual_term (drop at ws))) c).leaving) ≤ length ws
        → Spot t (words (derivation_at (process t (residual_term (drop at ws))) c).leaving) (length ws) 0 (whole_of at c) ws
    spot_whole h fits =
        let e = ap (λ (x : Derivation). words x.leaving) chosen in
        let f = ap length e in
        record {
          long = refl;
          term = T;
          stands = stands_whole;
          order = omega arith;
          fits = omega (arith, term_size);
          words = rw (empty (drop (at + length (words T)) ws) (length-drop (at + length (words T)) ws ∙ omega (arith, term_size))) (append-nil _ ∙ sym e);
        }
