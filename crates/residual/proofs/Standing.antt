-- Where the parts of a term stand.
-- Assumes nothing.
use Prim.Native.Nat.{ℕ, ◌+◌, ◌<◌, ◌≤◌}
use mathlib.Core.Path.{◌≡◌, ap, ◌∙◌}
use mathlib.Core.List.{List, ◌++◌, append_assoc}
use native.Mathlib.Omega.{arith}
use lib.ListN.{length, take, drop, length-append}
use lib.Seq.{take-append_seam}
use Rattle.table.specs.Tables.{Table, first_root}
use Rattle.term.specs.Terms.{Term, words}
use Rattle.term.proofs.Words.{words_some}
use Rattle.accept.specs.Prepared.{Prepared}
use Rattle.choice.specs.declared.Goal.{Goal}
use Rattle.residual.specs.declared.Cursor.{Cursor}
use Rattle.residual.specs.Measures.{Pairs}
use Rattle.residual.specs.Steps.{Part, Stands}
use Rattle.residual.proofs.Places.{past, begins, term_within}

-- the words hold counts below 65,536
pub pairs_ready : (t : Table) (s : List ℕ) → Prepared t s → (roots : ℕ) → roots ≡ first_root t → Pairs roots s
pairs_ready t s r roots e =
    record {
      nodes = omega (arith, r.checked.sound.shaped.limits.nodes);
      room = omega (arith, r.counted.words);
      small = λ n h. let f = r.counted.few n (omega arith) in record { actions = omega arith; ticks = omega arith };
    }

module _ (t : Table) (T : Term) (g : Goal Cursor) (ws : List ℕ) (stands : Stands t T g ws) where
  abbrev at : ℕ
  at = g.from.at

  abbrev rest : List ℕ
  rest = drop (at + length (words T)) ws

  pub stands_within : g.from.at + length (words T) ≤ length ws
  stands_within = term_within ws at T rest stands.begins

  pub stands_here : g.from.at < length ws
  stands_here = let w = stands_within in let n = words_some T in omega arith

  -- a part of it
  module _ {X : Term} {h : Goal Cursor} (p : Part t T g X h) where
    pub part_size : length (words T) ≡ length p.before + length (words X) + length p.after
    part_size = ap length p.term ∙ length-append p.before (words X ++ p.after) ∙ (let e = length-append (words X) p.after in omega arith)

    whole_begins : drop at ws ≡ p.before ++ (words X ++ (p.after ++ rest))
    whole_begins = stands.begins ∙ ap (λ (l : List ℕ). l ++ rest) p.term ∙ simp append_assoc

    pub part_before : take (length p.before) (drop g.from.at ws) ≡ p.before
    part_before = ap (take (length p.before)) whole_begins ∙ take-append_seam p.before (words X ++ (p.after ++ rest))

    pub part_begins : drop h.from.at ws ≡ words X ++ (p.after ++ drop (g.from.at + length (words T)) ws)
    part_begins = ap (λ (n : ℕ). drop n ws) p.place ∙ past ws at p.before (words X ++ (p.after ++ rest)) whole_begins

    pub part_stands : Stands t X h ws
    part_stands = record { choosable = p.choosable; begins = begins ws h.from.at (words X) (p.after ++ rest) part_begins }
