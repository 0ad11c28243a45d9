-- The limit of derivations: the test looks at every subterm.
-- Assumes nothing.
use Prim.Native.Nat.{◌<◌, ◌≤◌}
use mathlib.Core.Bool.{Bool, true, false, ◌&&◌}
use mathlib.Core.Logic.{⊎_elim}
use mathlib.Core.Path.{◌≡◌, refl}
use native.Mathlib.Omega.{arith}
use lib.ListN.{length}
use borrow.Author.Tests.{leb-true, leb-false}
use Rattle.basis.proofs.Tests.{either, and_left, and_right, and_fails, not_both}
use Rattle.table.specs.Tables.{Table}
use Rattle.term.specs.Terms.{Term, Seq, Par, Tick, Idle, Node, Subterm, whole, seq_left, seq_right, par_left, par_right}
use Rattle.term.specs.Processes.{derivations, few, process, all_few}

module _ (t : Table) where
  abbrev pub Few : Term → Type 0
  Few P = length (derivations (process t P)) ≤ 65535

  few_whole : (P : Term) → all_few t P ≡ true → Few P
  unfolding all_few process derivations
  few_whole (Seq P Q) e = leb-true _ 65535 (and_left (few (process t (Seq P Q))) (all_few t P && all_few t Q) e)
  few_whole (Par P Q) e = leb-true _ 65535 (and_left (few (process t (Par P Q))) (all_few t P && all_few t Q) e)
  few_whole Tick e = omega arith
  few_whole Idle e = omega arith
  few_whole (Node n) e = leb-true _ 65535 e

  parts : (a b c : Bool) → (a && (b && c)) ≡ true → (b ≡ true) × (c ≡ true)
  parts a b c e = (and_left b c (and_right a (b && c) e), and_right b c (and_right a (b && c) e))

  pub few_part : {P R : Term} → Subterm P R → all_few t R ≡ true → Few P
  unfolding all_few
  few_part {P} whole e = few_whole P e
  few_part (seq_left {Q = Q} {R = R} m) e = few_part m (parts (few (process t (Seq Q R))) (all_few t Q) (all_few t R) e).0
  few_part (seq_right {Q = Q} {R = R} m) e = few_part m (parts (few (process t (Seq Q R))) (all_few t Q) (all_few t R) e).1
  few_part (par_left {Q = Q} {R = R} m) e = few_part m (parts (few (process t (Par Q R))) (all_few t Q) (all_few t R) e).0
  few_part (par_right {Q = Q} {R = R} m) e = few_part m (parts (few (process t (Par Q R))) (all_few t Q) (all_few t R) e).1

  -- one of the three tests fails
  of_three : {C : Type 0} (a b c : Bool) → (a ≡ false → C) → (b ≡ false → C) → (c ≡ false → C) → (a && (b && c)) ≡ false → C
  of_three a b c f g h e = ⊎_elim f (λ (d : (b && c) ≡ false). ⊎_elim g h (and_fails b c d)) (and_fails a (b && c) e)

  -- and finds one that has more
  pub some_many : (R : Term) → all_few t R ≡ false → (P : Term) × Subterm P R × (65535 < length (derivations (process t P)))
  unfolding all_few process
  some_many (Seq Q R) e =
      of_three (few (process t (Seq Q R))) (all_few t Q) (all_few t R) (λ d. (Seq Q R, whole, leb-false _ 65535 d))
      (λ d. let m = some_many Q d in (m.0, seq_left m.1, m.2)) (λ d. let m = some_many R d in (m.0, seq_right m.1, m.2)) e
  some_many (Par Q R) e =
      of_three (few (process t (Par Q R))) (all_few t Q) (all_few t R) (λ d. (Par Q R, whole, leb-false _ 65535 d))
      (λ d. let m = some_many Q d in (m.0, par_left m.1, m.2)) (λ d. let m = some_many R d in (m.0, par_right m.1, m.2)) e
  some_many Tick e = absurd (not_both refl e)
  some_many Idle e = absurd (not_both refl e)
  some_many (Node n) e = (Node n, whole, leb-false _ 65535 e)

  pub few_all : (R : Term) → ((P : Term) → Subterm P R → Few P) → all_few t R ≡ true
  few_all R h =
      ⊎_elim (λ (e : all_few t R ≡ true). e) (λ (e : all_few t R ≡ false). let m = some_many R e in absurd (omega (arith, m.2, h m.0 m.1)))
      (either (all_few t R))
