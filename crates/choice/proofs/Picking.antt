-- The part that is picked for a choice has it.
-- Assumes nothing.
use Prim.Native.Nat.{ℕ, ◌*◌, ◌-◌, ◌/◌, ◌%◌, ◌<◌, ◌≤◌, zero-le}
use mathlib.Core.Logic.{⊎_elim}
use mathlib.Core.Path.{◌≡◌, refl, sym, subst}
use native.Mathlib.Nat.{div-zero, mod-zero}
use native.Mathlib.Omega.{arith}
use Rattle.std.specs.Prelude.{Option, Some, None}
use Rattle.std.specs.Option.{SomeIff, unwrap_or}
use borrow.Author.Tests.{lt-ltb, le-ltb}
use Rattle.basis.proofs.Tests.{lt_or_le}
use Rattle.term.specs.declared.Mode.{Mode}
use Rattle.term.specs.declared.Mode.TheVariants.{Any, Actions, Ticks}
use Rattle.term.specs.Terms.{Term}
use Rattle.term.specs.Processes.{Process, seq, par, Derivation, before, beside_right, beside_left, join}
use Rattle.term.specs.Choices.{tick_count, action_count, count_in, actions_of}
use Rattle.accept.specs.declared.Counts.{Counts}
use Rattle.accept.specs.Counts.{true_counts}
use Rattle.choice.specs.declared.Pick.{Pick}
use Rattle.choice.specs.declared.Pick.TheVariants.{LeftActs, RightActs, LeftTicks, RightTicks}
use Rattle.choice.specs.Chosen.{chosen_in}
use Rattle.choice.specs.Picks.{acting_of, total_of, pick_of}
use Rattle.choice.proofs.Chosen.{pair_place, actions_most, chosen_seq_action, chosen_seq_join, chosen_par_left, chosen_par_right, chosen_par_third, chosen_par_fourth}

-- the tests that lead to each
module _ (m : Mode) (c beside : ℕ) (P Q : Counts) where
  abbrev a : ℕ
  a = acting_of m P

  abbrev n : ℕ
  n = total_of m Q

  abbrev k : ℕ
  k = total_of m P

  pub picks_first : c < a → pick_of m c beside P Q ≡ LeftActs c
  unfolding pick_of
  picks_first h = rw (lt-ltb c a h)

  pub picks_second : a ≤ c → c - a < beside → pick_of m c beside P Q ≡ RightActs (c - a)
  unfolding pick_of
  picks_second h g = rw (le-ltb c a h, lt-ltb (c - a) beside g)

  pub picks_third : a ≤ c → beside ≤ c - a → c - a - beside < P.ticks * n → pick_of m c beside P Q ≡ LeftTicks ((c - a - beside) / n) ((c - a - beside) % n)
  unfolding pick_of
  picks_third h g i = rw (le-ltb c a h, le-ltb (c - a) beside g, lt-ltb (c - a - beside) (P.ticks * n) i)

  pub picks_fourth : a ≤ c → beside ≤ c - a → P.ticks * n ≤ c - a - beside
      → pick_of m c beside P Q ≡ RightTicks ((c - a - beside - P.ticks * n) / k) ((c - a - beside - P.ticks * n) % k)
  unfolding pick_of
  picks_fourth h g i = rw (le-ltb c a h, le-ltb (c - a) beside g, le-ltb (c - a - beside) (P.ticks * n) i)

-- where the number may be 0
pub quotient_or : (r : Option ℕ) (x n : ℕ) → SomeIff r (0 < n) (x / n) → unwrap_or r 0 ≡ x / n
quotient_or None x n h = let z : n ≡ 0 = omega (arith, h) in rw (z, div-zero)
quotient_or (Some y) x n h = h.1

pub remainder_or : (r : Option ℕ) (x n : ℕ) → SomeIff r (0 < n) (x % n) → unwrap_or r x ≡ x % n
remainder_or None x n h = let z : n ≡ 0 = omega (arith, h) in rw (z, mod-zero)
remainder_or (Some y) x n h = h.1

-- the counts of a mode
pub acting_true : (m : Mode) (P : Process) → acting_of m (true_counts P) ≡ actions_of m P
acting_true Any P = refl
acting_true Actions P = refl
acting_true Ticks P = refl

pub total_true : (m : Mode) (P : Process) → total_of m (true_counts P) ≡ count_in m P
total_true Any P = refl
total_true Actions P = refl
total_true Ticks P = refl

-- what a pick says of derivation d of a sequence of P and Q, and of a parallel
abbrev pub SeqPicked : Mode → Process → Process → Term → Derivation → Pick → Type 0
SeqPicked m P Q q d (LeftActs i) = (i < action_count P) × (d ≡ before q (chosen_in Actions P i))
SeqPicked m P Q q d (RightActs i) = ⊥
SeqPicked m P Q q d (LeftTicks j i) = (j < tick_count P) × (i < count_in m Q) × (d ≡ join (chosen_in Ticks P j) (chosen_in m Q i))
SeqPicked m P Q q d (RightTicks j i) = ⊥

abbrev pub ParPicked : Mode → Process → Term → Process → Term → Derivation → Pick → Type 0
ParPicked m P p Q q d (LeftActs i) = (i < action_count P) × (d ≡ beside_right q (chosen_in Actions P i))
ParPicked m P p Q q d (RightActs i) = (i < action_count Q) × (d ≡ beside_left p (chosen_in Actions Q i))
ParPicked m P p Q q d (LeftTicks j i) = (j < tick_count P) × (i < count_in m Q) × (d ≡ join (chosen_in Ticks P j) (chosen_in m Q i))
ParPicked m P p Q q d (RightTicks j i) = (j < tick_count Q) × (i < count_in m P) × (d ≡ join (chosen_in Ticks Q j) (chosen_in m P i))

module _ (m : Mode) (P Q : Process) (q : Term) (c : ℕ) (l : c < count_in m (seq P Q q)) where
  abbrev SeqIs : Pick → Type 0
  SeqIs x = SeqPicked m P Q q (chosen_in m (seq P Q q) c) x

  pub seq_picked : SeqPicked m P Q q (chosen_in m (seq P Q q) c) (pick_of m c 0 (true_counts P) (true_counts Q))
  seq_picked = ⊎_elim left right (lt_or_le c (actions_of m P))
    where
      left : c < actions_of m P → SeqIs (pick_of m c 0 (true_counts P) (true_counts Q))
      left h =
          let w = actions_most m P in
          subst SeqIs (sym (picks_first m c 0 (true_counts P) (true_counts Q) (rw (acting_true m P) h))) (omega arith, chosen_seq_action m P Q q c l h)

      right : actions_of m P ≤ c → SeqIs (pick_of m c 0 (true_counts P) (true_counts Q))
      right h =
          let w = chosen_seq_join m P Q q c l h in
          let v = pair_place (tick_count P) (count_in m Q) (c - actions_of m P) w.0 in
          let z : c - actions_of m P - 0 ≡ c - actions_of m P = omega arith in
          let e = picks_third m c 0 (true_counts P) (true_counts Q) (rw (acting_true m P) h) zero-le (rw (acting_true m P, total_true m Q, z) w.0) in
          subst SeqIs (sym (rw (acting_true m P, total_true m Q, z) at e)) (v.0, v.1, w.1)

module _ (m : Mode) (P : Process) (p : Term) (Q : Process) (q : Term) (c : ℕ) (l : c < count_in m (par P p Q q)) where
  abbrev ParIs : Pick → Type 0
  ParIs x = ParPicked m P p Q q (chosen_in m (par P p Q q) c) x

  abbrev picked : Pick
  picked = pick_of m c (actions_of m Q) (true_counts P) (true_counts Q)

  pub par_picked : ParPicked m P p Q q (chosen_in m (par P p Q q) c) (pick_of m c (actions_of m Q) (true_counts P) (true_counts Q))
  par_picked =
      ⊎_elim left
      (λ h. ⊎_elim (right h) (λ g. ⊎_elim (third h g) (fourth h g) (lt_or_le (c - actions_of m P - actions_of m Q) (tick_count P * count_in m Q))) (lt_or_le (c - actions_of m P) (actions_of m Q)))
      (lt_or_le c (actions_of m P))
    where
      left : c < actions_of m P → ParIs picked
      left h =
          let w = actions_most m P in
          subst ParIs (sym (picks_first m c (actions_of m Q) (true_counts P) (true_counts Q) (rw (acting_true m P) h))) (omega arith, chosen_par_left m P p Q q c l h)

      right : actions_of m P ≤ c → c - actions_of m P < actions_of m Q → ParIs picked
      right h g =
          let w = actions_most m Q in
          let e = picks_second m c (actions_of m Q) (true_counts P) (true_counts Q) (rw (acting_true m P) h) (rw (acting_true m P) g) in
          subst ParIs (sym (rw (acting_true m P) at e)) (omega arith, chosen_par_right m P p Q q c l h g)

      third : actions_of m P ≤ c → actions_of m Q ≤ c - actions_of m P → c - actions_of m P - actions_of m Q < tick_count P * count_in m Q → ParIs picked
      third h g k =
          let v = pair_place (tick_count P) (count_in m Q) (c - actions_of m P - actions_of m Q) k in
          let e = picks_third m c (actions_of m Q) (true_counts P) (true_counts Q) (rw (acting_true m P) h) (rw (acting_true m P) g) (rw (acting_true m P, total_true m Q) k) in
          subst ParIs (sym (rw (acting_true m P, total_true m Q) at e)) (v.0, v.1, chosen_par_third m P p Q q c l h g k)

      fourth : actions_of m P ≤ c → actions_of m Q ≤ c - actions_of m P → tick_count P * count_in m Q ≤ c - actions_of m P - actions_of m Q → ParIs picked
      fourth h g k =
          let w = chosen_par_fourth m P p Q q c l h g k in
          let v = pair_place (tick_count Q) (count_in m P) (c - actions_of m P - actions_of m Q - tick_count P * count_in m Q) w.0 in
          let e = picks_fourth m c (actions_of m Q) (true_counts P) (true_counts Q) (rw (acting_true m P) h) (rw (acting_true m P) g) (rw (acting_true m P, total_true m Q) k) in
          subst ParIs (sym (rw (acting_true m P, total_true m Q, total_true m P) at e)) (v.0, v.1, w.1)
