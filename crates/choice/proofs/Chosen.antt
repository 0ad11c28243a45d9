-- The derivation that a choice is, of each form of process, from those of its parts.
-- Assumes nothing.
use Prim.Native.Nat.{ℕ, zero, suc, ◌*◌, ◌-◌, ◌/◌, ◌%◌, ◌<◌, ◌≤◌}
use mathlib.Core.Logic.{⊎_elim}
use mathlib.Core.Option.{Option, some}
use mathlib.Core.Path.{◌≡◌, refl, sym, ap, ◌∙◌}
use mathlib.Core.List.{List, []}
use native.Mathlib.Nat.{not-suc-le-zero, mul-zero, mod-lt, div-lt_iff_lt-mul, eq-zero-or-pos}
use native.Mathlib.Omega.{arith}
use lib.ListN.{length, get_or}
use Rattle.basis.proofs.Lists.{nth_in}
use Rattle.term.specs.declared.Label.TheVariants.{Ticking, Acting}
use Rattle.term.specs.declared.Mode.{Mode}
use Rattle.term.specs.declared.Mode.TheVariants.{Any, Actions, Ticks}
use Rattle.term.specs.Terms.{Term, Tick, Idle}
use Rattle.term.specs.Processes.{Process, idle, tick, act, choice, guarded, seq, par}
use Rattle.term.specs.Processes.{Derivation, derivation, derivations, keep, under, before, beside_right, beside_left, join}
use Rattle.term.specs.Choices.{tick_count, action_count, count_in, actions_of, wanted, derivations_in, mapped, split, pairs, select}
use Rattle.term.proofs.Lists.{Places, split_left, split_right}
use Rattle.term.proofs.Counting.{length_choices, select_choices, choices_any, count_choice, count_guarded, count_seq, count_par}
use Rattle.choice.specs.Chosen.{chosen_in}

some_same : (d e : Derivation) → ◌≡◌ {A = Option Derivation} (some d) (some e) → d ≡ e
some_same d e h = cc

module _ (m : Mode) (P : Process) (c : ℕ) where
  -- a choice below the count is there
  pub chosen_there : c < count_in m P → select m P c ≡ some (chosen_in m P c)
  unfolding chosen_in
  chosen_there h = rw (select_choices P m) (nth_in (derivations_in m P) c (derivation Ticking [] Idle) (rw (length_choices P m) h))

  chosen_is : (d : Derivation) → c < count_in m P → select m P c ≡ some d → chosen_in m P c ≡ d
  chosen_is d h e = some_same (chosen_in m P c) d (sym (chosen_there h) ∙ e)

  -- processes with the same derivations have the same choices
  pub chosen_same : (R : Process) → derivations P ≡ derivations R → chosen_in m P c ≡ chosen_in m R c
  unfolding chosen_in derivations_in
  chosen_same R e = ap (λ (ds : List Derivation). get_or (keep (wanted m) ds) c (derivation Ticking [] Idle)) e

  pub count_same : (R : Process) → derivations P ≡ derivations R → count_in m P ≡ count_in m R
  unfolding derivations_in
  count_same R e = sym (length_choices P m) ∙ ap (λ (ds : List Derivation). length (keep (wanted m) ds)) e ∙ length_choices R m

-- of all derivations, choice c is derivation c
pub chosen_any : (P : Process) (c : ℕ) → chosen_in Any P c ≡ get_or (derivations P) c (derivation Ticking [] Idle)
unfolding chosen_in
chosen_any P c = ap (λ (ds : List Derivation). get_or ds c (derivation Ticking [] Idle)) (choices_any P)

-- the ends
pub no_idle : (m : Mode) (c : ℕ) → c < count_in m idle → ⊥
unfolding action_count tick_count
no_idle Any c h = not-suc-le-zero h
no_idle Actions c h = not-suc-le-zero h
no_idle Ticks c h = not-suc-le-zero h

pub chosen_tick : (m : Mode) (c : ℕ) → c < count_in m tick → chosen_in m tick c ≡ derivation Ticking [] Idle
unfolding action_count tick_count chosen_in derivations_in derivations keep
chosen_tick Any zero h = refl
chosen_tick Any (suc c) h = absurd (omega arith)
chosen_tick Actions c h = absurd (not-suc-le-zero h)
chosen_tick Ticks zero h = refl
chosen_tick Ticks (suc c) h = absurd (omega arith)

pub chosen_act : (m : Mode) (n c : ℕ) → c < count_in m (act n) → chosen_in m (act n) c ≡ derivation (Acting n) [] Tick
unfolding action_count tick_count chosen_in derivations_in derivations keep
chosen_act Any n zero h = refl
chosen_act Any n (suc c) h = absurd (omega arith)
chosen_act Actions n zero h = refl
chosen_act Actions n (suc c) h = absurd (omega arith)
chosen_act Ticks n c h = absurd (not-suc-le-zero h)

pub chosen_guarded : (m : Mode) (g : ℕ) (P : Process) (c : ℕ) → c < count_in m (guarded g P) → chosen_in m (guarded g P) c ≡ under g (chosen_in m P c)
unfolding select
chosen_guarded m g P c h =
    chosen_is m (guarded g P) c (under g (chosen_in m P c)) h (ap (mapped (under g)) (chosen_there m P c (rw (← (count_guarded m g P)) at h)))

module _ (m : Mode) (P Q : Process) (c : ℕ) where
  pub chosen_choice_left : c < count_in m P → chosen_in m (choice P Q) c ≡ chosen_in m P c
  unfolding select
  chosen_choice_left h =
      let e = count_choice m P Q in
      chosen_is m (choice P Q) c (chosen_in m P c) (omega arith) (split_left (count_in m P) (select m P) (select m Q) c h ∙ chosen_there m P c h)

  pub chosen_choice_right : count_in m P ≤ c → c < count_in m (choice P Q) → chosen_in m (choice P Q) c ≡ chosen_in m Q (c - count_in m P)
  unfolding select
  chosen_choice_right h l =
      let e = count_choice m P Q in
      chosen_is m (choice P Q) c (chosen_in m Q (c - count_in m P)) l
      (split_right (count_in m P) (select m P) (select m Q) c h ∙ chosen_there m Q (c - count_in m P) (omega arith))

-- where a tick joins: place c of the pairs
pub pair_place : (k n c : ℕ) → c < k * n → (c / n < k) × (c % n < n)
pair_place k n c h = ((div-lt_iff_lt-mul some_n).1 h, mod-lt c some_n)
  where
    none : n ≡ 0 → ⊥
    none z = not-suc-le-zero (rw (z, mul-zero) at h)

    some_n : 0 < n
    some_n = ⊎_elim (λ (z : n ≡ 0). absurd (none z)) (λ (p : 0 < n). p) (eq-zero-or-pos n)

pub actions_most : (m : Mode) (P : Process) → actions_of m P ≤ action_count P
actions_most Any P = omega arith
actions_most Actions P = omega arith
actions_most Ticks P = omega arith

module _ (m : Mode) (P Q : Process) where
  abbrev joined : Places
  joined = pairs (count_in m Q) (select Ticks P) (select m Q)

  joined_there : (c : ℕ) → c < tick_count P * count_in m Q → joined c ≡ some (join (chosen_in Ticks P (c / count_in m Q)) (chosen_in m Q (c % count_in m Q)))
  unfolding pairs
  joined_there c h =
      let w = pair_place (tick_count P) (count_in m Q) c h in
      rw (chosen_there Ticks P (c / count_in m Q) w.0, chosen_there m Q (c % count_in m Q) w.1)

-- an action of a part, changed
action_there : (m : Mode) (P : Process) (f : Derivation → Derivation) (c : ℕ) → c < actions_of m P → mapped f (select Actions P c) ≡ some (f (chosen_in Actions P c))
action_there m P f c h = let a = actions_most m P in rw (chosen_there Actions P c (omega arith))

module _ (m : Mode) (P Q : Process) (q : Term) (c : ℕ) (l : c < count_in m (seq P Q q)) where
  pub chosen_seq_action : c < actions_of m P → chosen_in m (seq P Q q) c ≡ before q (chosen_in Actions P c)
  unfolding select
  chosen_seq_action h =
      chosen_is m (seq P Q q) c _ l
      (split_left (actions_of m P) (λ i. mapped (before q) (select Actions P i)) (joined m P Q) c h ∙ action_there m P (before q) c h)

  pub chosen_seq_join : actions_of m P ≤ c → (c - actions_of m P < tick_count P * count_in m Q)
      × (chosen_in m (seq P Q q) c ≡ join (chosen_in Ticks P ((c - actions_of m P) / count_in m Q)) (chosen_in m Q ((c - actions_of m P) % count_in m Q)))
  unfolding select
  chosen_seq_join h =
      let e = count_seq m P Q q in
      let k : c - actions_of m P < tick_count P * count_in m Q = omega arith in (
        k,
        chosen_is m (seq P Q q) c _ l
            (split_right (actions_of m P) (λ i. mapped (before q) (select Actions P i)) (joined m P Q) c h ∙ joined_there m P Q (c - actions_of m P) k),
      )

module _ (m : Mode) (P : Process) (p : Term) (Q : Process) (q : Term) (c : ℕ) (l : c < count_in m (par P p Q q)) where
  abbrev first : Places
  first = λ i. mapped (beside_right q) (select Actions P i)

  abbrev second : Places
  second = λ i. mapped (beside_left p) (select Actions Q i)

  abbrev from_third : Places
  from_third = split (tick_count P * count_in m Q) (joined m P Q) (joined m Q P)

  abbrev from_second : Places
  from_second = split (actions_of m Q) second from_third

  pub chosen_par_left : c < actions_of m P → chosen_in m (par P p Q q) c ≡ beside_right q (chosen_in Actions P c)
  unfolding select
  chosen_par_left h = chosen_is m (par P p Q q) c _ l (split_left (actions_of m P) first from_second c h ∙ action_there m P (beside_right q) c h)

  module _ (h : actions_of m P ≤ c) where
    abbrev c1 : ℕ
    c1 = c - actions_of m P

    pub chosen_par_right : c1 < actions_of m Q → chosen_in m (par P p Q q) c ≡ beside_left p (chosen_in Actions Q c1)
    unfolding select
    chosen_par_right g =
        chosen_is m (par P p Q q) c _ l
        (split_right (actions_of m P) first from_second c h ∙ split_left (actions_of m Q) second from_third c1 g ∙ action_there m Q (beside_left p) c1 g)

    module _ (g : actions_of m Q ≤ c1) where
      abbrev c2 : ℕ
      c2 = c1 - actions_of m Q

      pub chosen_par_third : c2 < tick_count P * count_in m Q → chosen_in m (par P p Q q) c ≡ join (chosen_in Ticks P (c2 / count_in m Q)) (chosen_in m Q (c2 % count_in m Q))
      unfolding select
      chosen_par_third k =
          chosen_is m (par P p Q q) c _ l
          (split_right (actions_of m P) first from_second c h ∙ split_right (actions_of m Q) second from_third c1 g ∙
          split_left (tick_count P * count_in m Q) (joined m P Q) (joined m Q P) c2 k ∙ joined_there m P Q c2 k)

      pub chosen_par_fourth : tick_count P * count_in m Q ≤ c2 → (c2 - tick_count P * count_in m Q < tick_count Q * count_in m P)
          × (chosen_in m (par P p Q q) c
          ≡ join (chosen_in Ticks Q ((c2 - tick_count P * count_in m Q) / count_in m P)) (chosen_in m P ((c2 - tick_count P * count_in m Q) % count_in m P)))
      unfolding select
      chosen_par_fourth k =
          let e = count_par m P p Q q in
          let j : c2 - tick_count P * count_in m Q < tick_count Q * count_in m P = omega arith in (
            j,
            chosen_is m (par P p Q q) c _ l
                (split_right (actions_of m P) first from_second c h ∙ split_right (actions_of m Q) second from_third c1 g ∙
                split_right (tick_count P * count_in m Q) (joined m P Q) (joined m Q P) c2 k ∙ joined_there m Q P (c2 - tick_count P * count_in m Q) j),
          )
