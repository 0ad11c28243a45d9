-- How many derivations a process has, and derivation c found by counting.
use Rattle.std.specs.Prelude.{ℕ, ◌+◌, ◌*◌, ◌-◌, ◌/◌, ◌%◌, Bool, true, false, List, ltb}
use Rattle.std.proofs.Math.Option.{Option, none, some}
use Rattle.std.proofs.Math.ListN.{get_elem?}
use Rattle.term.specs.declared.Mode.{Mode}
use Rattle.term.specs.declared.Mode.TheVariants.{Any, Actions, Ticks}
use Rattle.term.specs.Processes.{Process, idle, tick, act, choice, guarded, call, seq, par}
use Rattle.term.specs.Processes.{Derivation, derivations, keep, is_tick, is_action, under, before, beside_right, beside_left, join}

unfoldable pub tick_count : Process → ℕ
tick_count idle = 0
tick_count tick = 1
tick_count (act n) = 0
tick_count (choice P Q) = tick_count P + tick_count Q
tick_count (guarded g P) = tick_count P
tick_count (call d P) = tick_count P
tick_count (seq P Q q) = tick_count P * tick_count Q
tick_count (par P p Q q) = tick_count P * tick_count Q + tick_count Q * tick_count P

unfoldable pub action_count : Process → ℕ
action_count idle = 0
action_count tick = 0
action_count (act n) = 1
action_count (choice P Q) = action_count P + action_count Q
action_count (guarded g P) = action_count P
action_count (call d P) = action_count P
action_count (seq P Q q) = action_count P + tick_count P * action_count Q
action_count (par P p Q q) = action_count P + (action_count Q + (tick_count P * action_count Q + tick_count Q * action_count P))

abbrev pub count_in : Mode → Process → ℕ
count_in Any P = action_count P + tick_count P
count_in Actions P = action_count P
count_in Ticks P = tick_count P

-- the actions among the derivations of a mode
abbrev pub actions_of : Mode → Process → ℕ
actions_of Any P = action_count P
actions_of Actions P = action_count P
actions_of Ticks P = 0

abbrev pub wanted : Mode → Derivation → Bool
wanted Any d = true
wanted Actions d = is_action d
wanted Ticks d = is_tick d

-- the derivations of a mode, in order
unfoldable pub derivations_in : Mode → Process → List Derivation
derivations_in m P = keep (wanted m) (derivations P)

abbrev pub mapped : (Derivation → Derivation) → Option Derivation → Option Derivation
mapped f none = none
mapped f (some d) = some (f d)

abbrev pub joined : Option Derivation → Option Derivation → Option Derivation
joined none d = none
joined (some t) none = none
joined (some t) (some d) = some (join t d)

-- the first n places are those of f, the others those of g, counted from 0 again
unfoldable pub split : ℕ → (ℕ → Option Derivation) → (ℕ → Option Derivation) → ℕ → Option Derivation
split n f g c = elim (ltb c n) [ true ↦ f c | false ↦ g (c - n) ]

-- for each place of f the n places of g
unfoldable pub pairs : ℕ → (ℕ → Option Derivation) → (ℕ → Option Derivation) → ℕ → Option Derivation
pairs n f g c = joined (f (c / n)) (g (c % n))

-- derivation c of those of a mode, found by counting
unfoldable pub select : Mode → Process → ℕ → Option Derivation
select m idle c = none
select m tick c = get_elem? (derivations_in m tick) c
select m (act n) c = get_elem? (derivations_in m (act n)) c
select m (choice P Q) c = split (count_in m P) (select m P) (select m Q) c
select m (guarded g P) c = mapped (under g) (select m P c)
select m (call d P) c = select m P c
select m (seq P Q q) c =
    split (actions_of m P) (λ i. mapped (before q) (select Actions P i))
    (pairs (count_in m Q) (select Ticks P) (select m Q)) c
select m (par P p Q q) c =
    split (actions_of m P) (λ i. mapped (beside_right q) (select Actions P i))
    (split (actions_of m Q) (λ i. mapped (beside_left p) (select Actions Q i))
    (split (tick_count P * count_in m Q) (pairs (count_in m Q) (select Ticks P) (select m Q))
    (pairs (count_in m P) (select Ticks Q) (select m P)))) c
