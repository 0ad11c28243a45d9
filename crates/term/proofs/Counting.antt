-- The counts count the list of derivations; choice c found by counting is entry c of the list; a process can tick if it has a tick.
-- Assumes nothing.
use Prim.Native.Nat.{ℕ, zero, suc, ◌+◌, ◌*◌, ◌<◌, ◌≤◌, zero-le}
use mathlib.Core.Bool.{Bool, true, false, not, ◌&&◌, ◌||◌}
use mathlib.Core.Logic.{◌↔◌}
use mathlib.Core.Path.{◌≡◌, refl, sym, ap, ap₂, ◌∙◌, fun_ext}
use mathlib.Core.List.{List, [], ◌∷◌, ◌++◌, map}
use native.Mathlib.Nat.{zero-add, zero-mul, mul-zero}
use native.Mathlib.Omega.{arith}
use lib.Dec.{ltb, leb}
use lib.ListN.{length, get_elem?, length-append, length-map}
use borrow.Author.Tests.{lt-ltb, ltb-true, ltb-false}
use Rattle.term.specs.declared.Label.{Label}
use Rattle.term.specs.declared.Mode.{Mode}
use Rattle.term.specs.declared.Mode.TheVariants.{Any, Actions, Ticks}
use Rattle.term.specs.Terms.{Term}
use Rattle.term.specs.Processes.{Process, idle, tick, act, choice, guarded, call, seq, par}
use Rattle.term.specs.Processes.{Derivation, derivations, few, keep, is_tick, is_action, label_ticks}
use Rattle.term.specs.Processes.{under, before, beside_right, beside_left, join, joins}
use Rattle.term.specs.Choices.{tick_count, action_count, wanted, derivations_in, count_in, actions_of, mapped, split, pairs, select}
use Rattle.term.specs.Exposure.{can_tick}
use Rattle.term.proofs.Lists.{Test, Change, Places, keep_append, keep_map, keep_all, keep_joins, length_joins}
use Rattle.term.proofs.Lists.{nth_append, nth_map, nth_joins, split_right}

-- The derivations of a mode, of each form of process.

same_label : (m : Mode) (d e : Derivation) → d.label ≡ e.label → wanted m d ≡ wanted m e
same_label Any d e h = refl
same_label Actions d e h = ap (λ (l : Label). not (label_ticks l)) h
same_label Ticks d e h = ap label_ticks h

keep_passed : (f g : Test) → ((d : Derivation) → f d ≡ true → g d ≡ true) → (xs : List Derivation) → keep g (keep f xs) ≡ keep f xs
unfolding keep
keep_passed f g h [] = refl
keep_passed f g h (x ∷ xs) = go (f x) refl (keep_passed f g h xs)
  where
    go : (b : Bool) → f x ≡ b → keep g (keep f xs) ≡ keep f xs → keep g (keep f (x ∷ xs)) ≡ keep f (x ∷ xs)
    go true e r = rw (e, keep) (rw (h x e, keep) (rw r))
    go false e r = rw (e, keep) r

keep_refused : (f g : Test) → ((d : Derivation) → f d ≡ true → g d ≡ false) → (xs : List Derivation) → keep g (keep f xs) ≡ []
unfolding keep
keep_refused f g h [] = refl
keep_refused f g h (x ∷ xs) = go (f x) refl (keep_refused f g h xs)
  where
    go : (b : Bool) → f x ≡ b → keep g (keep f xs) ≡ [] → keep g (keep f (x ∷ xs)) ≡ []
    go true e r = rw (e, keep) (rw (h x e, keep) r)
    go false e r = rw (e, keep) r

-- the actions among the derivations of a mode
actions_in : Mode → Process → List Derivation
actions_in Any P = derivations_in Actions P
actions_in Actions P = derivations_in Actions P
actions_in Ticks P = []

not_not : (b : Bool) → not b ≡ true → b ≡ false
not_not true e = sym e
not_not false e = refl

kept : (m : Mode) (P : Process) → keep (wanted m) (keep is_action (derivations P)) ≡ actions_in m P
unfolding actions_in derivations_in
kept Any P = keep_all (keep is_action (derivations P))
kept Actions P = keep_passed is_action is_action (λ d e. e) (derivations P)
kept Ticks P = keep_refused is_action is_tick (λ d e. not_not (is_tick d) e) (derivations P)

actions_beside : (m : Mode) (g : Change) → ((d : Derivation) → (g d).label ≡ d.label) → (P : Process) →
    keep (wanted m) (map g (keep is_action (derivations P))) ≡ map g (actions_in m P)
actions_beside m g h P = keep_map (wanted m) g (λ d. same_label m (g d) d (h d)) (keep is_action (derivations P)) ∙ ap (map g) (kept m P)

ticks_joined : (m : Mode) (P Q : Process) →
    keep (wanted m) (joins (keep is_tick (derivations P)) (derivations Q)) ≡ joins (derivations_in Ticks P) (derivations_in m Q)
unfolding derivations_in
ticks_joined m P Q = keep_joins (wanted m) (λ t d. same_label m (join t d) d refl) (keep is_tick (derivations P)) (derivations Q)

choices_choice : (m : Mode) (P Q : Process) → derivations_in m (choice P Q) ≡ derivations_in m P ++ derivations_in m Q
unfolding derivations_in derivations
choices_choice m P Q = keep_append (wanted m) (derivations P) (derivations Q)

choices_guarded : (m : Mode) (g : ℕ) (P : Process) → derivations_in m (guarded g P) ≡ map (under g) (derivations_in m P)
unfolding derivations_in derivations
choices_guarded m g P = keep_map (wanted m) (under g) (λ d. same_label m (under g d) d refl) (derivations P)

choices_seq : (m : Mode) (P Q : Process) (q : Term) →
    derivations_in m (seq P Q q) ≡ map (before q) (actions_in m P) ++ joins (derivations_in Ticks P) (derivations_in m Q)
unfolding derivations_in derivations
choices_seq m P Q q =
    keep_append (wanted m) (map (before q) (keep is_action (derivations P))) (joins (keep is_tick (derivations P)) (derivations Q)) ∙
    ap₂ (λ x y. x ++ y) (actions_beside m (before q) (λ d. refl) P) (ticks_joined m P Q)

choices_par : (m : Mode) (P : Process) (p : Term) (Q : Process) (q : Term) →
    derivations_in m (par P p Q q) ≡
    map (beside_right q) (actions_in m P) ++
    (map (beside_left p) (actions_in m Q) ++ (joins (derivations_in Ticks P) (derivations_in m Q) ++ joins (derivations_in Ticks Q) (derivations_in m P)))
unfolding derivations_in derivations
choices_par m P p Q q =
    simp (keep_append, actions_beside m (beside_right q) (λ d. refl) P, actions_beside m (beside_left p) (λ d. refl) Q, ticks_joined m P Q, ticks_joined m Q P)

-- The counts, of each form of process.

length_actions_in : (m : Mode) (P : Process) → length (derivations_in Actions P) ≡ action_count P → length (actions_in m P) ≡ actions_of m P
unfolding actions_in
length_actions_in Any P e = e
length_actions_in Actions P e = e
length_actions_in Ticks P e = refl

pub count_choice : (m : Mode) (P Q : Process) → count_in m P + count_in m Q ≡ count_in m (choice P Q)
unfolding action_count tick_count
count_choice Any P Q = omega arith
count_choice Actions P Q = refl
count_choice Ticks P Q = refl

pub count_guarded : (m : Mode) (g : ℕ) (P : Process) → count_in m P ≡ count_in m (guarded g P)
unfolding action_count tick_count
count_guarded Any g P = refl
count_guarded Actions g P = refl
count_guarded Ticks g P = refl

pub count_seq : (m : Mode) (P Q : Process) (q : Term) → actions_of m P + tick_count P * count_in m Q ≡ count_in m (seq P Q q)
unfolding action_count tick_count
count_seq Any P Q q = omega arith
count_seq Actions P Q q = refl
count_seq Ticks P Q q = omega arith

pub count_par : (m : Mode) (P : Process) (p : Term) (Q : Process) (q : Term) →
    actions_of m P + (actions_of m Q + (tick_count P * count_in m Q + tick_count Q * count_in m P)) ≡ count_in m (par P p Q q)
unfolding action_count tick_count
count_par Any P p Q q = omega arith
count_par Actions P p Q q = refl
count_par Ticks P p Q q = omega arith

length_tick : (m : Mode) → length (derivations_in m tick) ≡ count_in m tick
unfolding derivations_in derivations keep action_count tick_count
length_tick Any = refl
length_tick Actions = refl
length_tick Ticks = refl

length_act : (m : Mode) (n : ℕ) → length (derivations_in m (act n)) ≡ count_in m (act n)
unfolding derivations_in derivations keep action_count tick_count
length_act Any n = refl
length_act Actions n = refl
length_act Ticks n = refl

length_idle : (m : Mode) → length (derivations_in m idle) ≡ count_in m idle
unfolding derivations_in derivations keep action_count tick_count
length_idle Any = refl
length_idle Actions = refl
length_idle Ticks = refl

length_call : (m : Mode) (d : ℕ) (P : Process) → length (derivations_in m P) ≡ count_in m P → length (derivations_in m (call d P)) ≡ count_in m (call d P)
unfolding derivations_in derivations action_count tick_count
length_call Any d P e = e
length_call Actions d P e = e
length_call Ticks d P e = e

pub length_choices : (P : Process) (m : Mode) → length (derivations_in m P) ≡ count_in m P
length_choices idle m = length_idle m
length_choices tick m = length_tick m
length_choices (act n) m = length_act m n
length_choices (choice P Q) m = rw choices_choice (rw (length-append, length_choices P m, length_choices Q m) (count_choice m P Q))
length_choices (guarded g P) m = rw choices_guarded (rw (length-map, length_choices P m) (count_guarded m g P))
length_choices (call d P) m = length_call m d P (length_choices P m)
length_choices (seq P Q q) m =
    rw choices_seq
    (simp (length-append, length-map, length_joins, length_actions_in m P (length_choices P Actions), length_choices P Ticks, length_choices Q m) (count_seq m P Q q))
length_choices (par P p Q q) m =
    rw choices_par
    (simp (
      length-append,
      length-map,
      length_joins,
      length_actions_in m P (length_choices P Actions),
      length_actions_in m Q (length_choices Q Actions),
      length_choices P Ticks,
      length_choices Q Ticks,
      length_choices P m,
      length_choices Q m,
    )
    (count_par m P p Q q))

pub length_actions : (P : Process) → length (keep is_action (derivations P)) ≡ action_count P
unfolding derivations_in
length_actions P = length_choices P Actions

pub length_ticks : (P : Process) → length (keep is_tick (derivations P)) ≡ tick_count P
unfolding derivations_in
length_ticks P = length_choices P Ticks

pub choices_any : (P : Process) → derivations_in Any P ≡ derivations P
unfolding derivations_in
choices_any P = keep_all (derivations P)

pub length_derivations : (P : Process) → length (derivations P) ≡ action_count P + tick_count P
length_derivations P = ap length (sym (choices_any P)) ∙ length_choices P Any

pub few_count : (P : Process) → few P ≡ leb (action_count P + tick_count P) 65535
few_count P = ap (λ (n : ℕ). leb n 65535) (length_derivations P)

-- What stands at a place of the list.

places_append : (xs ys : List Derivation) → get_elem? (xs ++ ys) ≡ split (length xs) (get_elem? xs) (get_elem? ys)
places_append xs ys = fun_ext λ c. nth_append xs ys c

places_map : (h : Change) (xs : List Derivation) → get_elem? (map h xs) ≡ (λ i. mapped h (get_elem? xs i))
places_map h xs = fun_ext λ c. nth_map h xs c

places_joins : (P Q : Process) (m : Mode) → select Ticks P ≡ get_elem? (derivations_in Ticks P) → select m Q ≡ get_elem? (derivations_in m Q) →
    get_elem? (joins (derivations_in Ticks P) (derivations_in m Q)) ≡ pairs (count_in m Q) (select Ticks P) (select m Q)
places_joins P Q m e f = rw (e, f, ← (length_choices Q m)) (fun_ext λ c. nth_joins (derivations_in Ticks P) (derivations_in m Q) c)

no_places_lem : (f h g : Places) → split 0 f g ≡ split 0 h g
no_places_lem f h g = fun_ext λ c. split_right 0 f g c zero-le ∙ sym (split_right 0 h g c zero-le)

-- the actions of a mode come first
places_first : (m : Mode) (P : Process) (h : Change) (ys : List Derivation) → select Actions P ≡ get_elem? (derivations_in Actions P) →
    get_elem? (map h (actions_in m P) ++ ys) ≡ split (actions_of m P) (λ i. mapped h (select Actions P i)) (get_elem? ys)
unfolding actions_in
places_first Any P h ys e = places_append (map h (derivations_in Actions P)) ys ∙ rw (length-map, length_choices P Actions, places_map h (derivations_in Actions P), e)
places_first Actions P h ys e = places_append (map h (derivations_in Actions P)) ys ∙ rw (length-map, length_choices P Actions, places_map h (derivations_in Actions P), e)
places_first Ticks P h ys e = places_append [] ys ∙ no_places_lem (get_elem? []) (λ i. mapped h (select Actions P i)) (get_elem? ys)

places_idle : (m : Mode) → select m idle ≡ get_elem? (derivations_in m idle)
unfolding select derivations_in derivations keep
places_idle m = refl

places_call : (m : Mode) (d : ℕ) (P : Process) → select m P ≡ get_elem? (derivations_in m P) → select m (call d P) ≡ get_elem? (derivations_in m (call d P))
unfolding select derivations_in derivations
places_call m d P e = e

pub select_choices : (P : Process) (m : Mode) → select m P ≡ get_elem? (derivations_in m P)
unfolding select
select_choices idle m = places_idle m
select_choices tick m = refl
select_choices (act n) m = refl
select_choices (choice P Q) m =
    sym (ap get_elem? (choices_choice m P Q) ∙ places_append (derivations_in m P) (derivations_in m Q) ∙ rw (length_choices P m, ← (select_choices P m), ← (select_choices Q m)))
select_choices (guarded g P) m = sym (ap get_elem? (choices_guarded m g P) ∙ places_map (under g) (derivations_in m P) ∙ rw (← (select_choices P m)))
select_choices (call d P) m = places_call m d P (select_choices P m)
select_choices (seq P Q q) m =
    sym
    (ap get_elem? (choices_seq m P Q q) ∙ places_first m P (before q) (joins (derivations_in Ticks P) (derivations_in m Q)) (select_choices P Actions) ∙
    rw (places_joins P Q m (select_choices P Ticks) (select_choices Q m)))
select_choices (par P p Q q) m =
    let fromQ = joins (derivations_in Ticks P) (derivations_in m Q) in
    let fromP = joins (derivations_in Ticks Q) (derivations_in m P) in
    sym
    (ap get_elem? (choices_par m P p Q q) ∙
    places_first m P (beside_right q) (map (beside_left p) (actions_in m Q) ++ (fromQ ++ fromP)) (select_choices P Actions) ∙
    rw (
      places_first m Q (beside_left p) (fromQ ++ fromP) (select_choices Q Actions),
      places_append fromQ fromP,
      places_joins P Q m (select_choices P Ticks) (select_choices Q m),
      places_joins Q P m (select_choices Q Ticks) (select_choices P m),
      length_joins,
      length_choices P Ticks,
      length_choices Q m,
    ))

-- choice c is derivation c
pub select_any : (P : Process) (c : ℕ) → select Any P c ≡ get_elem? (derivations P) c
select_any P c = rw (select_choices P Any, choices_any)

-- A process can tick if it has a tick.

pos_add : (a b : ℕ) → ltb 0 (a + b) ≡ (ltb 0 a || ltb 0 b)
pos_add zero b = rw (zero-add b)
pos_add (suc a) b = rw (lt-ltb 0 (suc a + b) (omega arith), lt-ltb 0 (suc a) (omega arith))

pos_mul : (a b : ℕ) → ltb 0 (a * b) ≡ (ltb 0 a && ltb 0 b)
pos_mul zero b = rw (zero-mul b)
pos_mul (suc a) zero = rw (mul-zero (suc a), lt-ltb 0 (suc a) (omega arith))
pos_mul (suc a) (suc b) = rw (lt-ltb 0 (suc a * suc b) (omega arith), lt-ltb 0 (suc a) (omega arith), lt-ltb 0 (suc b) (omega arith))

both_ways : (a b : Bool) → (a && b) ≡ ((a && b) || (b && a))
both_ways true true = refl
both_ways true false = refl
both_ways false true = refl
both_ways false false = refl

pub can_tick_lem : (P : Process) → can_tick P ≡ ltb 0 (tick_count P)
unfolding can_tick tick_count
can_tick_lem idle = refl
can_tick_lem tick = refl
can_tick_lem (act n) = refl
can_tick_lem (choice P Q) = rw (pos_add, can_tick_lem P, can_tick_lem Q)
can_tick_lem (guarded g P) = can_tick_lem P
can_tick_lem (call d P) = can_tick_lem P
can_tick_lem (seq P Q q) = rw (pos_mul, can_tick_lem P, can_tick_lem Q)
can_tick_lem (par P p Q q) =
    rw (pos_add, pos_mul (tick_count P), pos_mul (tick_count Q), can_tick_lem P, can_tick_lem Q) (both_ways (ltb 0 (tick_count P)) (ltb 0 (tick_count Q)))

pub can_tick_iff : (P : Process) → (can_tick P ≡ true) ↔ (0 < tick_count P)
can_tick_iff P = (λ e. ltb-true 0 (tick_count P) (sym (can_tick_lem P) ∙ e), λ h. can_tick_lem P ∙ lt-ltb 0 (tick_count P) h)

nothing : (ds : List Derivation) → length ds ≡ 0 → ds ≡ []
nothing [] e = refl
nothing (d ∷ ds) e = absurd (omega arith)

-- one that cannot has none
pub no_ticks : (P : Process) → can_tick P ≡ false → keep is_tick (derivations P) ≡ []
no_ticks P e =
    let z : tick_count P ≤ 0 = ltb-false 0 (tick_count P) (sym (can_tick_lem P) ∙ e) in
    nothing (keep is_tick (derivations P)) (length_ticks P ∙ omega arith)

-- processes with the same derivations tick alike
pub same_tick : (P Q : Process) → derivations P ≡ derivations Q → can_tick P ≡ can_tick Q
same_tick P Q e =
    can_tick_lem P ∙ ap (ltb 0) (sym (length_ticks P) ∙ ap (λ (ds : List Derivation). length (keep is_tick ds)) e ∙ length_ticks Q) ∙ sym (can_tick_lem Q)
