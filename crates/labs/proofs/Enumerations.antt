-- Lists of derivations with a name for each place, no name twice: how such lists are made of one another.
-- Assumes nothing.
use Prim.Native.Nat.{ℕ, zero, suc}
use mathlib.Core.Bool.{Bool, true, false}
use mathlib.Core.Logic.{◌↔◌, ◌⊎◌, inl, inr, ⊎_elim}
use mathlib.Core.Option.{some}
use mathlib.Core.Path.{◌≡◌, refl, sym, ap, ap₂, subst, ◌∙◌}
use mathlib.Core.List.{List, [], ◌∷◌, ◌++◌, map, map-append, Memᴰ}
use native.Mathlib.Omega.{arith}
use lib.ListN.{length, get_elem?, length-map}
use Rattle.term.specs.Processes.{Derivation, keep, join, joins}

-- a derivation with its name; a relation of names and derivations
abbrev pub Named : Type 0 → Type 0
Named A = A × Derivation

abbrev pub Relation : Type 0 → Type 1
Relation A = A → Derivation → Type 0

abbrev pub entries : {A : Type 0} → List (Named A) → List Derivation
entries xs = map (λ x. x.1) xs

abbrev pub names : {A : Type 0} → List (Named A) → List A
names xs = map (λ x. x.0) xs

-- no name stands twice
abbrev pub Once : {A : Type 0} → List (Named A) → Type 0
Once [] = Unit {0}
Once {A} (x ∷ xs) = ((y : Named A) → Memᴰ y xs → x.0 ≡ y.0 → ⊥) × Once xs

-- the derivations ds can be named, each name once, so that just those stand together of which H holds
pub record Enumerated {A : Type 0} (H : Relation A) (ds : List Derivation) : Type 0 where
  pub named : List (Named A)
  pub entries_are : entries named ≡ ds
  pub once : Once named
  pub exactly : (a : A) (d : Derivation) → Memᴰ (a, d) named ↔ H a d

-- H holds of the old name and derivation, changed; of one that passes a test; H of a first, K of a second that it joins
module _ {A : Type 0} where
  abbrev pub Changed : (A → A) → (Derivation → Derivation) → Relation A → Relation A
  Changed f g H a d = (b : A) × (e : Derivation) × H b e × (a ≡ f b) × (d ≡ g e)

  abbrev pub Tested : (Derivation → Bool) → Relation A → Relation A
  Tested test H a d = H a d × (test d ≡ true)

  abbrev pub Joined : (A → A → A) → Relation A → Relation A → Relation A
  Joined f H K a d = (b : A) × (e : Derivation) × (b' : A) × (e' : Derivation) × H b e × K b' e' × (a ≡ f b b') × (d ≡ join e e')

  abbrev pub Either : Relation A → Relation A → Relation A
  Either H K a d = H a d ⊎ K a d

  -- the same of another wording
  pub enumerated_same : {H K : Relation A} {ds : List Derivation} → ((a : A) (d : Derivation) → H a d ↔ K a d) → Enumerated H ds → Enumerated K ds
  enumerated_same f e =
      record {
        named = e.named;
        entries_are = e.entries_are;
        once = e.once;
        exactly = λ a d. (λ m. (f a d).0 ((e.exactly a d).0 m), λ k. (e.exactly a d).1 ((f a d).1 k));
      }

  -- what H holds of is there
  pub enumerated_in : {H : Relation A} {ds : List Derivation} → Enumerated H ds → {a : A} {d : Derivation} → H a d → Memᴰ d ds
  enumerated_in p {a} {d} h = rw (← p.entries_are) (mathlib.Core.List.Memᴰ.map (λ (x : Named A). x.1) ((p.exactly a d).1 h))

  pub enumerated_some : {H : Relation A} {ds : List Derivation} → Enumerated H ds → {d : Derivation} → Memᴰ d ds → (a : A) × H a d
  enumerated_some {H} p {d} m =
      let n : Memᴰ d (entries p.named) = rw p.entries_are m in
      let y = mathlib.Core.List.Memᴰ.of_map (λ (x : Named A). x.1) p.named n in
      (y.0.0, subst (λ (e : Derivation). H y.0.0 e) y.2 ((p.exactly y.0.0 y.0.1).0 y.1))

  -- NONE, AND ONE
  pub enumerated_none : (H : Relation A) → ((a : A) (d : Derivation) → H a d → ⊥) → Enumerated H []
  enumerated_none H f = record { named = []; entries_are = refl; once = tt; exactly = λ a d. (λ m. absurd (mathlib.Core.List.Memᴰ.not-nil m), λ h. absurd (f a d h)) }

  pub enumerated_one : (b : A) (e : Derivation) → Enumerated (λ (a : A) (d : Derivation). (a ≡ b) × (d ≡ e)) (e ∷ [])
  enumerated_one b e =
      record {
        named = (b, e) ∷ [];
        entries_are = refl;
        once = (λ y m i. mathlib.Core.List.Memᴰ.not-nil m, tt);
        exactly = λ a d. (
          λ m. let i = mathlib.Core.List.Memᴰ.eq_of_singleton m in (ap (λ (x : Named A). x.0) i, ap (λ (x : Named A). x.1) i),
          λ h. mathlib.Core.List.Memᴰ.head (ap₂ (λ (u : A) (v : Derivation). (u, v)) h.0 h.1),
        );
      }

  -- CHANGED, by a function that gives different names different ones
  module _ (f : A → A) (g : Derivation → Derivation) (inj : (a b : A) → f a ≡ f b → a ≡ b) where
    change : Named A → Named A
    change x = (f x.0, g x.1)

    change_entries : (xs : List (Named A)) → entries (map change xs) ≡ map g (entries xs)
    unfolding change
    change_entries [] = refl
    change_entries (x ∷ xs) = ap (λ (ds : List Derivation). g x.1 ∷ ds) (change_entries xs)

    change_once : (xs : List (Named A)) → Once xs → Once (map change xs)
    unfolding change
    change_once [] o = tt
    change_once (x ∷ xs) o = (
      λ y m i. let z = mathlib.Core.List.Memᴰ.of_map change xs m in o.0 z.0 z.1 (inj x.0 z.0.0 (i ∙ sym (ap (λ (u : Named A). u.0) z.2))),
      change_once xs o.1,
    )

    pub enumerated_changed : {H : Relation A} {ds : List Derivation} → Enumerated H ds → Enumerated (Changed f g H) (map g ds)
    unfolding change
    enumerated_changed e =
        record {
          named = map change e.named;
          entries_are = change_entries e.named ∙ ap (map g) e.entries_are;
          once = change_once e.named e.once;
          exactly = λ a d. (
            λ m. let z = mathlib.Core.List.Memᴰ.of_map change e.named m in
                (z.0.0, z.0.1, (e.exactly z.0.0 z.0.1).0 z.1, sym (ap (λ (u : Named A). u.0) z.2), sym (ap (λ (u : Named A). u.1) z.2)),
            λ h. mathlib.Core.List.Memᴰ.cast (ap₂ (λ (u : A) (v : Derivation). (u, v)) h.3 h.4) (mathlib.Core.List.Memᴰ.map change ((e.exactly h.0 h.1).1 h.2)),
          );
        }

  -- THOSE THAT PASS A TEST
  module _ (test : Derivation → Bool) where
    pass : List (Named A) → List (Named A)
    pass [] = []
    pass (x ∷ xs) = elim (test x.1) [ true ↦ x ∷ pass xs | false ↦ pass xs ]

    pass_entries : (xs : List (Named A)) → entries (pass xs) ≡ keep test (entries xs)
    unfolding pass keep
    pass_entries [] = refl
    pass_entries (x ∷ xs) = by (test x.1) (pass_entries xs)
      where
        by : (b : Bool) → entries (pass xs) ≡ keep test (entries xs)
            → ◌≡◌ {A = List Derivation} (entries {A = A} (elim b [ true ↦ x ∷ pass xs | false ↦ pass xs ])) (elim b [ true ↦ x.1 ∷ keep test (entries xs) | false ↦ keep test (entries xs) ])
        by true e = ap (λ (ds : List Derivation). x.1 ∷ ds) e
        by false e = e

    in_pass : (y : Named A) (xs : List (Named A)) → Memᴰ y (pass xs) → Memᴰ y xs × (test y.1 ≡ true)
    unfolding pass
    in_pass y [] m = absurd (mathlib.Core.List.Memᴰ.not-nil m)
    in_pass y (x ∷ xs) m = by (test x.1) refl (in_pass y xs) m
      where
        by : (b : Bool) → test x.1 ≡ b → (Memᴰ y (pass xs) → Memᴰ y xs × (test y.1 ≡ true))
            → Memᴰ y (elim b [ true ↦ x ∷ pass xs | false ↦ pass xs ]) → Memᴰ y (x ∷ xs) × (test y.1 ≡ true)
        by true e r n =
            ⊎_elim (λ (u : y ≡ x). (mathlib.Core.List.Memᴰ.head u, ap (λ (z : Named A). test z.1) u ∙ e)) (λ (k : Memᴰ y (pass xs)). (mathlib.Core.List.Memᴰ.tail (r k).0, (r k).1)) (mathlib.Core.List.Memᴰ.cases_cons n)
        by false e r n = (mathlib.Core.List.Memᴰ.tail (r n).0, (r n).1)

    pass_in : (y : Named A) {xs : List (Named A)} → test y.1 ≡ true → Memᴰ y xs → Memᴰ y (pass xs)
    unfolding pass
    pass_in y t (mathlib.Core.List.Memᴰ.head {x = x} {xs = xs} e) = rw (← e) (rw (t, pass) (mathlib.Core.List.Memᴰ.head refl))
    pass_in y t (mathlib.Core.List.Memᴰ.tail {x = x} {xs = xs} m) = by (test x.1) (pass_in y t m)
      where
        by : (b : Bool) → Memᴰ y (pass xs) → Memᴰ y (elim b [ true ↦ x ∷ pass xs | false ↦ pass xs ])
        by true n = mathlib.Core.List.Memᴰ.tail n
        by false n = n

    pass_once : (xs : List (Named A)) → Once xs → Once (pass xs)
    unfolding pass
    pass_once [] o = tt
    pass_once (x ∷ xs) o = by (test x.1) (pass_once xs o.1)
      where
        by : (b : Bool) → Once (pass xs) → Once {A = A} (elim b [ true ↦ x ∷ pass xs | false ↦ pass xs ])
        by true r = (λ y m i. o.0 y (in_pass y xs m).0 i, r)
        by false r = r

    pub enumerated_tested : {H : Relation A} {ds : List Derivation} → Enumerated H ds → Enumerated (Tested test H) (keep test ds)
    enumerated_tested e =
        record {
          named = pass e.named;
          entries_are = pass_entries e.named ∙ ap (keep test) e.entries_are;
          once = pass_once e.named e.once;
          exactly = λ a d. (
            λ m. let z = in_pass (a, d) e.named m in ((e.exactly a d).0 z.0, z.1),
            λ h. pass_in (a, d) h.1 ((e.exactly a d).1 h.0),
          );
        }

  -- ONE AFTER THE OTHER, where no name is in both
  append_once : (xs ys : List (Named A)) → Once xs → Once ys → ((x y : Named A) → Memᴰ x xs → Memᴰ y ys → x.0 ≡ y.0 → ⊥) → Once (xs ++ ys)
  append_once [] ys o p f = p
  append_once (x ∷ xs) ys o p f = (
    λ y m i. ⊎_elim (λ n. o.0 y n i) (λ n. f x y (mathlib.Core.List.Memᴰ.head refl) n i) (mathlib.Core.List.Memᴰ.append_cases xs m),
    append_once xs ys o.1 p (λ u v m n. f u v (mathlib.Core.List.Memᴰ.tail m) n),
  )

  pub enumerated_append : {H K : Relation A} {ds es : List Derivation} → Enumerated H ds → Enumerated K es
      → ((a : A) (d e : Derivation) → H a d → K a e → ⊥) → Enumerated (Either H K) (ds ++ es)
  enumerated_append {H} {K} p q f =
      record {
        named = p.named ++ q.named;
        entries_are = map-append (λ (x : Named A). x.1) p.named q.named ∙ ap₂ (λ (u v : List Derivation). u ++ v) p.entries_are q.entries_are;
        once =
            append_once p.named q.named p.once q.once
            (λ x y m n i. f x.0 x.1 y.1 ((p.exactly x.0 x.1).0 m) (rw i ((q.exactly y.0 y.1).0 n)));
        exactly = λ a d. (
          λ m. ⊎_elim (λ n. inl ((p.exactly a d).0 n)) (λ n. inr ((q.exactly a d).0 n)) (mathlib.Core.List.Memᴰ.append_cases p.named m),
          ⊎_elim (λ (h : H a d). mathlib.Core.List.Memᴰ.append_left q.named ((p.exactly a d).1 h)) (λ (k : K a d). mathlib.Core.List.Memᴰ.append_right p.named ((q.exactly a d).1 k)),
        );
      }

  -- EACH OF THE ONE WITH EACH OF THE OTHER
  module _ (f : A → A → A) (inj : (a b c d : A) → f a c ≡ f b d → (a ≡ b) × (c ≡ d)) where
    -- of the first ones that are left
    abbrev Pairs : List (Named A) → Relation A → Relation A
    Pairs xs K = Joined f (λ (a : A) (d : Derivation). Memᴰ (a, d) xs) K

    pairs : (xs : List (Named A)) → Once xs → {K : Relation A} {es : List Derivation} → Enumerated K es → Enumerated (Pairs xs K) (joins (entries xs) es)
    unfolding joins
    pairs [] o {K} q = enumerated_none (Pairs [] K) (λ a d h. mathlib.Core.List.Memᴰ.not-nil h.4)
    pairs (x ∷ xs) o {K} q =
        enumerated_same {K = Pairs (x ∷ xs) K} (λ a d. (
          ⊎_elim (λ (h : Changed (f x.0) (join x.1) K a d). (x.0, x.1, h.0, h.1, mathlib.Core.List.Memᴰ.head refl, h.2, h.3, h.4))
              (λ (h : Pairs xs K a d). (h.0, h.1, h.2, h.3, mathlib.Core.List.Memᴰ.tail h.4, h.5, h.6, h.7)),
          λ h. ⊎_elim (λ (u : (h.0, h.1) ≡ x). inl (h.2, h.3, h.5, h.6 ∙ ap (λ (v : Named A). f v.0 h.2) u, h.7 ∙ ap (λ (v : Named A). join v.1 h.3) u))
              (λ (m : Memᴰ (h.0, h.1) xs). inr (h.0, h.1, h.2, h.3, m, h.5, h.6, h.7)) (mathlib.Core.List.Memᴰ.cases_cons h.4),
        ))
        (enumerated_append (enumerated_changed (f x.0) (join x.1) (λ a b i. (inj x.0 x.0 a b i).1) q) (pairs xs o.1 q)
        (λ a d e h k. o.0 (k.0, k.1) k.4 (inj x.0 k.0 h.0 k.2 (sym h.3 ∙ k.6)).0))

    pub enumerated_joined : {H K : Relation A} {ds es : List Derivation} → Enumerated H ds → Enumerated K es → Enumerated (Joined f H K) (joins ds es)
    enumerated_joined {H} {K} {ds} {es} p q =
        rw (← p.entries_are) (enumerated_same {K = Joined f H K} (λ a d. (
          λ h. (h.0, h.1, h.2, h.3, (p.exactly h.0 h.1).0 h.4, h.5, h.6, h.7),
          λ h. (h.0, h.1, h.2, h.3, (p.exactly h.0 h.1).1 h.4, h.5, h.6, h.7),
        )) (pairs p.named p.once q))

  -- BY PLACES: a name and a derivation stand together where they stand at one place
  named_place : {a : A} {d : Derivation} {xs : List (Named A)} → Memᴰ (a, d) xs → (c : ℕ) × (get_elem? (names xs) c ≡ some a) × (get_elem? (entries xs) c ≡ some d)
  named_place (mathlib.Core.List.Memᴰ.head e) = (0, ap (λ (x : Named A). some x.0) (sym e), ap (λ (x : Named A). some x.1) (sym e))
  named_place (mathlib.Core.List.Memᴰ.tail m) = let y = named_place m in (suc y.0, y.1, y.2)

  place_named : {a : A} {d : Derivation} (xs : List (Named A)) (c : ℕ) → get_elem? (names xs) c ≡ some a → get_elem? (entries xs) c ≡ some d → Memᴰ (a, d) xs
  place_named [] c i j = let z : ◌≡◌ {A = ℕ} 0 1 = cc in absurd (omega arith)
  place_named {a} {d} (x ∷ xs) zero i j =
      let u : a ≡ x.0 = cc in
      let v : d ≡ x.1 = cc in
      mathlib.Core.List.Memᴰ.head (ap₂ (λ (p : A) (q : Derivation). (p, q)) u v)
  place_named (x ∷ xs) (suc c) i j = mathlib.Core.List.Memᴰ.tail (place_named xs c i j)

  name_in : {a : A} (xs : List (Named A)) (c : ℕ) → get_elem? (names xs) c ≡ some a → (x : Named A) × Memᴰ x xs × (a ≡ x.0)
  name_in [] c i = let z : ◌≡◌ {A = ℕ} 0 1 = cc in absurd (omega arith)
  name_in {a} (x ∷ xs) zero i = let u : a ≡ x.0 = cc in (x, mathlib.Core.List.Memᴰ.head refl, u)
  name_in (x ∷ xs) (suc c) i = let y = name_in xs c i in (y.0, mathlib.Core.List.Memᴰ.tail y.1, y.2)

  one_place : {a : A} (xs : List (Named A)) → Once xs → (c e : ℕ) → get_elem? (names xs) c ≡ some a → get_elem? (names xs) e ≡ some a → c ≡ e
  one_place [] o c e i j = let z : ◌≡◌ {A = ℕ} 0 1 = cc in absurd (omega arith)
  one_place (x ∷ xs) o zero zero i j = refl
  one_place {a} (x ∷ xs) o zero (suc e) i j = let u : x.0 ≡ a = cc in let y = name_in xs e j in absurd (o.0 y.0 y.1 (u ∙ y.2))
  one_place {a} (x ∷ xs) o (suc c) zero i j = let u : x.0 ≡ a = cc in let y = name_in xs c i in absurd (o.0 y.0 y.1 (u ∙ y.2))
  one_place (x ∷ xs) o (suc c) (suc e) i j = ap suc (one_place xs o.1 c e i j)

  pub enumerated_length : {H : Relation A} {ds : List Derivation} (p : Enumerated H ds) → length (names p.named) ≡ length ds
  enumerated_length p = length-map p.named (λ (x : Named A). x.0) ∙ sym (length-map p.named (λ (x : Named A). x.1)) ∙ ap (λ (es : List Derivation). length es) p.entries_are

  pub enumerated_once : {H : Relation A} {ds : List Derivation} (p : Enumerated H ds) (c e : ℕ) (a : A)
      → get_elem? (names p.named) c ≡ some a → get_elem? (names p.named) e ≡ some a → c ≡ e
  enumerated_once p c e a i j = one_place p.named p.once c e i j

  pub enumerated_places : {H : Relation A} {ds : List Derivation} (p : Enumerated H ds) (a : A) (d : Derivation)
      → H a d ↔ ((c : ℕ) × (get_elem? (names p.named) c ≡ some a) × (get_elem? ds c ≡ some d))
  enumerated_places p a d =
      rw (← p.entries_are) (λ h. named_place ((p.exactly a d).1 h), λ h. (p.exactly a d).0 (place_named p.named h.0 h.1 h.2))
