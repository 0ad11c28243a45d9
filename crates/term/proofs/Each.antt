-- What every element of a list has.
-- Assumes nothing.
use mathlib.Core.List.{List, [], ◌∷◌, ◌++◌, map, Memᴰ}

abbrev pub Each : {A : Type 0} → (A → Type 0) → List A → Type 0
Each P [] = Unit {0}
Each P (x ∷ xs) = P x × Each P xs

module _ {A : Type 0} (P : A → Type 0) where
  pub each_in : {x : A} {xs : List A} → Memᴰ x xs → Each P xs → P x
  each_in (Memᴰ.head e) h = rw e h.0
  each_in (Memᴰ.tail m) h = each_in m h.1

  pub each_append : (xs ys : List A) → Each P xs → Each P ys → Each P (xs ++ ys)
  each_append [] ys e f = f
  each_append (x ∷ xs) ys e f = (e.0, each_append xs ys e.1 f)

  pub each_map : (f : A → A) → ((x : A) → P x → P (f x)) → (xs : List A) → Each P xs → Each P (map f xs)
  each_map f h [] e = tt
  each_map f h (x ∷ xs) e = (h x e.0, each_map f h xs e.1)
