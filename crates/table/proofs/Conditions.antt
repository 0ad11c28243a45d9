-- Laws of refusals as facts: checks that follow conditions line by line come to what the conditions say.
-- Assumes nothing.
use Prim.Native.Nat.{ℕ, ◌<◌}
use mathlib.Core.Bool.{Bool, true, false}
use mathlib.Core.Path.{◌≡◌, refl, sym, ap, ◌∙◌}
use mathlib.Core.Logic.{◌↔◌, inl, inr, ⊎_elim}
use mathlib.Core.List.{List, [], ◌∷◌, ◌++◌}
use native.Mathlib.Omega.{arith}
use lib.Dec.{ltb}
use borrow.Author.Tests.{ltb-true}
use Rattle.basis.specs.Numbers.{lowest}
use Rattle.basis.proofs.Numbers.{lowest_before}
use Rattle.basis.proofs.Numbers as numbers
use Rattle.basis.proofs.Tests.{either, not_both}
use Rattle.table.specs.Checks.{Check, passes, refuses, Refusal, refuse_if, refuse_at, first_of}
use Rattle.table.specs.Conditions.{Condition, ◌when◌, Lowest, at_lowest, Comes}
use Rattle.table.proofs.Checks.{refused, none_passes, first_later, first_refuses, append_later, append_refuses, lowest_passes}

-- a line of checks and one of conditions: the same number; where the test is true the condition is so at the check's place, else at none
pub record Line (r : Refusal) (l : Condition) : Type 0 where
  pub number : r.number ≡ l.number
  pub so : r.when ≡ true → l.at r.place
  pub none : r.when ≡ false → (place : ℕ) → l.at place → ⊥

-- line by line, each asked where those before it pass
abbrev pub Follows : List Refusal → List Condition → Type 0
Follows [] [] = Unit
Follows [] (l ∷ ls) = ⊥
Follows (r ∷ rs) [] = ⊥
Follows (r ∷ rs) (l ∷ ls) = Line r l × (r.when ≡ false → Follows rs ls)

pub comes : (rs : List Refusal) (ls : List Condition) → Follows rs ls → Comes ls (first_of rs)
comes [] [] f = none_passes
comes [] (l ∷ ls) f = absurd f
comes (r ∷ rs) [] f = absurd f
comes (r ∷ rs) (l ∷ ls) f =
    ⊎_elim
    (λ (e : r.when ≡ true). inl (r.place, f.0.so e, first_refuses r rs e ∙ ap (λ (n : ℕ). refuses n r.place) f.0.number))
    (λ (e : r.when ≡ false). inr (f.0.none e, rw (first_later r rs e) (comes rs ls (f.1 e))))
    (either r.when)

-- LINES. A test with place 0
pub follows_if : (number : ℕ) (test : Bool) {Fact : Type 0} → (test ≡ true → Fact) → (test ≡ false → Fact → ⊥) → Line (refuse_if number test) (number when Fact)
follows_if number test f g = record { number = refl; so = λ e. (refl, f e); none = λ e place w. g e w.1 }

-- the lowest number that passes a test, where the test at a number is known if no lower one passes it
module _ (number limit : ℕ) (test : ℕ → Bool) {Fault : ℕ → Type 0} where
  pub follows_lowest_after : ((n : ℕ) → n < limit → ((m : ℕ) → m < n → test m ≡ false) → (test n ≡ true) ↔ Fault n)
      → Line (refuse_at number limit (lowest test limit)) (at_lowest number limit Fault)
  follows_lowest_after f = record { number = refl; so = so; none = none }
    where
      so : ltb (lowest test limit) limit ≡ true → Lowest limit Fault (lowest test limit)
      so e =
          let l : lowest test limit < limit = ltb-true (lowest test limit) limit e in
          record {
            below = l;
            fault = (f (lowest test limit) l (lowest_before test limit)).0 (numbers.lowest_passes test limit l);
            none_lower = λ n h w.
                not_both ((f n (omega arith) (λ m g. lowest_before test limit m (omega arith))).1 w) (lowest_before test limit n h);
          }

      none : ltb (lowest test limit) limit ≡ false → (place : ℕ) → Lowest limit Fault place → ⊥
      none e place w =
          let passed = lowest_passes limit test e in
          not_both ((f place w.below (λ m g. passed m (omega (arith, w.below)))).1 w.fault) (passed place w.below)

  pub follows_lowest : ((n : ℕ) → n < limit → (test n ≡ true) ↔ Fault n) → Line (refuse_at number limit (lowest test limit)) (at_lowest number limit Fault)
  follows_lowest f = follows_lowest_after (λ n h g. f n h)

-- IN A ROW: the conditions after the first ones are asked where those pass
after : (ls ks : List Condition) (c d : Check) → (c ≡ passes → Comes ks d) → ((number place : ℕ) → c ≡ refuses number place → d ≡ refuses number place)
    → Comes ls c → Comes (ls ++ ks) d
after [] ks c d f g h = f h
after (l ∷ ls) ks c d f g h =
    ⊎_elim
    (λ (w : (place : ℕ) × l.at place × (c ≡ refuses l.number place)). inl (w.0, w.1, g l.number w.0 w.2))
    (λ (w : ((place : ℕ) → l.at place → ⊥) × Comes ls c). inr (w.0, after ls ks c d f g w.1))
    h

pub comes_append : (rs qs : List Refusal) (ls ks : List Condition) → Comes ls (first_of rs) → (first_of rs ≡ passes → Comes ks (first_of qs))
    → Comes (ls ++ ks) (first_of (rs ++ qs))
comes_append rs qs ls ks h f =
    after ls ks (first_of rs) (first_of (rs ++ qs)) (λ e. rw (append_later rs qs e) (f e)) (λ number place e. append_refuses rs qs e) h

-- PASSING: no line is so
abbrev pub None : List Condition → Type 0
None [] = Unit
None (l ∷ ls) = ((place : ℕ) → l.at place → ⊥) × None ls

pub comes_none : (ls : List Condition) {c : Check} → Comes ls c → c ≡ passes → None ls
comes_none [] h e = tt
comes_none (l ∷ ls) {c} h e =
    ⊎_elim
    (λ (w : (place : ℕ) × l.at place × (c ≡ refuses l.number place)). absurd (refused (sym w.2 ∙ e)))
    (λ (w : ((place : ℕ) → l.at place → ⊥) × Comes ls c). (w.0, comes_none ls w.1 e))
    h

pub none_comes : (ls : List Condition) {c : Check} → Comes ls c → None ls → c ≡ passes
none_comes [] h f = h
none_comes (l ∷ ls) {c} h f =
    ⊎_elim
    (λ (w : (place : ℕ) × l.at place × (c ≡ refuses l.number place)). absurd (f.0 w.0 w.1))
    (λ (w : ((place : ℕ) → l.at place → ⊥) × Comes ls c). none_comes ls w.1 f.1)
    h
