-- The step that wrote a write of the history, and the clock that counts them.
-- Assumes nothing.
use Prim.Native.Nat.{ℕ, zero, suc, ◌+◌}
use mathlib.Core.Path.{◌≡◌, refl, sym, ap, ◌∙◌}
use mathlib.Core.Logic.{◌⊎◌, inl, inr}
use mathlib.Core.Option.{some}
use mathlib.Core.List.{List, [], ◌∷◌, ◌++◌}
use native.Mathlib.Omega.{arith}
use lib.ListN.{length, get_elem?, take, length-append}
use Rattle.agreement.specs.Machine.{after_steps, writes_of}
use Rattle.table.specs.Tables.{table_of}
use Rattle.state.specs.Layout.{stamp_of}
use Rattle.state.specs.Entries.{clock_of}
use Rattle.state.specs.WellFormed.{loaded}
use Rattle.state.proofs.Load.{loaded_clock}
use Rattle.labs.specs.Lists.{Step, next, state_after}
use Rattle.theorems.specs.Demand3.{Write, adds, history, Demand3}
use Rattle.theorems.specs.Origins.{WrittenBy, Origins, OriginsHold}
use Rattle.theorems.proofs.Views.{same_entry}
use Rattle.theorems.proofs.Lists.{AddsOne, adds_one, clock_next}
use Rattle.theorems.proofs.Demand3.{demand_3}

module _ (bytes : List ℕ) where
  abbrev writes : List ℕ → List Step → List Write
  writes s xs = writes_of (next bytes) (adds bytes) s xs

  abbrev after : List ℕ → List Step → List ℕ
  after s xs = after_steps (next bytes) s xs

  -- the step of a write, of the steps xs from any state s
  pub record StepOf (s : List ℕ) (xs : List Step) (n : ℕ) (w : Write) : Type 0 where
    pub index : ℕ
    pub step : Step
    pub there : get_elem? xs index ≡ some step
    pub one : AddsOne bytes (after s (take index xs)) step
    pub is_it : one.write ≡ w
    pub before : length (writes s (take index xs)) ≡ n

  later : (s : List ℕ) (x : Step) (xs : List Step) (n m : ℕ) (w : Write) → length (adds bytes s x) + m ≡ n → StepOf (next bytes s x) xs m w → StepOf s (x ∷ xs) n w
  later s x xs n m w e o = record {
    index = suc o.index;
    step = o.step;
    there = o.there;
    one = o.one;
    is_it = o.is_it;
    before = length-append (adds bytes s x) _ ∙ omega (arith, o.before);
  }

  pub step_of : (s : List ℕ) (xs : List Step) (n : ℕ) (w : Write) → get_elem? (writes s xs) n ≡ some w → StepOf s xs n w
  step_of s [] n w e = let z : ◌≡◌ {A = ℕ} 0 1 = cc in absurd (omega arith)
  step_of s (x ∷ xs) n w e = by (λ m f. step_of (next bytes s x) xs m w f) (adds_one bytes s x)
    where
      rest : List Write
      rest = writes (next bytes s x) xs

      by : ((m : ℕ) → get_elem? rest m ≡ some w → StepOf (next bytes s x) xs m w) → (adds bytes s x ≡ []) ⊎ AddsOne bytes s x → StepOf s (x ∷ xs) n w
      by ih (inl f) = later s x xs n n w (omega (arith, ap length f)) (ih n (sym (ap (λ (l : List Write). get_elem? (l ++ rest) n) f) ∙ e))
      by ih (inr o) = at n refl (sym (ap (λ (l : List Write). get_elem? (l ++ rest) n) o.adds_it) ∙ e)
        where
          at : (m : ℕ) → n ≡ m → get_elem? (o.write ∷ rest) n ≡ some w → StepOf s (x ∷ xs) n w
          at zero z f = let g : some o.write ≡ some w = ap (get_elem? (o.write ∷ rest)) (sym z) ∙ f in
              record { index = 0; step = x; there = refl; one = o; is_it = cc; before = sym z }
          at (suc m) z f = later s x xs n m w (omega (arith, ap length o.adds_it)) (ih m (ap (get_elem? (o.write ∷ rest)) (sym z) ∙ f))

  module _ (xs : List Step) where
    abbrev s : List ℕ
    s = state_after bytes xs

    pub written_by : (n : ℕ) (w : Write) → get_elem? (history bytes xs) n ≡ some w → WrittenBy bytes xs n w
    written_by n w e =
        let o = step_of (loaded (table_of bytes)) xs n w e in
        let i : o.one.write ≡ w = o.is_it in
        record {
          index = o.index;
          step = o.step;
          there = o.there;
          is_act = o.one.is_act;
          by_agent = o.one.by_agent ∙ ap (λ (v : Write). v.agent) i;
          is_done = o.one.is_done;
          writes = o.one.adds_it ∙ ap (λ (v : Write). v ∷ []) i;
          before = o.before;
        }

  -- the clock rises by one for each write
  clock_after : (s : List ℕ) (xs : List Step) → clock_of (after s xs) ≡ clock_of s + length (writes s xs)
  clock_after s [] = omega arith
  clock_after s (x ∷ xs) = clock_after (next bytes s x) xs ∙ omega (arith, clock_next bytes s x, length-append (adds bytes s x) (writes (next bytes s x) xs))

  origins : (xs : List Step) → Demand3 bytes xs → Origins bytes xs
  origins xs d = record {
    written_by = written_by xs;
    entry_from_step = λ a k h l pos.
        let w = d.written a k h l pos in
        let numbered : w.0.stamp ≡ stamp_of (state_after bytes xs) a k = omega (arith, d.numbered _ w.0 w.1) in
        (w.0, w.2, same_entry w.3 numbered w.4, written_by xs _ w.0 w.1);
    clock = clock_after (loaded (table_of bytes)) xs ∙ omega (arith, loaded_clock (table_of bytes));
  }

pub origins_hold : OriginsHold
origins_hold bytes lent scratch e xs = origins bytes xs ((demand_3 bytes lent scratch e).1 xs)
