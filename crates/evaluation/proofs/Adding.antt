-- Sets to which keys are added, and what a node reads.
-- Assumes nothing.
use Prim.Native.Nat.{ℕ, ◌^◌, ◌<◌, ◌≤◌}
use mathlib.Core.Bool.{Bool, true, false, ◌&&◌, ◌||◌, and-false, or-false, or_assoc, or_comm}
use mathlib.Core.Path.{◌≡◌, refl, sym, ap, ◌∙◌}
use native.Mathlib.Omega.{arith}
use lib.Dec.{eqb}
use borrow.Author.Tests.{ne_eqb, lt-ltb}
use Rattle.basis.specs.KeySets.{has, plus, plus_all}
use Rattle.basis.proofs.Below.{below_out, below_at}
use Rattle.basis.proofs.KeySets.{has_plus, plus_small, has_plus_all, plus_all_small, same_keys}
use Rattle.table.specs.Tables.{Table, kind_at, p_at, q_at}
use Rattle.table.specs.Nodes.{left_node, right_node}
use Rattle.state.specs.Layout.{key_limit}
use Rattle.state.specs.Evaluation.{reads_step}
use Rattle.evaluation.specs.Reading.{Adds, reads_below, is_key}

-- nothing is added
pub adds_none : {test : ℕ → Bool} {w : ℕ} → ((k : ℕ) → k < key_limit → test k ≡ false) → Adds test w w
adds_none {test} {w} f = record { keys = λ k l. rw (f k l) (sym (or-false (has w k))); small = λ h. h }

-- one key is added
adds_one : (w p : ℕ) → p < key_limit → Adds (eqb p) w (plus w p)
adds_one w p l = record { keys = λ k i. has_plus w p k ∙ or_comm (eqb p k) (has w k); small = λ h. plus_small key_limit w p l h }

-- the same test
pub adds_same : {f g : ℕ → Bool} {w r : ℕ} → ((k : ℕ) → g k ≡ f k) → Adds f w r → Adds g w r
adds_same e a = record { keys = λ k l. rw (e k) (a.keys k l); small = a.small }

-- one after the other
pub adds_both : {f g : ℕ → Bool} {w u r : ℕ} → Adds f w u → Adds g u r → Adds (λ (k : ℕ). f k || g k) w r
adds_both {f} {g} {w} a b =
    record {
      keys = λ k l. b.keys k l ∙ ap (λ (z : Bool). z || g k) (a.keys k l) ∙ or_assoc (has w k) (f k) (g k);
      small = λ h. b.small (a.small h);
    }

-- a walk that is made, and one that is not
pub adds_made : {on : Bool} {f : ℕ → Bool} {w r : ℕ} → on ≡ true → Adds f w r → Adds (λ (k : ℕ). on && f k) w r
adds_made e a = adds_same (λ k. rw e) a

pub adds_unmade : {on : Bool} (f : ℕ → Bool) {w : ℕ} → on ≡ false → Adds (λ (k : ℕ). on && f k) w w
adds_unmade f e = adds_none (λ k l. rw e)

-- of keys below the limit, it is the set with each key that passes
module _ {test : ℕ → Bool} {w : ℕ} (low : w < 2 ^ key_limit) where
  pub all_adds : {r : ℕ} → r ≡ plus_all test key_limit w → Adds test w r
  all_adds e =
      rw e (record {
        keys = λ k l. has_plus_all test key_limit w k ∙ rw (lt-ltb k key_limit l) (or_comm (test k) (has w k));
        small = λ h. plus_all_small test key_limit key_limit w (omega arith) h;
      })

  pub adds_all : {r : ℕ} → Adds test w r → r ≡ plus_all test key_limit w
  adds_all {r} a =
      let all : Adds test w (plus_all test key_limit w) = all_adds refl in
      same_keys key_limit r (plus_all test key_limit w) (a.small low) (all.small low) (λ k l. a.keys k l ∙ sym (all.keys k l))

module _ (t : Table) where
  -- THE KEY that a node is
  module _ (n w : ℕ) where
    pub key_none : (kind_at t n ≡ 34 → ⊥) → Adds (is_key t n) w w
    key_none d = adds_none (λ k l. rw (ne_eqb (kind_at t n) 34 d))

    pub key_past : key_limit ≤ p_at t n → Adds (is_key t n) w w
    key_past h = adds_none (λ k l. rw (ne_eqb (p_at t n) k (λ e. omega arith)) (and-false (eqb (kind_at t n) 34)))

    pub key_there : {r : ℕ} → r ≡ plus w (p_at t n) → kind_at t n ≡ 34 → p_at t n < key_limit → Adds (is_key t n) w r
    key_there is e l = rw is (adds_same (λ k. rw e) (adds_one w (p_at t n) l))

  -- WHAT IT READS
  reads_out : (limit n k : ℕ) → limit ≤ n → reads_below t limit n k ≡ false
  reads_out limit n k h = ap (λ (f : ℕ → Bool). f k) (below_out (reads_step t) (λ (j : ℕ). false) limit n h)

  pub reads_none : (limit n w : ℕ) → limit ≤ n → Adds (reads_below t limit n) w w
  reads_none limit n w h = adds_none (λ k l. reads_out limit n k h)

  -- its own key, then those of its parts
  pub reads_parts : (limit n : ℕ) {w u v z : ℕ} → n < limit → Adds (is_key t n) w u
      → Adds (λ (k : ℕ). left_node t n && reads_below t n (p_at t n) k) u v
      → Adds (λ (k : ℕ). right_node t n && reads_below t n (q_at t n) k) v z → Adds (reads_below t limit n) w z
  unfolding reads_step
  reads_parts limit n h a b c =
      adds_same
      (λ k. ap (λ (f : ℕ → Bool). f k) (below_at (reads_step t) (λ (j : ℕ). false) limit n h)
      ∙ sym (or_assoc (is_key t n k) (left_node t n && reads_below t n (p_at t n) k) (right_node t n && reads_below t n (q_at t n) k)))
      (adds_both (adds_both a b) c)
