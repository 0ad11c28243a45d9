-- The process of a node, by its kind, from those of the nodes that it names.
-- Assumes nothing.
use Prim.Native.Nat.{ℕ, zero, suc, ◌<◌, ◌≤◌}
use mathlib.Core.Path.{◌≡◌, refl, ap, ap₂, ◌∙◌}
use native.Mathlib.Omega.{arith}
use lib.ListN.{get_or}
use Rattle.basis.specs.Below.{below}
use Rattle.basis.proofs.Below.{below_at, below_out, below_same}
use Rattle.table.specs.Tables.{Table, kind_at, p_at, q_at, first_root}
use Rattle.table.specs.Sound.{Sound}
use Rattle.table.proofs.Promises.{sequence_operands, choice_operands, guarded_operands, parallel_operands}
use Rattle.term.specs.Terms.{Node}
use Rattle.term.specs.Processes.{Process, idle, choice, guarded, seq, par, by_kind, node_step, node_with, defined, node_process}

-- the nodes that a sequence, choice, guarded or parallel node names are lower
abbrev pub Lower : Table → ℕ → Type 0
Lower t n = 5 ≤ kind_at t n → kind_at t n ≤ 8 → (p_at t n < n) × (q_at t n < n)

module _ (t : Table) (calls : ℕ → Process) where
  pub node_out : (n : ℕ) → first_root t ≤ n → node_with t calls n ≡ idle
  unfolding node_with
  node_out n h = below_out (node_step t calls) idle (first_root t) n h

  -- node n, of kind k
  pub node_opened : (n k : ℕ) → n < first_root t → Lower t n → kind_at t n ≡ k
      → node_with t calls n ≡ get_or (by_kind calls (node_with t calls) n (p_at t n) (q_at t n)) k idle
  unfolding node_with node_step
  node_opened n k h low e =
      below_at (node_step t calls) idle (first_root t) n h ∙ ap (λ (x : ℕ). get_or (by_kind calls lower n (p_at t n) (q_at t n)) x idle) e ∙ by k e
    where
      lower : ℕ → Process
      lower = below (node_step t calls) idle n

      same : (m : ℕ) → m < n → lower m ≡ node_with t calls m
      same m l = below_same (node_step t calls) idle n (first_root t) m l (omega arith)

      left : 5 ≤ kind_at t n → kind_at t n ≤ 8 → lower (p_at t n) ≡ node_with t calls (p_at t n)
      left a b = same (p_at t n) (low a b).0

      right : 5 ≤ kind_at t n → kind_at t n ≤ 8 → lower (q_at t n) ≡ node_with t calls (q_at t n)
      right a b = same (q_at t n) (low a b).1

      by : (k : ℕ) → kind_at t n ≡ k → get_or (by_kind calls lower n (p_at t n) (q_at t n)) k idle ≡ get_or (by_kind calls (node_with t calls) n (p_at t n) (q_at t n)) k idle
      by zero e = refl
      by (suc zero) e = refl
      by (suc (suc zero)) e = refl
      by (suc (suc (suc zero))) e = refl
      by (suc (suc (suc (suc zero)))) e = refl
      by (suc (suc (suc (suc (suc zero))))) e = ap₂ (λ (P Q : Process). seq P Q (Node (q_at t n))) (left (omega arith) (omega arith)) (right (omega arith) (omega arith))
      by (suc (suc (suc (suc (suc (suc zero)))))) e = ap₂ choice (left (omega arith) (omega arith)) (right (omega arith) (omega arith))
      by (suc (suc (suc (suc (suc (suc (suc zero))))))) e = ap (guarded (p_at t n)) (right (omega arith) (omega arith))
      by (suc (suc (suc (suc (suc (suc (suc (suc zero)))))))) e =
          ap₂ (λ (P Q : Process). par P (Node (p_at t n)) Q (Node (q_at t n))) (left (omega arith) (omega arith)) (right (omega arith) (omega arith))
      by (suc (suc (suc (suc (suc (suc (suc (suc (suc zero))))))))) e = refl
      by (suc (suc (suc (suc (suc (suc (suc (suc (suc (suc k)))))))))) e = refl

-- as they are in a sound table
pub sound_lower : (t : Table) → Sound t → (n : ℕ) → Lower t n
sound_lower t s n a b = by (kind_at t n) refl a b
  where
    by : (k : ℕ) → kind_at t n ≡ k → 5 ≤ k → k ≤ 8 → (p_at t n < n) × (q_at t n < n)
    by zero e a b = absurd (omega arith)
    by (suc zero) e a b = absurd (omega arith)
    by (suc (suc zero)) e a b = absurd (omega arith)
    by (suc (suc (suc zero))) e a b = absurd (omega arith)
    by (suc (suc (suc (suc zero)))) e a b = absurd (omega arith)
    by (suc (suc (suc (suc (suc zero))))) e a b = let w = sequence_operands t s n e in (w.0.0, w.1.0)
    by (suc (suc (suc (suc (suc (suc zero)))))) e a b = let w = choice_operands t s n e in (w.0.0, w.1.0)
    by (suc (suc (suc (suc (suc (suc (suc zero))))))) e a b = let w = guarded_operands t s n e in (w.0.0, w.1.0)
    by (suc (suc (suc (suc (suc (suc (suc (suc zero)))))))) e a b = let w = parallel_operands t s n e in (w.0.0, w.1.0)
    by (suc (suc (suc (suc (suc (suc (suc (suc (suc k))))))))) e a b = absurd (omega arith)

module _ (t : Table) (n : ℕ) where
  pub process_opened : (k : ℕ) → n < first_root t → Lower t n → kind_at t n ≡ k
      → node_process t n ≡ get_or (by_kind (defined t t.sizes.definitions) (node_process t) n (p_at t n) (q_at t n)) k idle
  unfolding node_process
  process_opened k h low e = node_opened t (defined t t.sizes.definitions) n k h low e

  pub process_out : first_root t ≤ n → node_process t n ≡ idle
  unfolding node_process
  process_out h = node_out t (defined t t.sizes.definitions) n h
