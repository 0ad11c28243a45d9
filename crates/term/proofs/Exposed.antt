-- A node exposes calls of the table's definitions only.
-- Assumes nothing.
use Prim.Native.Nat.{ℕ, zero, suc}
use mathlib.Core.Bool.{true, not, ◌||◌}
use mathlib.Core.Path.{◌≡◌, refl}
use lib.ListN.{get_or}
use borrow.Author.Tests.{lt-ltb}
use Rattle.basis.specs.Below.{below}
use Rattle.basis.proofs.Below.{below_induct}
use Rattle.basis.proofs.Tests.{and_both, or_right}
use Rattle.table.specs.Tables.{Table, kind_at, p_at, q_at, first_root}
use Rattle.table.specs.Sound.{Sound}
use Rattle.table.proofs.Promises.{call_operands}
use Rattle.term.specs.Processes.{Process, idle, by_kind, node_step, node_with, defined, node_process}
use Rattle.term.specs.Exposure.{can_tick, calls_below}

module _ (t : Table) (sound : Sound t) where
  abbrev D : ℕ
  D = t.sizes.definitions

  calls_kind : (calls lower : ℕ → Process) → ((k : ℕ) → calls_below D (lower k) ≡ true) → (n k : ℕ) → kind_at t n ≡ k → calls_below D (get_or (by_kind calls lower n (p_at t n) (q_at t n)) k idle) ≡ true
  unfolding calls_below
  calls_kind calls lower l n zero e = refl
  calls_kind calls lower l n (suc zero) e = refl
  calls_kind calls lower l n (suc (suc zero)) e = refl
  calls_kind calls lower l n (suc (suc (suc zero))) e = refl
  calls_kind calls lower l n (suc (suc (suc (suc zero)))) e = refl
  calls_kind calls lower l n (suc (suc (suc (suc (suc zero))))) e =
      and_both (calls_below D (lower (p_at t n))) (not (can_tick (lower (p_at t n))) || calls_below D (lower (q_at t n))) (l (p_at t n)) (or_right (not (can_tick (lower (p_at t n)))) (calls_below D (lower (q_at t n))) (l (q_at t n)))
  calls_kind calls lower l n (suc (suc (suc (suc (suc (suc zero)))))) e = and_both (calls_below D (lower (p_at t n))) (calls_below D (lower (q_at t n))) (l (p_at t n)) (l (q_at t n))
  calls_kind calls lower l n (suc (suc (suc (suc (suc (suc (suc zero))))))) e = l (q_at t n)
  calls_kind calls lower l n (suc (suc (suc (suc (suc (suc (suc (suc zero)))))))) e = and_both (calls_below D (lower (p_at t n))) (calls_below D (lower (q_at t n))) (l (p_at t n)) (l (q_at t n))
  calls_kind calls lower l n (suc (suc (suc (suc (suc (suc (suc (suc (suc zero))))))))) e = lt-ltb (p_at t n) D (call_operands t sound n e).0
  calls_kind calls lower l n (suc (suc (suc (suc (suc (suc (suc (suc (suc (suc k)))))))))) e = refl

  pub node_calls : (n : ℕ) → calls_below t.sizes.definitions (node_process t n) ≡ true
  unfolding node_process node_with node_step calls_below
  node_calls =
      below_induct (node_step t (defined t D)) idle (λ (k : ℕ) (P : Process). calls_below D P ≡ true) (first_root t) (λ k. refl)
      (λ n h r. calls_kind (defined t D) (below (node_step t (defined t D)) idle n) r n (kind_at t n) refl)
