-- The step that is to blame where an agent's entry is newer than another's and the key does not wait in it.
use Rattle.std.specs.Prelude.{Bool, false, ◌≡◌, List, ℕ, ◌≤◌, ◌<◌, length, take}
use Rattle.std.proofs.Math.Option.{some}
use Rattle.std.proofs.Math.ListN.{get_elem?}
use Rattle.agreement.specs.Moves.{propagate}
use Rattle.agreement.specs.Machine.{after_steps, Machine, entry_after}

-- of the steps xs from state s, the last one in which a propagates key k: the link from a to b did not hold before it, and a has the same entry since
pub record Blamed {E : Type 0} {newer : E → E → Bool} (M : Machine newer) (s : M.State) (xs : List M.Step) (k a b : ℕ) : Type 0 where
  pub index : ℕ
  pub step : M.Step
  pub there : get_elem? xs index ≡ some step
  pub propagates : (M.turn (after_steps M.next s (take index xs)) step k).move ≡ propagate a
  pub not_linked : (M.turn (after_steps M.next s (take index xs)) step k).link a b ≡ false
  pub last : (j : ℕ) (y : M.Step) → index < j → get_elem? xs j ≡ some y → (M.turn (after_steps M.next s (take j xs)) y k).move ≡ propagate a → ⊥
  pub unchanged : (j : ℕ) → index ≤ j → j ≤ length xs → entry_after M s (take j xs) k a ≡ entry_after M s xs k a
