-- What a step that reaches an agent leaves: a newer entry only while the key waits.
use mathlib.Core.Bool.{Bool}
use mathlib.Core.Path.{◌≡◌}
use Prim.Native.Nat.{ℕ}
use lib.Dec.{T}
use Rattle.agreement.specs.Order.{Order}
use Rattle.agreement.specs.View.{NewerWaits}
use Rattle.agreement.specs.Moves.{propagate, confirm}
use Rattle.agreement.specs.Machine.{Machine}
use Rattle.agreement.proofs.Moves.{propagate_reaches, confirm_reaches}
use Rattle.agreement.proofs.Machine.{view_step}

module _ {E : Type 0} {newer : E → E → Bool} (order : Order E newer) (M : Machine newer) (s : M.State) (x : M.Step) (k a b : ℕ)
    (g : M.Invariant s) (linked : T ((M.turn s x k).link a b)) where
  -- a propagates the key, and b is linked
  pub propagated : (M.turn s x k).move ≡ propagate a → NewerWaits newer (M.view (M.next s x) k) a b
  propagated e = rw (view_step M s x k g, e) (λ n. absurd (propagate_reaches newer order (M.turn s x k).link (M.view s k) a b linked n))

  -- a confirms it
  pub confirmed : (M.turn s x k).move ≡ confirm a → NewerWaits newer (M.view (M.next s x) k) a b × NewerWaits newer (M.view (M.next s x) k) b a
  confirmed e = rw (view_step M s x k g, e) (confirm_reaches newer order (M.turn s x k).link (M.view s k) a b linked)
