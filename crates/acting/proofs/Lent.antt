-- An agent's residual is lent to `rewrite` as a part of the state: what that asks and leaves.
-- Assumes nothing.
use Prim.Native.Nat.{ℕ, ◌≤◌}
use mathlib.Core.Path.{◌≡◌, refl}
use mathlib.Core.List.{List, ◌++◌}
use native.Mathlib.Omega.{arith}
use lib.ListN.{length, set, take, drop}
use Rattle.table.specs.Tables.{Table}
use Rattle.term.specs.Processes.{derivation_at, process}
use Rattle.term.specs.Terms.{words}
use Rattle.residual.specs.Wholes.{Whole, Taking, Rewritten, residual_term}
use Rattle.state.specs.Layout.{residual_at, residual_words, length_at, length_of, residual_of}
use Rattle.state.proofs.Residuals.{residual_length}
use Rattle.steps.specs.Acts.{chosen, leave}
use Rattle.steps.proofs.Leave.{leave_part}
use Rattle.judging.proofs.Wholes.{formed_short, formed_whole}
use Rattle.acting.specs.Acting.{Leaving}

-- what `rewrite` asks of words and their number
abbrev pub Lends : Table → ℕ → ℕ → List ℕ → Type 0
Lends t c size ws =
    (size ≤ length ws) × (Whole t (take size ws) × (Taking t (residual_term (take size ws)) c × (length (words (derivation_at (process t (residual_term (take size ws))) c).leaving) ≤ length ws)))

module _ (t : Table) (s : List ℕ) (x c : ℕ) (l : Leaving t s x c) where
  long : length (residual_of s x) ≡ residual_words
  long = residual_length s x l.blocks l.agent

  -- so many words from a place on are its residual
  module _ (at n size : ℕ) (begins : at ≡ residual_at x) (all : n ≡ residual_words) (sized : size ≡ length_of s x) where
    pub lends : Lends t c size (take n (drop at s))
    lends =
        rw (begins, all, sized) (
          omega (arith, long, formed_short t s x l.formed),
          (formed_whole t s x l.blocks l.agent l.formed (take (length_of s x) (residual_of s x)) refl, (record { few = l.few; choice = l.there }, omega (arith, long, l.short))),
        )

    module _ (r : ℕ) (out : List ℕ) (w : Rewritten (words (derivation_at (process t (residual_term (take size (take n (drop at s))))) c).leaving) (take n (drop at s)) r out) where
      back : Rewritten (words (chosen t s x c).leaving) (residual_of s x) r out
      back = rw (begins, all, sized) at w

      pub left_size : r ≤ residual_words
      left_size = omega (arith, back.size, l.short)

      -- the part and the length, as they come back
      pub left : (place : ℕ) → place ≡ length_at x → set (take at s ++ (out ++ drop n (drop at s))) place r ≡ leave x (words (chosen t s x c).leaving) s
      left place e =
          rw (begins, all, e, back.size, back.words, long) (leave_part x (words (chosen t s x c).leaving) s l.blocks l.agent l.short)
