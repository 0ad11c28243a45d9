-- What a guard comes to: whether it is well defined, and whether it holds.
use Rattle.std.specs.Prelude.{ℕ, Bool, true, false, cond, not, ◌&&◌, ◌||◌, eqb}
use Rattle.std.specs.Int.Signed.{lt_z}
use Rattle.basis.specs.Kinds as kind
use Rattle.value.specs.declared.Truth.{Truth}
use Rattle.value.specs.Values.{Value}
use Rattle.std.specs.Prelude.{None, Some}
use Rattle.value.specs.Values.{signed_of}

abbrev pub truth : Bool → Bool → Truth
truth d h = record { defined = d; holds = h }

-- not well defined, so it doesn't hold either
abbrev pub undefined : Truth
undefined = truth false false

-- equal, less, greater on two words
abbrev pub test_of : ℕ → ℕ → ℕ → Bool
test_of k x y =
    cond (eqb k kind.equal) (eqb x y)
    (cond (eqb k kind.less) (lt_z (signed_of x) (signed_of y))
    (cond (eqb k kind.greater) (lt_z (signed_of y) (signed_of x))
    false))

-- a comparison is well defined, and may hold, only of two present values
abbrev pub compare_values : ℕ → Value → Value → Truth
compare_values k None b = undefined
compare_values k (Some x) None = undefined
compare_values k (Some x) (Some y) = truth true (test_of k x y)

-- not, and, or: each is well defined where all its parts are.
-- Not holds where its part is well defined and doesn't hold; and needs both; or needs one.
abbrev pub connect : ℕ → Truth → Truth → Truth
connect k a b =
    cond (eqb k kind.not) (truth a.defined (a.defined && not a.holds))
    (cond (eqb k kind.and) (truth (a.defined && b.defined) (a.holds && b.holds))
    (cond (eqb k kind.or) (truth (a.defined && b.defined) (a.holds || b.holds))
    undefined))
