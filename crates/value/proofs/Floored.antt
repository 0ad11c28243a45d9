-- The floored remainder: by a divisor above 0 a number from 0 to the divisor less 1; by one below 0, signs exchanged, the
-- same. So it is the truncated one, and the divisor is added where their signs differ.
-- Assumes nothing.
use Prim.Native.Nat.{ℕ, zero, suc, ◌*◌, ◌-◌, ◌/◌, ◌%◌, ◌<◌, ◌≤◌}
use mathlib.Core.Bool.{true, false, cond}
use mathlib.Core.Logic.{⊎_elim}
use mathlib.Core.Path.{◌≡◌, refl, sym, ap, ◌∙◌}
use native.Mathlib.Nat.{mod-lt, div-add-mod, mul-add-mod_self_left, mod-eq_of_lt}
use native.Mathlib.Omega.{arith}
use borrow.Author.Tests.{le-ltb, lt-ltb}
use lib.IntN.{ℤ, pos, negsuc, neg_ℤ, ◌+ℤ◌, ◌-ℤ◌, ◌*ℤ◌, neg_ℤ-neg_ℤ, neg_ℤ-+ℤ, +ℤ_comm, +ℤ-neg_ℤ_cancel, *ℤ-zero, *ℤ-negsuc, *ℤ_comm}
use lib.Signed.{mag, lt_z, rem_z, shr_z}
use mir.Syntax.{w32}
use mir.Val.{SFits}
use Rattle.basis.proofs.Tests.{not_both, lt_or_le}
use Rattle.value.specs.Values.{in_range, is_zero, floor_rem}
use Rattle.value.proofs.Words.{in_range_lem}

-- signs in a product
pub times_neg : (y q : ℤ) → y *ℤ neg_ℤ q ≡ neg_ℤ (y *ℤ q)
times_neg y (pos zero) = *ℤ-zero y ∙ sym (ap neg_ℤ (*ℤ-zero y))
times_neg y (pos (suc n)) = *ℤ-negsuc y n
times_neg y (negsuc n) = sym (ap neg_ℤ (*ℤ-negsuc y n) ∙ neg_ℤ-neg_ℤ (y *ℤ pos (suc n)))

pub neg_times : (y q : ℤ) → neg_ℤ y *ℤ q ≡ neg_ℤ (y *ℤ q)
neg_times y q = *ℤ_comm (neg_ℤ y) q ∙ times_neg q y ∙ ap neg_ℤ (*ℤ_comm q y)

-- what is left of x = p + r without p
pub rest_of : {x : ℤ} (p r : ℤ) → x ≡ p +ℤ r → x -ℤ p ≡ r
rest_of p r e = ap (λ z. z -ℤ p) (e ∙ +ℤ_comm p r) ∙ +ℤ-neg_ℤ_cancel r p

-- BY A DIVISOR ABOVE 0
pub of_pos : (a b : ℕ) → floor_rem (pos a) (pos (suc b)) ≡ pos (a % suc b)
of_pos a b = rest_of (pos (suc b * (a / suc b))) (pos (a % suc b)) (ap pos (sym (div-add-mod a (suc b))))

of_neg : (a b : ℕ) → floor_rem (negsuc a) (pos (suc b)) ≡ pos (b - a % suc b)
of_neg a b =
    let e = div-add-mod a (suc b) in
    let l = mod-lt a {m = suc b} (omega arith) in
    ap (λ z. negsuc a +ℤ z) (neg_ℤ-neg_ℤ (pos (suc b * suc (a / suc b))))
    ∙ rw (le-ltb (suc b * suc (a / suc b)) (suc a) (omega arith)) (ap pos (omega arith))

pub above_is : (x : ℤ) (b : ℕ) → (c : ℕ) × (c < suc b) × (floor_rem x (pos (suc b)) ≡ pos c)
above_is (pos a) b = (a % suc b, mod-lt a (omega arith), of_pos a b)
above_is (negsuc a) b = (b - a % suc b, omega arith, of_neg a b)

-- the truncated remainder of the next number
next_less : (a b : ℕ) → a % suc b < b → suc a % suc b ≡ suc (a % suc b)
next_less a b l =
    let e = div-add-mod a (suc b) in
    ap (λ (n : ℕ). n % suc b) (omega arith) ∙ mul-add-mod_self_left (suc b) (a / suc b) (suc (a % suc b)) ∙ mod-eq_of_lt (omega arith)

next_last : (a b : ℕ) → b ≤ a % suc b → suc a % suc b ≡ 0
next_last a b l =
    let e = div-add-mod a (suc b) in
    let m = mod-lt a {m = suc b} (omega arith) in
    ap (λ (n : ℕ). n % suc b) (omega arith) ∙ mul-add-mod_self_left (suc b) (suc (a / suc b)) 0 ∙ mod-eq_of_lt (omega arith)

-- the divisor added to a rest below 0
abbrev raised : ℤ → ℤ → ℤ
raised y r = cond (lt_z r (pos 0)) (r +ℤ y) r

above : (x : ℤ) (b : ℕ) → floor_rem x (pos (suc b)) ≡ raised (pos (suc b)) (rem_z x (pos (suc b)))
above (pos a) b = rw (le-ltb (a % suc b) 0 (omega arith)) (of_pos a b)
above (negsuc a) b =
    of_neg a b ∙ ⊎_elim
    (λ l. rw (next_less a b l, le-ltb (suc b) (suc (a % suc b)) (omega arith)) (ap pos (omega arith)))
    (λ l. rw (next_last a b l) (ap pos (omega arith))) (lt_or_le (a % suc b) b)

-- BY A DIVISOR BELOW 0
pub exchanged : (x : ℤ) (b : ℕ) → floor_rem x (negsuc b) ≡ neg_ℤ (floor_rem (neg_ℤ x) (pos (suc b)))
exchanged x b =
    let p = pos (suc b) *ℤ shr_z (neg_ℤ x) (suc b) in
    ap (λ z. x -ℤ z) (neg_times (pos (suc b)) (shr_z (neg_ℤ x) (suc b))) ∙ sym (neg_ℤ-+ℤ (neg_ℤ x) (neg_ℤ p) ∙ ap (λ z. z +ℤ neg_ℤ (neg_ℤ p)) (neg_ℤ-neg_ℤ x))

rem_neg : (x : ℤ) (b : ℕ) → rem_z (neg_ℤ x) (pos (suc b)) ≡ neg_ℤ (rem_z x (negsuc b))
rem_neg (pos zero) b = rw (mod-eq_of_lt {n = 0} {m = suc b} (omega arith))
rem_neg (pos (suc a)) b = refl
rem_neg (negsuc a) b = sym (neg_ℤ-neg_ℤ (pos (suc a % suc b)))

-- the divisor added to a rest above 0
abbrev lowered : ℤ → ℤ → ℤ
lowered y r = cond (lt_z (pos 0) r) (r +ℤ y) r

lowered_is : (b : ℕ) (r : ℤ) → neg_ℤ (raised (pos (suc b)) (neg_ℤ r)) ≡ lowered (negsuc b) r
lowered_is b (pos zero) = refl
lowered_is b (pos (suc c)) = rw (lt-ltb 0 (suc c) (omega arith)) (neg_ℤ-+ℤ (negsuc c) (pos (suc b)))
lowered_is b (negsuc c) = rw (le-ltb (suc c) 0 (omega arith))

-- BY EITHER
pub floored : (x y : ℤ) → is_zero y ≡ false → floor_rem x y ≡ cond (lt_z y (pos 0)) (lowered y (rem_z x y)) (raised y (rem_z x y))
floored x (pos zero) h = absurd (not_both refl h)
floored x (pos (suc b)) h = rw (le-ltb (suc b) 0 (omega arith)) (above x b)
floored x (negsuc b) h =
    exchanged x b ∙ ap neg_ℤ (above (neg_ℤ x) b) ∙ ap (λ r. neg_ℤ (raised (pos (suc b)) r)) (rem_neg x b) ∙ lowered_is b (rem_z x (negsuc b))

mag_neg : (r : ℕ) → mag (neg_ℤ (pos r)) ≤ r
mag_neg zero = omega arith
mag_neg (suc r) = omega arith

-- so it is no farther from 0 than the divisor
floor_mag : (x y : ℤ) → is_zero y ≡ false → mag (floor_rem x y) ≤ mag y
floor_mag x (pos zero) e = absurd (not_both refl e)
floor_mag x (pos (suc b)) e = let w = above_is x b in rw w.2 (omega (arith, w.1))
floor_mag x (negsuc b) e = let w = above_is (neg_ℤ x) b in rw (exchanged x b, w.2) (omega (arith, mag_neg w.0, w.1))

-- and fits where the divisor does
pub floor_fits : (x y : ℤ) → is_zero y ≡ false → SFits w32 y → SFits w32 (floor_rem x y)
floor_fits x y e f = record { sfits = omega (arith, floor_mag x y e, f.sfits) }

pub floor_in_range : (x y : ℤ) → is_zero y ≡ false → SFits w32 y → in_range (floor_rem x y) ≡ true
floor_in_range x y e f = (in_range_lem (floor_rem x y)).1 (floor_fits x y e f).sfits
