-- Numbers in decimal: the digits that the library finds, how many there are, and the sign of a word.
-- Assumes nothing.
use Prim.Native.Nat.{ℕ, zero, suc, ◌+◌, ◌-◌, ◌/◌, ◌%◌, ◌^◌, ◌<◌, ◌≤◌}
use mathlib.Core.Logic.{⊎_elim}
use mathlib.Core.Path.{◌≡◌, sym, ap, ◌∙◌}
use lib.IntN.{ℤ, pos, negsuc, nat_abs}
use mathlib.Core.List.{List, [], ◌∷◌, ◌++◌}
use native.Mathlib.Nat.{pow-suc, pow-le-pow_right, mod-lt, mod-eq_of_lt, le-div_iff_mul-le, div-lt_iff_lt-mul}
use native.Mathlib.Omega.{arith}
use lib.ListN.{length, length-append}
use borrow.Author.Tests.{lt-ltb, le-ltb}
use Rattle.basis.proofs.Tests.{lt_or_le}
use Rattle.io.specs.Digits.{hex_digit_ascii, last_digits, IsDigitCount}
use Rattle.lines.specs.Text.{ascii, digits_of, decimal, signed_decimal}
use Rattle.lines.specs.Lines.{value}
use Rattle.lines.specs.Pages.{sign}

-- a number below 10 is one digit; another has a digit after those of its tenth
digits_one : (most n : ℕ) → n < 10 → digits_of (suc most) n ≡ (48 + n) ∷ []
unfolding digits_of
digits_one most n h = rw (digits_of, lt-ltb n 10 h)

digits_more : (most n : ℕ) → 10 ≤ n → digits_of (suc most) n ≡ digits_of most (n / 10) ++ ((48 + n % 10) ∷ [])
unfolding digits_of
digits_more most n h = rw (digits_of, le-ltb n 10 h)

glyph_is : (d : ℕ) → d < 10 → hex_digit_ascii d ≡ 48 + d
glyph_is d h = rw (lt-ltb d 10 h)

tenth : (k n : ℕ) → n < 10 ^ suc k → n / 10 < 10 ^ k
tenth k n h = (div-lt_iff_lt-mul {k = 10} {x = n} {y = 10 ^ k} (omega arith)).1 (rw (pow-suc 10 k) at h)

spells : (k most n : ℕ) → n < most → n < 10 ^ suc k → (0 < k → 10 ^ k ≤ n) → last_digits 10 (suc k) n ≡ digits_of most n
spells k zero n h l m = absurd (omega arith)
spells zero (suc most) n h l m =
    ap (λ (d : ℕ). d ∷ []) (ap hex_digit_ascii (mod-eq_of_lt l) ∙ glyph_is n l) ∙ sym (digits_one most n l)
spells (suc k) (suc most) n h l m =
    let t : 10 ^ suc k ≤ n = m (omega arith) in
    let ten : 10 ≤ n = omega (arith, pow-le-pow_right {n = 10} (omega arith) {i = 1} {j = suc k} (omega arith)) in
    let q : 0 < k → 10 ^ k ≤ n / 10 = λ z. (le-div_iff_mul-le {k = 10} {x = 10 ^ k} {y = n} (omega arith)).1 (rw (pow-suc 10 k) at t) in
    ap (λ (s : List ℕ). s ++ (hex_digit_ascii (n % 10) ∷ [])) (spells k most (n / 10) (omega arith) (tenth (suc k) n l) q)
    ∙ ap (λ (d : ℕ). digits_of most (n / 10) ++ (d ∷ [])) (glyph_is (n % 10) (mod-lt n (omega arith)))
    ∙ sym (digits_more most n ten)

pub decimal_is : (n k : ℕ) → IsDigitCount 10 1 n k → last_digits 10 k n ≡ decimal n
unfolding decimal
decimal_is n zero f = absurd (omega (arith, f.0))
decimal_is n (suc k) f = spells k (suc n) n (omega arith) f.1 (λ z. let p : suc k - 1 ≡ k = omega arith in rw p at (f.2 (omega arith)))

-- a number below a power of ten has as many digits, or fewer
few : (k most n : ℕ) → n < 10 ^ suc k → length (digits_of most n) ≤ suc k
unfolding digits_of
few k zero n l = omega arith
few zero (suc most) n l = rw (digits_one most n l) (omega arith)
few (suc k) (suc most) n l =
    ⊎_elim (λ (h : n < 10). rw (digits_one most n h) (omega arith))
    (λ (h : 10 ≤ n).
    omega (arith, ap length (digits_more most n h), length-append (digits_of most (n / 10)) ((48 + n % 10) ∷ []), few k most (n / 10) (tenth (suc k) n l))) (lt_or_le n 10)

pub decimal_few : (k n : ℕ) → n < 10 ^ suc k → length (decimal n) ≤ suc k
unfolding decimal
decimal_few k n l = few k (suc n) n l

-- the sign of a number, and its digits
pub signed_is : (z : ℤ) {n : ℕ} → n ≡ nat_abs z → sign z ++ decimal n ≡ signed_decimal z
unfolding signed_decimal
signed_is (pos n) e = ap decimal e
signed_is (negsuc n) e = ap (λ (d : ℕ). ascii "-" ++ decimal d) e

-- the sign of a word
pub value_low : (w : ℕ) → w < 2147483648 → value w ≡ decimal w
unfolding signed_decimal
value_low w h = simp (lt-ltb w (2 ^ 31) h)

pub value_high : (w : ℕ) → 2147483648 ≤ w → w < 4294967296 → value w ≡ ascii "-" ++ decimal (4294967295 - w + 1)
unfolding signed_decimal
value_high w l h = simp (le-ltb w (2 ^ 31) l) (ap (λ (n : ℕ). ascii "-" ++ decimal n) (omega arith))
