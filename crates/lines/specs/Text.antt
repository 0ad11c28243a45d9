-- Text as bytes: ASCII, numbers in decimal, and lines.
use Rattle.std.specs.Prelude.{ℕ, zero, suc, ◌+◌, ◌/◌, ◌%◌, true, false, List, [], ◌∷◌, ◌++◌, ltb, ℤ, pos, negsuc}
use Prim.Native.Char.{code}
use Prim.Native.String.{String, [] as empty, ◌∷◌ as ◌then◌}

-- the codes of a text's characters
abbrev pub ascii : String → List ℕ
ascii empty = []
ascii (c then text) = code c ∷ ascii text

-- the digits of a number, the most significant first, without leading zeros; `most` is at least their number
unfoldable pub digits_of : ℕ → ℕ → List ℕ
digits_of zero n = []
digits_of (suc most) n = elim (ltb n 10) [ true ↦ (48 + n) ∷ [] | false ↦ digits_of most (n / 10) ++ ((48 + n % 10) ∷ []) ]

unfoldable pub decimal : ℕ → List ℕ
decimal n = digits_of (suc n) n

-- a minus sign before the digits of a number below 0 (`negsuc n` is -(n + 1))
unfoldable pub signed_decimal : ℤ → List ℕ
signed_decimal (pos n) = decimal n
signed_decimal (negsuc n) = ascii "-" ++ decimal (suc n)

-- each part after a space, and a newline
unfoldable pub spaced : List (List ℕ) → List ℕ
spaced [] = ascii "\n"
spaced (part ∷ parts) = (ascii " " ++ part) ++ spaced parts

-- a line: its name and its parts
unfoldable pub line : List ℕ → List (List ℕ) → List ℕ
line name parts = name ++ spaced parts

-- the texts of the numbers below n, in ascending order
unfoldable pub each_below : (ℕ → List ℕ) → ℕ → List ℕ
each_below text zero = []
each_below text (suc n) = each_below text n ++ text n
