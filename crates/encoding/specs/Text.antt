-- Text as bytes: words in ASCII, and numbers in decimal.
-- Assumes nothing.
use Prim.Native.Char.{code}
use Rattle.std.specs.Prelude.{ℕ, zero, suc, ◌+◌, ◌-◌, ◌*◌, ◌/◌, ◌%◌, ◌≤◌, true, false, List, [], ◌∷◌, ◌++◌, ltb}
use Prim.Native.String.{String}
use Prim.Native.String as String

-- the bytes of a word
unfoldable pub ascii : String → List ℕ
ascii String.[] = []
ascii (String.◌∷◌ letter letters) = code letter ∷ ascii letters

-- the digits of n, cut to the last `most` + 1
unfoldable pub digits : ℕ → ℕ → List ℕ
digits zero n = (48 + n % 10) ∷ []
digits (suc most) n = elim (ltb n 10) [ true ↦ (48 + n) ∷ [] | false ↦ digits most (n / 10) ++ (48 + n % 10) ∷ [] ]

-- the bytes of n in decimal, without leading zeros; a number has at most as many digits as its value, or one
unfoldable pub decimal : ℕ → List ℕ
decimal n = digits n n

-- the number whose decimal digits are those of `high` and then these
unfoldable pub from_digits : ℕ → List ℕ → ℕ
from_digits high [] = high
from_digits high (digit ∷ rest) = from_digits (high * 10 + (digit - 48)) rest

-- every byte is an ASCII digit
abbrev pub AllDigits : List ℕ → Type 0
AllDigits [] = Unit {0}
AllDigits (digit ∷ rest) = (48 ≤ digit) × (digit ≤ 57) × AllDigits rest
