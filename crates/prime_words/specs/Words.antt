-- A table of primes, five to a word with the inverse of their product, and the test that it leaves none out.
-- Assumes nothing.
use Rattle.std.specs.Prelude.{ℕ, zero, suc, ◌+◌, ◌*◌, ◌-◌, ◌/◌, ◌%◌, ◌≤◌, Bool, true, false, List, [], ◌∷◌, T, eqb, leb, length, ◌≡◌}

-- ---- the numbers of a word: 6 bits for each say how far it is from the one before, halved, the first in the lowest bits

-- the number that comes after a
unfoldable pub next : ℕ → ℕ → ℕ
next a gaps = a + 2 * (gaps % 64)

-- the last of the n numbers after a
unfoldable pub last : ℕ → ℕ → ℕ → ℕ
last zero a gaps = a
last (suc n) a gaps = last n (next a gaps) (gaps / 64)

-- the product of the n numbers after a
unfoldable pub product : ℕ → ℕ → ℕ → ℕ
product zero a gaps = 1
product (suc n) a gaps = next a gaps * product n (next a gaps) (gaps / 64)

-- what the product of a word's five numbers has as its inverse modulo 2^32
unfoldable pub inverse : ℕ → ℕ
inverse e = e / 4294967296

-- ---- the test of a table

-- both tests pass; one of two tests passes
unfoldable pub both : Bool → Bool → Bool
both true b = b
both false b = false

unfoldable pub either : Bool → Bool → Bool
either true b = true
either false b = b

-- the primes below 256
unfoldable pub small : List ℕ
small = 2 ∷ 3 ∷ 5 ∷ 7 ∷ 11 ∷ 13 ∷ 17 ∷ 19 ∷ 23 ∷ 29 ∷ 31 ∷ 37 ∷ 41 ∷ 43 ∷ 47 ∷ 53 ∷ 59 ∷ 61 ∷ 67 ∷ 71 ∷ 73 ∷ 79 ∷ 83 ∷ 89 ∷ 97
    ∷ 101 ∷ 103 ∷ 107 ∷ 109 ∷ 113 ∷ 127 ∷ 131 ∷ 137 ∷ 139 ∷ 149 ∷ 151 ∷ 157 ∷ 163 ∷ 167 ∷ 173 ∷ 179 ∷ 181 ∷ 191 ∷ 193 ∷ 197 ∷ 199
    ∷ 211 ∷ 223 ∷ 227 ∷ 229 ∷ 233 ∷ 239 ∷ 241 ∷ 251 ∷ []

-- s is a factor of d that lies from 2 to a
unfoldable pub is_factor : ℕ → ℕ → ℕ → Bool
is_factor a d s = both (leb 2 s) (both (leb s a) (eqb (d % s) 0))

-- one of the numbers listed is such a factor
unfoldable pub has_factor : List ℕ → ℕ → ℕ → Bool
has_factor [] a d = false
has_factor (s ∷ ss) a d = let later = has_factor ss a d in either (is_factor a d s) later

-- each of the n numbers from d on has a factor that lies from 2 to a
unfoldable pub all_factored : ℕ → ℕ → ℕ → Bool
all_factored zero d a = true
all_factored (suc n) d a = both (has_factor small a d) (all_factored n (suc d) a)

-- each number between a and b has a factor that lies from 2 to a
unfoldable pub clear : ℕ → ℕ → Bool
clear a b = all_factored (b - suc a) (suc a) a

-- each number that a and the n numbers after it leave out has a factor that lies from 2 to the number before it
unfoldable pub all_clear : ℕ → ℕ → ℕ → Bool
all_clear zero a gaps = true
all_clear (suc n) a gaps = both (clear a (next a gaps)) (all_clear n (next a gaps) (gaps / 64))

-- the five numbers of a word after a leave none out, they are below 65,536, and the inverse is that of their product
unfoldable pub is_good : ℕ → ℕ → Bool
is_good a e =
    both (all_clear 5 a e) (both (leb (last 5 a e) 65535) (eqb (product 5 a e * inverse e % 4294967296) 1))

-- the words after a are good, and each number from the last one on to 65,536 has a smaller factor
unfoldable pub all_good : ℕ → List ℕ → Bool
all_good a [] = clear a 65537
all_good a (e ∷ es) = both (is_good a e) (all_good (last 5 a e) es)

-- a table of 1,308 words that are good after 3
abbrev pub Table : List ℕ → Type 0
Table es = T (all_good 3 es) × (length es ≡ 1308)

-- ---- what the test says

-- the last number of the first k words after a
unfoldable pub before : ℕ → List ℕ → ℕ → ℕ
before a es zero = a
before a [] (suc k) = a
before a (e ∷ es) (suc k) = before (last 5 a e) es k

-- what holds of a good word after a
pub record Good (a e : ℕ) : Type 0 where
  pub clears : T (all_clear 5 a e)
  pub low : last 5 a e ≤ 65535
  pub inverts : product 5 a e * inverse e % 4294967296 ≡ 1
