-- Integers: residues, exact quotients, exponents, and the coefficients a and b of the extractor's formula.
-- Assumes nothing.
use Rattle.std.specs.Prelude.{ℕ, suc, ◌-◌, ◌/◌, ◌%◌, ◌^◌, ℤ, pos, negsuc, neg_ℤ, ◌-ℤ◌, ◌*ℤ◌}
use Rattle.numbers.specs.Inverse.{inverse}

-- the number from 0 to m − 1 that is congruent to the integer k modulo m
unfoldable pub residue : ℕ → ℤ → ℕ
residue m (pos n) = n % m
residue m (negsuc n) = (m - suc n % m) % m

-- the integer k divided by d, for a k that d divides
unfoldable pub quotient : ℤ → ℕ → ℤ
quotient (pos n) d = pos (n / d)
quotient (negsuc n) d = neg_ℤ (pos (suc n / d))

-- v^k mod m for an integer exponent k: a negative power is a power of the inverse
unfoldable pub power : ℕ → ℕ → ℤ → ℕ
power m v (pos n) = v ^ n % m
power m v (negsuc n) = inverse m v ^ suc n % m

-- b of order · a + delta · b = 1: the inverse of delta modulo the order
unfoldable pub bezout_right : ℕ → ℤ → ℤ
bezout_right order delta = pos (inverse order (residue order delta))

-- a of order · a + delta · b = 1, for that b
unfoldable pub bezout_left : ℕ → ℤ → ℤ
bezout_left order delta = quotient (pos 1 -ℤ delta *ℤ bezout_right order delta) order
