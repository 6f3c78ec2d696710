-- The reciprocal by which Barrett's method reduces.
-- Assumes nothing.
use Rattle.std.specs.Prelude.{ℕ, ◌/◌}

-- how often m goes into 2^64 − 1
abbrev pub reciprocal_of : ℕ → ℕ
reciprocal_of m = 18446744073709551615 / m
