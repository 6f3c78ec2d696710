-- Congruence modulo m, as a record so that its numbers are read off a proof.
-- Assumes nothing.
use Rattle.std.specs.Prelude.{◌≡◌, ℕ, ◌%◌}

-- a and b leave the same remainder modulo m
pub record Cong (m a b : ℕ) : Type 0 where
  pub same : a % m ≡ b % m
