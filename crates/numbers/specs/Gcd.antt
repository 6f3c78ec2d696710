-- The greatest common divisor, by Euclid's algorithm, and what the words mean.
-- Assumes nothing.
use Rattle.std.specs.Prelude.{ℕ, zero, suc, ◌%◌, true, false, eqb}
use Rattle.std.specs.Int.{◌∣◌}

-- Euclid's algorithm in at most n steps
unfoldable pub euclid : ℕ → ℕ → ℕ → ℕ
euclid zero a b = a
euclid (suc n) a b = elim (eqb b 0) [ true ↦ a | false ↦ euclid n b (a % b) ]

-- gcd(a, b); the second number falls at each step, so b + 1 steps are enough
unfoldable pub gcd : ℕ → ℕ → ℕ
gcd a b = euclid (suc b) a b

-- g is the greatest common divisor of a and b
pub record IsGcd (a b g : ℕ) : Type 0 where
  pub left : g ∣ a
  pub right : g ∣ b
  pub greatest : (d : ℕ) → d ∣ a → d ∣ b → d ∣ g
