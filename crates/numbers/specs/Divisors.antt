-- Numbers without small divisors, as 01's refusal 8 leaves an order.
-- Assumes nothing.
use Rattle.std.specs.Prelude.{ℕ, ◌≤◌, ◌<◌}
use Rattle.std.specs.Int.{◌∣◌}

-- no d with 2 ≤ d < bound divides n
abbrev pub NoDivisorBelow : ℕ → ℕ → Type 0
NoDivisorBelow n bound = (d : ℕ) → 2 ≤ d → d < bound → ¬ (d ∣ n)
