-- `powers::digits::digit_at` meets its contract: two bits are a digit.
-- Assumes nothing.
use mathlib.Core.Path.{ap}
use Prim.Native.Nat.{ℕ, ◌/◌, ◌%◌}
use Rattle.powers.proofs.Exponents.{digit_bits}
use Rattle.powers.proofs.digits.digit_at.Goals as goal

pub returns : goal.returns
returns c = ap (λ (x : ℕ). c.args.exponent / x % 4) (digit_bits c.args.k)
