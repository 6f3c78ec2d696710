-- `powers::digits::top_digit` meets its contract: as many digits as hold all bits.
-- Assumes nothing.
use native.Mathlib.Omega.{arith}
use Rattle.powers.proofs.Exponents.{digits_hold}
use Rattle.powers.proofs.digits.top_digit.Goals as goal

pub returns : goal.returns
returns c =
    let bits = c.bit_length in
    (omega (arith, bits.ensures.0), digits_hold _ _ _ bits.ensures.1 (omega arith))
