-- `powers::digits::bit_length` meets its contract: what the leading zeros leave of 32 bits holds v.
-- Assumes nothing.
use Rattle.powers.proofs.Exponents.{length_holds}
use Rattle.powers.proofs.digits.bit_length.Goals as goal

pub returns : goal.returns
returns c = length_holds c.args.v c.ranges.v.fits
