-- `fields::read_u8` meets its contract: a number of one byte is the byte.
-- Assumes nothing.
use native.Mathlib.Omega.{arith}
use Rattle.encoding.proofs.Bytes.{number_at_one}
use Rattle.fields.proofs.read_u8.Goals as goal

pub returns-clause-value : goal.returns-clause-value
returns-clause-value c =
    omega (arith, number_at_one c.args.s.now c.args.at)
