-- `fields::read_u32` meets its contract.
-- Assumes nothing.
use native.Mathlib.Omega.{arith}
use Rattle.fields.proofs.Laws.{number_four}
use Rattle.fields.proofs.read_u32.Goals as goal

pub returns : goal.returns
returns c = record { value = omega (arith, c.from_be_bytes.ensures, number_four c.args.s.now c.args.at) }
