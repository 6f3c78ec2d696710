-- `fields::read_u16` meets its contract.
-- Assumes nothing.
use native.Mathlib.Omega.{arith}
use Rattle.fields.proofs.Laws.{number_two}
use Rattle.fields.proofs.read_u16.Goals as goal

pub returns-clause-value : goal.returns-clause-value
returns-clause-value c = omega (arith, c.from_be_bytes.ensures, number_two c.args.s.now c.args.at)
