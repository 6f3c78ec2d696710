-- `instance::shape::sheet_length` meets its contract: 20 and 256 and 32 are 308.
-- Assumes nothing.
use native.Mathlib.Omega.{arith}
use Rattle.formats.specs.Sheet.{sheet_length}
use Rattle.instance.proofs.shape.sheet_length.Goals as goal

pub returns-clause-value : goal.returns-clause-value
unfolding sheet_length
returns-clause-value c = omega arith
