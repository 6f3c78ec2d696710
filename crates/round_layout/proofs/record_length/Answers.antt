-- `round_layout::record_length` meets its contract: at most eight rows and eight columns, and a challenge between them.
-- Assumes nothing.
use native.Mathlib.Omega.{arith}
use Rattle.formats.specs.RoundFile.{record_length}
use Rattle.round_layout.proofs.record_length.Goals as goal

pub returns-clause-value : goal.returns-clause-value
unfolding record_length
returns-clause-value c = omega arith
