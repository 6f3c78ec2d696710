-- `spots::file_spot` meets its contract: 13 is told at the count, and any other number by the fault.
-- Assumes nothing.
use Rattle.spots.proofs.FileFault.{number_told_law}
use Rattle.spots.proofs.file_spot.Goals as goal

pub returns-then-number-eq13 : goal.returns-then-number-eq13
returns-then-number-eq13 c same = number_told_law _ _ _ c.if-number-eq13.true

pub returns : goal.returns
returns c same = c.fault_spot.ensures _ c.if-number-eq13.false same
