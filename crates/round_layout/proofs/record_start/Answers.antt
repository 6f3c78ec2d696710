-- `round_layout::record_start` meets its contract: at most 512 records of at most 68 bytes stand before a record.
-- Assumes nothing.
use Rattle.formats.specs.RoundFile.{record_start}
use Rattle.round_layout.proofs.record_start.Goals as goal

pub returns-clause-value : goal.returns-clause-value
unfolding record_start
returns-clause-value c = rw c.record_length.ensures.value
