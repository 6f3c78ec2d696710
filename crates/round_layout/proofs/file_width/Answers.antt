-- `round_layout::file_width` meets its contract: the version stands in bytes 3 and 4.
-- Assumes nothing.
use Rattle.formats.specs.RoundFile.{challenge_width, file_version}
use Rattle.round_layout.proofs.file_width.Goals as goal

pub returns-clause-value : goal.returns-clause-value
unfolding challenge_width file_version
returns-clause-value c = rw (← c.read_u16.ensures.value) c.width_of.ensures.value
