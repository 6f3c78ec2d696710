-- `converter::converting::other_length` meets its contract: the records end where the next would begin.
-- Assumes nothing.
use native.Mathlib.Omega.{arith}
use Rattle.formats.specs.RoundFile.{count_field}
use Rattle.formats.proofs.Growing.{file_long}
use Rattle.converter.proofs.converting.other_length.Goals as goal

pub other_version-requires : goal.other_version-requires
other_version-requires c = record { long = file_long c.requires.file }

pub read_u16-count-requires : goal.read_u16-count-requires
read_u16-count-requires c = record { within = file_long c.requires.file }

pub record_start-requires : goal.record_start-requires
unfolding count_field
record_start-requires c = omega (arith, c.requires.file.few)

pub returns : goal.returns
unfolding count_field
returns c =
    rw (c.record_start.ensures.value, c.width_of-width.ensures.value, c.other_version.ensures, c.read_u16-count.ensures.value)
