-- `converter::records::other_version` meets its contract: by the two cases of the definition.
-- Assumes nothing.
use borrow.Author.Tests.{ne_eqb}
use Rattle.formats.specs.Convert.{other_version}
use Rattle.formats.specs.RoundFile.{file_version}
use Rattle.converter.proofs.records.other_version.Goals as goal

pub returns-then-read_u16-eq1 : goal.returns-then-read_u16-eq1
unfolding other_version file_version
returns-then-read_u16-eq1 c = rw (← c.read_u16.ensures.value, c.if-read_u16-eq1.true)

pub returns-else-read_u16-eq1 : goal.returns-else-read_u16-eq1
unfolding other_version file_version
returns-else-read_u16-eq1 c = rw (← c.read_u16.ensures.value, ne_eqb _ _ c.if-read_u16-eq1.false)
