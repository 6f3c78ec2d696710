-- `round_layout::unknown_version` meets its contract: by the two tests of the definition.
-- Assumes nothing.
use borrow.Author.Tests.{ne_eqb}
use Rattle.formats.specs.RoundFile.{unknown_version}
use Rattle.round_layout.proofs.unknown_version.Goals as goal

pub returns-then-version-ne1 : goal.returns-then-version-ne1
unfolding unknown_version
returns-then-version-ne1 c = rw (ne_eqb _ _ c.if-version-ne1.true)

pub returns-else-version-ne1 : goal.returns-else-version-ne1
unfolding unknown_version
returns-else-version-ne1 c = rw c.if-version-ne1.false
