-- `round_writer::record::wide_challenge` meets its contract: by the two tests of the definition.
-- Assumes nothing.
use borrow.Author.Tests.{ne_eqb}
use Rattle.formats.specs.Append.{wide_challenge}
use Rattle.round_writer.proofs.record.wide_challenge.Goals as goal

pub returns-then-version-eq2 : goal.returns-then-version-eq2
unfolding wide_challenge
returns-then-version-eq2 c = rw c.if-version-eq2.true

pub returns-else-version-eq2 : goal.returns-else-version-eq2
unfolding wide_challenge
returns-else-version-eq2 c = rw (ne_eqb _ _ c.if-version-eq2.false)
