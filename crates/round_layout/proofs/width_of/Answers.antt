-- `round_layout::width_of` meets its contract: by the two cases of the definition.
-- Assumes nothing.
use borrow.Author.Tests.{ne_eqb}
use Rattle.formats.specs.RoundFile.{width_of}
use Rattle.round_layout.proofs.width_of.Goals as goal

pub returns-then-version-eq2-clause-value : goal.returns-then-version-eq2-clause-value
unfolding width_of
returns-then-version-eq2-clause-value c = rw c.if-version-eq2.true

pub returns-else-version-eq2-clause-value : goal.returns-else-version-eq2-clause-value
unfolding width_of
returns-else-version-eq2-clause-value c = rw (ne_eqb _ _ c.if-version-eq2.false)
