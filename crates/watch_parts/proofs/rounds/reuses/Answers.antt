-- `watch_parts::rounds::reuses` meets its contract: the commitments are tested first, and then the challenges.
-- Assumes nothing.
use mathlib.Core.Path.{sym}
use Rattle.watches.specs.Watch.{reuses}
use Rattle.watch_parts.proofs.rounds.reuses.Goals as goal

pub returns-then-not-differ : goal.returns-then-not-differ
unfolding reuses
returns-then-not-differ c = rw (sym c.differ.ensures, c.if-not-differ.true)

pub returns-else-not-differ : goal.returns-else-not-differ
unfolding reuses
returns-else-not-differ c = rw (sym c.differ.ensures, c.if-not-differ.false)
