-- `comparison::differ` meets its contract: the lists differ exactly where the first difference stands before n.
-- Assumes nothing.
use Rattle.sigma.specs.Comparison.{differ}
use Rattle.comparison.proofs.differ.Goals as goal

pub returns : goal.returns
unfolding differ
returns c = rw c.first_difference.ensures.value
