-- `comparison::compare` meets its contract: the mask decides.
-- Assumes nothing.
use Rattle.comparison.proofs.Masks.{compare_mask}
use Rattle.comparison.proofs.compare.Goals as goal

pub returns : goal.returns
returns c = rw (c.verdict_of.ensures, c.differences.ensures) (compare_mask _ _ _)
