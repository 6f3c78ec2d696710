-- `or_extractor::loaded::extracted` meets its contract: eight zeros are written out.
-- Assumes nothing.
use Rattle.lists.specs.Places.{zeros8}
use Rattle.or_extractor.proofs.loaded.extracted.Goals as goal

pub returns-in-Err : goal.returns-in-Err
unfolding zeros8
returns-in-Err c = rw (c.in-Err.is, c.number.ensures)
