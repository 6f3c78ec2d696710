-- `reason_lines::write_sides` meets its contract: the row and its two sides stand one after the other.
-- Assumes nothing.
use Rattle.encoding.specs.Text.{ascii}
use Rattle.reason_lines.proofs.Pieces.{sides_fitted}
use Rattle.reason_lines.proofs.write_sides.Goals as goal

pub returns : goal.returns
unfolding ascii
returns c =
    sides_fitted _ _ _ c.write_numbered-first.ensures c.write_numbered-second.ensures c.write_numbered.ensures
