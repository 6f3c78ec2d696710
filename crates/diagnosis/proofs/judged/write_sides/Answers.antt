-- `diagnosis::judged::write_sides` meets its contract: the two sides stand in the first places of their arrays.
-- Assumes nothing.
use Rattle.diagnosis.proofs.Pieces.{sides_told}
use Rattle.diagnosis.proofs.judged.write_sides.Goals as goal

pub returns : goal.returns
returns c =
    sides_told _ _ _ c.image-left.ensures (c.expected_image-right.ensures _) c.write_rejected.ensures
