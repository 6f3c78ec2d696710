-- `round_file::calls::part` meets its contract: the place of a round lies inside the file.
-- Assumes nothing.
use native.Mathlib.Omega.{arith}
use Rattle.round_file.proofs.FileReading.{part_placed, place_within}
use Rattle.round_file.proofs.calls.part.Goals as goal

pub overflow_add-end : goal.overflow_add-end
overflow_add-end c = omega (arith, place_within _ _ _ c.locate-found.ensures)

pub slice_bounds-result-end : goal.slice_bounds-result-end
slice_bounds-result-end c = omega (arith, place_within _ _ _ c.locate-found.ensures)

pub returns : goal.returns
returns c = part_placed _ _ _ c.locate-found.ensures
