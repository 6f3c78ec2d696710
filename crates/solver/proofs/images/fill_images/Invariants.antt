-- `solver::images::fill_images` meets its contract. The invariant: the first j places hold the first j values.
-- Assumes nothing.
use Rattle.lists.proofs.Filling.{Filled}
use Rattle.solver.proofs.ImageTable.{image_value}
use Rattle.solver.proofs.images.fill_images.Given as goal

abbrev pub invariant-loop-j : goal.invariant-loop-j
invariant-loop-j l = Filled l.initial.table l.values (image_value l.h l.entries) l.table l.j
