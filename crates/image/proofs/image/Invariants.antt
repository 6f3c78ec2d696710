-- `image::image` meets its contract. The invariant: the first i places hold the first i rows, and those beyond hold 0.
-- The measure: how many rows are left. Assumes nothing.
use Prim.Native.Nat.{◌-◌}
use Rattle.lists.proofs.Filling.{Filled}
use Rattle.sigma.specs.Image.{row_image}
use Rattle.sigma.specs.Instance.{table_with}
use Rattle.image.proofs.image.Given as goal

abbrev pub invariant-loop-i : goal.invariant-loop-i
invariant-loop-i l =
    Filled l.initial.values l.rows (row_image (table_with l.h l.entries) l.x) l.values l.i

abbrev pub decreases-loop-i : goal.decreases-loop-i
decreases-loop-i l = l.rows - l.i
