-- `image::row_product` meets its contract. The invariant: the value is the product of the factors of the columns passed, modulo m.
-- The measure: how many columns are left. Assumes nothing.
use mathlib.Core.Path.{◌≡◌}
use Prim.Native.Nat.{◌-◌, ◌≤◌}
use Rattle.image.proofs.RowImage.{row_product}
use Rattle.image.proofs.row_product.Given as goal

abbrev pub invariant-loop-j : goal.invariant-loop-j
invariant-loop-j l = (l.j ≤ l.columns) × (l.value ≡ row_product l.h l.row l.x l.j)

abbrev pub decreases-loop-j : goal.decreases-loop-j
decreases-loop-j l = l.columns - l.j
