use mathlib.Core.Path.{refl}
use native.Mathlib.Omega.{arith}
use Rattle.lists.proofs.Filling.{filled_start, filled_turn, filled_eight}
use Rattle.sigma.specs.Image.{image}
use Rattle.image.proofs.RowImage.{one_place}
use Rattle.image.proofs.image.Goals as goal

pub returns-then-rows-eq1 : goal.returns-then-rows-eq1
unfolding image
returns-then-rows-eq1 c = one_place _ _ c.if-rows-eq1.true (c.row_product.ensures _ refl)

pub loop-i-init : goal.loop-i-init
loop-i-init c = filled_start (omega arith)

pub loop-i-preserved : goal.loop-i-preserved
loop-i-preserved c =
    filled_turn c.loop-i.invariant (omega arith) (c.row_product-in-loop-i.ensures _ refl)

pub returns : goal.returns
unfolding image
returns c = filled_eight c.loop-i.invariant (omega arith)
