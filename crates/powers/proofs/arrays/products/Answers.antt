use native.Mathlib.Omega.{arith}
use Rattle.lists.proofs.Filling.{filled_start, filled_turn, filled_eight}
use Rattle.powers.specs.Places.{products_of}
use Rattle.powers.proofs.arrays.products.Goals as goal

pub loop-i-init : goal.loop-i-init
loop-i-init c = filled_start (omega arith)

pub loop-i-preserved : goal.loop-i-preserved
loop-i-preserved c = filled_turn c.loop-i.invariant (omega arith) (rw c.new-by.ensures at c.mul.ensures)

pub returns : goal.returns
unfolding products_of
returns c = filled_eight c.loop-i.invariant (omega arith)
