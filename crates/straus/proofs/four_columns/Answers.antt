use mathlib.Core.Path.{refl}
use native.Mathlib.Omega.{arith}
use Rattle.lists.proofs.Filling.{filled_start, filled_turn, filled_eight}
use Rattle.straus.proofs.four_columns.Goals as goal

pub loop-j-init : goal.loop-j-init
loop-j-init c = filled_start (omega arith)

pub loop-j-preserved : goal.loop-j-preserved
loop-j-preserved c = filled_turn c.loop-j.invariant (omega arith) refl

pub returns : goal.returns
returns c = rw c.splat-columns.ensures at (filled_eight c.loop-j.invariant (omega arith))
