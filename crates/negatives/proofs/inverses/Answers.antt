use native.Mathlib.Omega.{arith}
use Rattle.lists.proofs.Filling.{filled_start, filled_turn, filled_eight}
use Rattle.negatives.specs.Negative.{inverses_of}
use Rattle.negatives.proofs.inverses.Goals as goal

pub loop-i-init : goal.loop-i-init
loop-i-init c = filled_start (omega arith)

pub loop-i-preserved : goal.loop-i-preserved
loop-i-preserved c = filled_turn c.loop-i.invariant (omega arith) c.inverse.ensures.value

pub returns : goal.returns
unfolding inverses_of
returns c = filled_eight c.loop-i.invariant (omega arith)
