use native.Mathlib.Omega.{arith}
use Rattle.lists.proofs.Filling.{filled_start, filled_turn, filled_eight}
use Rattle.sigma.specs.Round.{response}
use Rattle.image.proofs.Several.{powers_response}
use Rattle.image.proofs.response.Goals as goal

pub returns-then-side_by_side : goal.returns-then-side_by_side
returns-then-side_by_side c = powers_response _ _ _ _ c.if-h-ne1.true c.mul_powers.ensures

pub loop-j-init : goal.loop-j-init
loop-j-init c = filled_start (omega arith)

pub loop-j-preserved : goal.loop-j-preserved
loop-j-preserved c = filled_turn c.loop-j.invariant (omega arith) c.response_coordinate.ensures

pub returns : goal.returns
unfolding response
returns c = filled_eight c.loop-j.invariant (omega arith)
