use native.Mathlib.Omega.{arith}
use Rattle.lists.proofs.Filling.{filled_eight, filled_start, filled_turn}
use Rattle.combiner.proofs.joining.tabulated.Goals as goal

pub loop-i-init : goal.loop-i-init
loop-i-init g c = λ h computes. filled_start (omega arith)

pub loop-i-preserved : goal.loop-i-preserved
loop-i-preserved g c = λ h computes.
    filled_turn (c.loop-i.invariant h computes) (omega arith) (computes _ _ c.loop-i-test.true c.f.ensures)

pub returns : goal.returns
returns g c = λ h computes. filled_eight (c.loop-i.invariant h computes) (omega arith)
