use mathlib.Core.Path.{refl}
use native.Mathlib.Omega.{arith}
use Rattle.comparison.proofs.Masks.{marked_none, marked_on, marked_small}
use Rattle.comparison.proofs.differences.Goals as goal

pub loop-i-init : goal.loop-i-init
loop-i-init c = marked_none _ _ _

pub marked-mask-requires : goal.marked-mask-requires
marked-mask-requires c = (marked_small _ _ _ _ _ _ (omega arith) c.loop-i.invariant).0

pub loop-i-preserved : goal.loop-i-preserved
loop-i-preserved c =
    marked_on _ _ _ _ _ _ c.loop-i-test.true refl refl c.marked-mask.ensures c.loop-i.invariant
