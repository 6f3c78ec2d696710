-- `modular::pow_mod` meets its contract. The invariant: the answer so far is below m, and times the square by what is left
-- of the exponent it is the power modulo m. An exponent of 1 that is left is a last turn without its square. The measure: what is left of the exponent. Assumes nothing.
use Prim.Native.Nat.{◌%◌, ◌^◌}
use Rattle.powers.proofs.Power.{Kept}
use Rattle.modular.proofs.pow_mod.Given as goal

abbrev pub invariant-loop-left : goal.invariant-loop-left
invariant-loop-left l = Kept l.m (l.base ^ l.exponent % l.m) l.power l.square l.left

abbrev pub decreases-loop-left : goal.decreases-loop-left
decreases-loop-left l = l.left
