-- `powers::four::Four::pow` meets its contract. The invariant: each of the four answers times its square by what is left of the
-- exponent is its power. The measure: what is left of the exponent. Assumes nothing.
use Prim.Native.Nat.{ℕ, ◌%◌, ◌^◌, ◌<◌}
use Rattle.powers.proofs.Lanes.{lane}
use Rattle.powers.proofs.Power.{Kept}
use Rattle.powers.proofs.four.Four.pow.Given as goal

abbrev pub invariant-loop-left : goal.invariant-loop-left
invariant-loop-left l =
    (k : ℕ) → k < 4 → Kept l.by.modulus (lane l.initial.square k ^ l.exponent % l.by.modulus) (lane l.power k) (lane l.square k) l.left

abbrev pub decreases-loop-left : goal.decreases-loop-left
decreases-loop-left l = l.left
