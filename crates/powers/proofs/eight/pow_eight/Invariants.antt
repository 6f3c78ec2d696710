-- `powers::eight::pow_eight` meets its contract. The invariant: each four is the powers by the exponent without its k low digits.
-- Assumes nothing.
use Prim.Native.Nat.{◌/◌, ◌^◌, ◌<◌}
use Rattle.powers.specs.declared.four.Four.{Four}
use Rattle.powers.specs.Places.{FirstPowers, lanes}
use Rattle.powers.proofs.Windows.{Powers}
use Rattle.powers.proofs.eight.pow_eight.Given as goal

abbrev pub invariant-loop-k : goal.invariant-loop-k
invariant-loop-k l =
    (l.k < 16) × ((x : Four) → FirstPowers l.by.modulus x l.lows → Powers l.by.modulus (l.exponent / 4 ^ l.k) (lanes x) l.low)
    × ((x : Four) → FirstPowers l.by.modulus x l.highs → Powers l.by.modulus (l.exponent / 4 ^ l.k) (lanes x) l.high)
