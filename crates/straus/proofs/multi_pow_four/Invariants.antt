-- `straus::multi_pow_four` meets its contract. The invariant: each of the four values is its row's product of powers by the
-- exponents without their k low bits. Assumes nothing.
use Prim.Native.Nat.{◌≤◌}
use Rattle.straus.specs.MultiPowers.{lane_of}
use Rattle.straus.proofs.Straus.{FourAbove}
use Rattle.straus.proofs.multi_pow_four.Given as goal

abbrev pub invariant-loop-k : goal.invariant-loop-k
invariant-loop-k l = (l.k ≤ 32) × FourAbove l.by.modulus l.n (lane_of l.columns) l.exponents l.k l.values
