-- `straus::choices::multi_pow_eight` meets its contract. The invariant: each of the four values is its row's product of powers by
-- the exponents without their k low bits. Assumes nothing.
use mathlib.Core.List.{List}
use Prim.Native.Nat.{◌≤◌}
use Rattle.powers.specs.declared.four.Four.{Four}
use Rattle.straus.specs.Choices.{Choices, choice_of}
use Rattle.straus.specs.MultiPowers.{lane_of}
use Rattle.straus.proofs.Straus.{FourAbove}
use Rattle.straus.proofs.choices.multi_pow_eight.Given as goal

abbrev pub invariant-loop-k : goal.invariant-loop-k
invariant-loop-k l =
    (l.k ≤ 32) × ((columns : List Four) → Choices l.by.modulus 16 (choice_of columns 0) l.low → Choices l.by.modulus 16 (choice_of columns 4) l.high
    → FourAbove l.by.modulus 8 (lane_of columns) l.exponents l.k l.values)
