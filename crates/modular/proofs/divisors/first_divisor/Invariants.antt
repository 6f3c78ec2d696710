-- `modular::first_divisor` meets its contract. The invariant: no number before d divides order, and d is 2 or odd.
-- The measure: how many numbers are left. Assumes nothing.
use Prim.Native.Nat.{◌-◌}
use Rattle.modular.specs.Divisor.{Candidate}
use Rattle.modular.proofs.divisors.first_divisor.Given as goal

abbrev pub invariant-loop-d : goal.invariant-loop-d
invariant-loop-d l = Candidate l.order l.d

abbrev pub decreases-loop-d : goal.decreases-loop-d
decreases-loop-d l = l.challenges - l.d
