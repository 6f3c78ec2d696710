-- `modular::gcd` meets its contract. The invariant: the two numbers in hand have the greatest common divisor of a and b.
-- The measure: the second number. Assumes nothing.
use mathlib.Core.Path.{◌≡◌}
use Rattle.numbers.specs.Gcd.{gcd}
use Rattle.modular.proofs.gcd.Given as goal

abbrev pub invariant-loop-y : goal.invariant-loop-y
invariant-loop-y l = gcd l.x l.y ≡ gcd l.a l.b

abbrev pub decreases-loop-y : goal.decreases-loop-y
decreases-loop-y l = l.y
