use mathlib.Core.Path.{ap}
use native.Mathlib.Nat.{mod-eq-zero_of_dvd}
use native.Mathlib.Omega.{arith}
use Rattle.modular.specs.Divisor.{divisor_outcome}
use Rattle.modular.proofs.FirstDivisor.{divisor_found, divisor_nothing}
use Rattle.modular.proofs.divisors.first_divisor.Goals as goal

pub next_candidate-d-requires : goal.next_candidate-d-requires
next_candidate-d-requires c =
    (c.loop-d.invariant, (λ whole. c.if-order-d-eq0.false (mod-eq-zero_of_dvd _ whole)), omega arith)

pub returns-then-d-challenges : goal.returns-then-d-challenges
returns-then-d-challenges c = ap divisor_outcome (divisor_nothing _ _ _ c.if-d-challenges.true c.loop-d.invariant.none)

pub returns-then-order-d-eq0 : goal.returns-then-order-d-eq0
returns-then-order-d-eq0 c =
    let candidate = c.loop-d.invariant in
    ap divisor_outcome (divisor_found _ _ _ candidate.large c.if-d-challenges.false c.if-order-d-eq0.true candidate.none)
