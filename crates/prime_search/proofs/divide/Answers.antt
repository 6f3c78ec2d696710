use mathlib.Core.Path.{◌≡◌}
use Prim.Native.Nat.{◌+◌, ◌-◌}
use native.Mathlib.Nat.{mod-eq-zero_of_dvd}
use native.Mathlib.Omega.{arith}
use Rattle.prime_search.proofs.Passing.{next_rises, walk_start, walk_found, walk_on, walk_end}
use Rattle.prime_search.proofs.divide.Goals as goal

pub loop-init : goal.loop-init
loop-init c =
    let (good, large, small, none) = c.requires in
    (omega arith, walk_start _ _ _ good large none)

pub next_number-p-requires : goal.next_number-p-requires
next_number-p-requires c = omega (arith, c.loop.invariant.0)

pub nonzero_rem-order : goal.nonzero_rem-order
nonzero_rem-order c =
    let at-loop = c.loop in
    omega (arith, at-loop.invariant.1.large, next_rises at-loop.p at-loop.gaps, c.next_number-p.ensures.0)

pub returns-then-order-p-eq0 : goal.returns-then-order-p-eq0
returns-then-order-p-eq0 c =
    walk_found _ _ _ _ _ _ (omega arith) c.loop.invariant.1 c.next_number-p.ensures.0 c.if-order-p-eq0.true

pub loop-preserved : goal.loop-preserved
loop-preserved c =
    let one_less : 5 - c.loop.counter - 1 ≡ 5 - (c.loop.counter + 1) = omega arith in (
      omega (arith, c.loop.invariant.0, c.next_number-p.ensures.1),
      rw one_less at (walk_on _ _ _ _ _ _ (omega arith) c.loop.invariant.1 c.next_number-p.ensures.0
          (λ whole. c.if-order-p-eq0.false (mod-eq-zero_of_dvd _ whole))),
    )

pub returns : goal.returns
returns c = walk_end _ _ _ _ _ (omega arith) c.loop.invariant.1
