use mathlib.Core.Path.{ap, sym}
use native.Mathlib.Omega.{arith}
use lib.Dec.{ltb}
use borrow.Author.Tests.{lt-ltb}
use Rattle.powers.proofs.Bounded.{power_above_early, small_power}
use Rattle.powers.proofs.bound.power_exceeds.Goals as goal

pub returns-then-base-lt2 : goal.returns-then-base-lt2
returns-then-base-lt2 c =
    let args = c.args in
    ap (ltb args.bound) (sym (small_power args.base args.exponent c.if-base-lt2.true c.if-exponent-eq0.false))

pub returns-then-power-most : goal.returns-then-power-most
returns-then-power-most c =
    let args = c.args in
    let above = power_above_early args.base c.loop.counter args.exponent args.bound _ c.loop.invariant (omega arith) (omega arith) in
    sym (lt-ltb _ _ (above c.if-power-most.true))
