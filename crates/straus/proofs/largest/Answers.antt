use Prim.Native.Nat.{◌<◌}
use native.Mathlib.Omega.{arith}
use lib.ListN.{length-take}
use Rattle.std.proofs.lemmas.List.{get_or-take}
use Rattle.straus.proofs.Exponents.{at_most_start, at_most_more}
use Rattle.straus.proofs.largest.Goals as goal

pub loop-value-init : goal.loop-value-init
loop-value-init c = at_most_start _ _

pub loop-value-preserved : goal.loop-value-preserved
loop-value-preserved c =
    let at = c.loop-value.value-index in
    let values = c.args.values in
    let inside : at < c.args.n = omega (arith, length-take c.args.n values) in
    at_most_more c.loop-value.invariant (omega arith) (omega (arith, get_or-take c.args.n values at 0 inside))

pub returns : goal.returns
returns c = record {
  each = λ i inside. c.loop-value.invariant.each i (omega (arith, length-take c.args.n c.args.values));
}
