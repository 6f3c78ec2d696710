use mathlib.Core.Path.{◌≡◌, sym, ◌∙◌}
use native.Mathlib.Omega.{arith}
use Rattle.numbers.proofs.Gcd.{gcd_step, gcd_zero}
use Rattle.modular.proofs.gcd.Goals as goal

pub loop-y-preserved : goal.loop-y-preserved
loop-y-preserved c = sym (gcd_step _ _) ∙ c.loop-y.invariant

pub returns : goal.returns
returns c =
    let at_end : c.loop-y.y ≡ 0 = omega arith in
    sym (gcd_zero _) ∙ rw at_end at c.loop-y.invariant
