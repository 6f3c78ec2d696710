use native.Mathlib.Omega.{arith}
use Rattle.modular.proofs.AllUnits.{units_start, units_on, units_out}
use Rattle.modular.proofs.ElementTest.{element_low, element_high}
use Rattle.modular.proofs.several.all_units.Goals as goal

pub loop-i-init : goal.loop-i-init
loop-i-init c = (omega arith, units_start _ _)

pub returns-then-v-lt1 : goal.returns-then-v-lt1
returns-then-v-lt1 c = units_out _ _ _ _ c.loop-i-test.true (element_low _ _ (omega arith))

pub returns-then-v-h : goal.returns-then-v-h
returns-then-v-h c =
    units_out _ _ _ _ c.loop-i-test.true (element_high _ _ (omega arith) (omega arith))

pub loop-i-preserved : goal.loop-i-preserved
loop-i-preserved c =
    let kind = c.requires.2 in
    (omega arith, units_on _ _ _ _ kind (omega arith) (omega arith) c.mul_mod-product.ensures.value c.loop-i.invariant.1)
