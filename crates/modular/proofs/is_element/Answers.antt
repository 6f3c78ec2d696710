-- `modular::is_element` meets its contract: each return is a law of the test.
-- Assumes nothing.
use native.Mathlib.Omega.{arith}
use Rattle.modular.proofs.ElementTest.{element_low, element_high, element_exponent, element_root}
use Rattle.modular.proofs.is_element.Goals as goal

pub returns-then-v-lt1 : goal.returns-then-v-lt1
returns-then-v-lt1 c = element_low _ _ c.if-v-lt1.true

pub returns-then-v-h : goal.returns-then-v-h
returns-then-v-h c = let args = c.args in element_high args.h args.v (omega arith) (omega arith)

pub returns-then-h-eq1 : goal.returns-then-h-eq1
returns-then-h-eq1 c =
    let args = c.args in
    element_exponent args.h args.v (omega arith) (omega arith) c.if-h-eq1.true c.pow_mod.ensures.value

pub returns : goal.returns
returns c =
    let args = c.args in
    element_root args.h args.v (omega arith) (omega arith) c.if-h-eq1.false c.gcd.ensures
