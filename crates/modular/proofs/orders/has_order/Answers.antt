-- `modular::orders::has_order` meets its contract: each return is a law of the test.
-- Assumes nothing.
use native.Mathlib.Omega.{arith}
use Rattle.modular.proofs.ElementTest.{element_low, element_high, element_exponent}
use Rattle.modular.proofs.orders.has_order.Goals as goal

pub returns-then-v-lt1 : goal.returns-then-v-lt1
returns-then-v-lt1 c = element_low _ _ c.if-v-lt1.true

pub returns-then-v-h : goal.returns-then-v-h
returns-then-v-h c = let args = c.args in element_high args.h args.v (omega arith) (omega arith)

pub returns : goal.returns
returns c =
    element_exponent c.args.h c.args.v (omega arith) (omega arith) c.requires.0 c.requires.1
