-- `powers::barrett::Barrett::mul` meets its contract: the quotient by the reciprocal is right or one too small.
-- Assumes nothing.
use native.Mathlib.Nat.{lt_trans, mod-lt}
use native.Mathlib.Omega.{arith}
use Rattle.powers.proofs.HighProduct.{product_below}
use Rattle.powers.proofs.Reduction.{product_reduces}
use Rattle.powers.proofs.barrett.Barrett.mul.Goals as goal

pub overflow_sub-rest : goal.overflow_sub-rest
overflow_sub-rest c =
    (product_reduces _ _ _ c.ranges.a.fits c.ranges.b.fits c.args.self.some c.reciprocal.ensures c.high_product-quotient.ensures).low

pub overflow_mul-rest : goal.overflow_mul-rest
overflow_mul-rest c =
    omega (arith, overflow_sub-rest c, product_below c.args.a c.args.b c.ranges.a.fits c.ranges.b.fits)

pub returns-then-rest-self : goal.returns-then-rest-self
returns-then-rest-self c =
    (product_reduces _ _ _ c.ranges.a.fits c.ranges.b.fits c.args.self.some c.reciprocal.ensures
    c.high_product-quotient.ensures).corrected c.if-rest-self.true

pub overflow_cast-result-then-rest-self : goal.overflow_cast-result-then-rest-self
overflow_cast-result-then-rest-self c =
    rw (returns-then-rest-self c) (record { fits = lt_trans (mod-lt _ c.args.self.some) (omega arith) })

pub returns : goal.returns
returns c =
    (product_reduces _ _ _ c.ranges.a.fits c.ranges.b.fits c.args.self.some c.reciprocal.ensures
    c.high_product-quotient.ensures).done c.if-rest-self.false
