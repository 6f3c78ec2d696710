-- `linear_maker::tests::bad_counts` meets its contract: each count is tested in turn, and the product is formed of factors of at most 8.
-- Assumes nothing.
use mathlib.Core.Logic.{inl, inr}
use native.Mathlib.Omega.{arith}
use lib.ListN.{length}
use Rattle.linear_maker.proofs.PlanTests.{counts_left, counts_wrong, products_few}
use Rattle.linear_maker.proofs.tests.bad_counts.Goals as goal

pub returns-then-count-lt1 : goal.returns-then-count-lt1
returns-then-count-lt1 c = counts_wrong _ (inl (omega arith))

pub returns-then-count-gt8 : goal.returns-then-count-gt8
returns-then-count-gt8 c = counts_wrong _ (inr (inl (omega arith)))

pub overflow_mul-rows : goal.overflow_mul-rows
overflow_mul-rows c = omega (arith, products_few c.args.h.rows (length c.args.generators.now) c.args.h.columns c.requires.0 (omega arith) c.requires.1)

pub overflow_mul-rows-2 : goal.overflow_mul-rows-2
overflow_mul-rows-2 c = omega (arith, products_few c.args.h.rows (length c.args.generators.now) c.args.h.columns c.requires.0 (omega arith) c.requires.1)

pub returns-then-coefficients-rows : goal.returns-then-coefficients-rows
returns-then-coefficients-rows c = counts_wrong _ (inr (inr (inl c.if-coefficients-rows.true)))

pub returns : goal.returns
returns c = counts_left _ (omega arith) (omega arith) c.if-coefficients-rows.false
