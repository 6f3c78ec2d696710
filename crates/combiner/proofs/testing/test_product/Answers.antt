-- `combiner::testing::test_product` meets its contract: its one rule applies or not.
-- Assumes nothing.
use mathlib.Core.Path.{sym, ◌∙◌}
use Rattle.rules.proofs.Lowest.{lowest_clear, stop}
use Rattle.combiner.proofs.testing.test_product.Goals as goal

pub returns-then-bad_product : goal.returns-then-bad_product
returns-then-bad_product c = sym (stop 28 _ (sym c.bad_product.ensures ∙ c.if-bad_product.true))

pub returns : goal.returns
returns c = sym (lowest_clear _ (sym c.bad_product.ensures ∙ c.if-bad_product.false, tt))
