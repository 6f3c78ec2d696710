-- `linear_maker::tests::test_plan` meets its contract: why the first of the three tests that applies refuses.
-- Assumes nothing.
use mathlib.Core.Path.{sym, ◌∙◌}
use native.Mathlib.Omega.{arith}
use Rattle.instance.proofs.FixedFields.{header_passes}
use Rattle.linear_maker.proofs.PlanTests.{coefficient_number, counts_number, counts_right, generator_number, plan_right}
use Rattle.linear_maker.proofs.tests.test_plan.Goals as goal

pub bad_counts-requires : goal.bad_counts-requires
bad_counts-requires c = (header_passes _ c.requires).1

pub returns-then-bad_counts : goal.returns-then-bad_counts
returns-then-bad_counts c = counts_number _ _ _ _ (sym c.bad_counts.ensures ∙ c.if-bad_counts.true)

pub returns-then-bad_coefficient : goal.returns-then-bad_coefficient
returns-then-bad_coefficient c =
    coefficient_number _ _ _ _ (sym c.bad_counts.ensures ∙ c.if-bad_counts.false) (sym c.bad_coefficient.ensures ∙ c.if-bad_coefficient.true)

pub eight_of-requires : goal.eight_of-requires
eight_of-requires c = (counts_right _ (sym c.bad_counts.ensures ∙ c.if-bad_counts.false)).0

pub some_non_element-requires : goal.some_non_element-requires
some_non_element-requires c =
    ((header_passes _ c.requires).0, omega (arith, (counts_right _ (sym c.bad_counts.ensures ∙ c.if-bad_counts.false)).0))

pub returns-then-some_non_element : goal.returns-then-some_non_element
returns-then-some_non_element c =
    generator_number _ _ _ _ (sym c.bad_counts.ensures ∙ c.if-bad_counts.false) (sym c.bad_coefficient.ensures ∙ c.if-bad_coefficient.false)
    c.eight_of.ensures (sym c.some_non_element.ensures ∙ c.if-some_non_element.true)

pub returns : goal.returns
returns c =
    plan_right _ _ _ _ (sym c.bad_counts.ensures ∙ c.if-bad_counts.false) (sym c.bad_coefficient.ensures ∙ c.if-bad_coefficient.false)
    c.eight_of.ensures (sym c.some_non_element.ensures ∙ c.if-some_non_element.false)
