-- `linear_maker::try_make` meets its contract: why the fixed fields are refused comes first, then why the plan is, and after them it is the
-- second writer on the plan's values.
-- Assumes nothing.
use mathlib.Core.Path.{sym}
use native.Mathlib.Omega.{arith}
use Rattle.std.proofs.lemmas.Result.{err_from_is_err_and}
use Rattle.linear_maker.proofs.Answers.{fields_refused, plan_refused, plan_written}
use Rattle.linear_maker.proofs.PlanTests.{fields_pass, plan_passes}
use Rattle.linear_maker.proofs.try_make.Goals as goal

pub returns-in_err-test_header-clause-answer : goal.returns-in_err-test_header-clause-answer
returns-in_err-test_header-clause-answer c =
    let passed_on = err_from_is_err_and c.from_residual.result c.from_residual.ensures.1 in
    rw (passed_on.1, passed_on.2) (fields_refused _ _ _ c.in_err-test_header.ensures).0

pub returns-in_err-test_header-clause-left : goal.returns-in_err-test_header-clause-left
returns-in_err-test_header-clause-left c = (fields_refused _ _ _ c.in_err-test_header.ensures).1

pub test_plan-requires : goal.test_plan-requires
test_plan-requires c = sym c.in_ok-test_header.ensures

pub returns-in_err-test_plan-clause-answer : goal.returns-in_err-test_plan-clause-answer
returns-in_err-test_plan-clause-answer c =
    let passed_on = err_from_is_err_and c.from_residual-in_err-test_plan.result c.from_residual-in_err-test_plan.ensures.1 in
    rw (passed_on.1, passed_on.2) (plan_refused _ _ (sym c.in_ok-test_header.ensures) _ c.in_err-test_plan.ensures).0

pub returns-in_err-test_plan-clause-left : goal.returns-in_err-test_plan-clause-left
returns-in_err-test_plan-clause-left c = (plan_refused _ _ (sym c.in_ok-test_header.ensures) _ c.in_err-test_plan.ensures).1

pub entries_of-entries-requires : goal.entries_of-entries-requires
entries_of-entries-requires c = (plan_passes _ _ _ _ (sym c.in_ok-test_header.ensures) (sym c.in_ok-test_plan.ensures)).0

pub eight_of-requires : goal.eight_of-requires
eight_of-requires c =
    let fields = sym c.in_ok-test_header.ensures in
    omega (arith, fields_pass _ fields, (plan_passes _ _ _ _ fields (sym c.in_ok-test_plan.ensures)).1)

pub encode_tested-requires : goal.encode_tested-requires
encode_tested-requires c = record { fields = sym c.in_ok-test_header.ensures }

pub returns-clause-answer : goal.returns-clause-answer
returns-clause-answer c = (plan_written _ _ (sym c.in_ok-test_header.ensures) (sym c.in_ok-test_plan.ensures) c.entries_of-entries.ensures c.eight_of.ensures
    (c.encode_tested.ensures.answer, c.encode_tested.ensures.left)).0

pub returns-clause-left : goal.returns-clause-left
returns-clause-left c = (plan_written _ _ (sym c.in_ok-test_header.ensures) (sym c.in_ok-test_plan.ensures) c.entries_of-entries.ensures c.eight_of.ensures
    (c.encode_tested.ensures.answer, c.encode_tested.ensures.left)).1
