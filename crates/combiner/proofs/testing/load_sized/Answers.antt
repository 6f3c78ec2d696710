-- `combiner::testing::load_sized` meets its contract: the number of the sheet's shape comes before that of the team, and this before
-- that of the sheet's elements.
-- Assumes nothing.
use mathlib.Core.Path.{refl}
use native.Mathlib.Omega.{arith}
use Rattle.std.proofs.lemmas.Result.{err_from_is_err_and}
use Rattle.refusals.proofs.Positive.{number_positive}
use Rattle.combiner.proofs.SheetNumber.{shape_first, shape_none, shape_past, size_first, size_passed}
use Rattle.combiner.proofs.testing.load_sized.Goals as goal

pub returns-in_err-test_size-in-Ok-clause-number : goal.returns-in_err-test_size-in-Ok-clause-number
returns-in_err-test_size-in-Ok-clause-number c =
    let passed_on = err_from_is_err_and c.from_residual.result c.from_residual.ensures.1 in
    rw (passed_on.1, passed_on.2)
    (size_first _ _ (shape_none _ c.in-Ok.ensures.number refl) c.in_err-test_size-in-Ok.ensures
    (λ e. omega (arith, e, number_positive c.in_err-test_size-in-Ok.field-0.0)))

pub returns-in_ok-test_size-in-Ok-clause-number : goal.returns-in_ok-test_size-in-Ok-clause-number
returns-in_ok-test_size-in-Ok-clause-number c =
    size_passed _ _ c.in-Ok.ensures.number c.in_ok-test_size-in-Ok.ensures refl

pub returns-in_err-test_size-in-Err-clause-number : goal.returns-in_err-test_size-in-Err-clause-number
returns-in_err-test_size-in-Err-clause-number c =
    let passed_on = err_from_is_err_and c.from_residual-in_err-test_size-in-Err.result c.from_residual-in_err-test_size-in-Err.ensures.1 in
    rw (passed_on.1, passed_on.2)
    (size_first _ _ (shape_past _ c.in-Err.ensures.number (omega arith)) c.in_err-test_size-in-Err.ensures
    (λ e. omega (arith, e, number_positive c.in_err-test_size-in-Err.field-0.0)))

pub returns-in_ok-test_size-in-Err-clause-number : goal.returns-in_ok-test_size-in-Err-clause-number
returns-in_ok-test_size-in-Err-clause-number c =
    size_passed _ _ c.in-Err.ensures.number c.in_ok-test_size-in-Err.ensures refl

pub returns-then-number-clause-number : goal.returns-then-number-clause-number
returns-then-number-clause-number c =
    shape_first _ _ c.in-Err.ensures.number (λ e. omega (arith, e, number_positive c.in-Err.refusal)) (omega arith)
