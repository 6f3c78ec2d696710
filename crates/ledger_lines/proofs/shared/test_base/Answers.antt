-- `ledger_lines::shared::test_base` meets its contract: the tests of the fixed fields, then that of g and h.
-- Assumes nothing.
use mathlib.Core.Path.{refl, sym, ◌∙◌}
use native.Mathlib.Omega.{arith}
use Rattle.std.proofs.lemmas.Result.{err_from_is_err_and}
use Rattle.refusals.proofs.Positive.{number_positive}
use Rattle.rules.proofs.Lowest.{lowest_clear, stop}
use Rattle.ledger_lines.proofs.Few.{two_elements}
use Rattle.ledger_lines.proofs.BaseRules.{base_earlier, base_later, base_modulus}
use Rattle.ledger_lines.proofs.shared.test_base.Goals as goal

pub returns-in_err-test_header : goal.returns-in_err-test_header
returns-in_err-test_header c =
    let passed_on = err_from_is_err_and c.from_residual.result c.from_residual.ensures.1 in
    rw (passed_on.1, passed_on.2)
    (base_earlier _ _ c.product_header-h.ensures _ c.in_err-test_header.ensures
    (λ none. omega (arith, none, number_positive c.in_err-test_header.field-0.0)))

pub some_non_element-requires : goal.some_non_element-requires
some_non_element-requires c =
    (base_modulus c.args.base _ c.product_header-h.ensures _ c.in_ok-test_header.ensures refl, omega arith)

pub returns-then-some_non_element : goal.returns-then-some_non_element
returns-then-some_non_element c =
    let tested = c.some_non_element.ensures in
    let fields = c.product_header-h.ensures in
    sym (stop 10 _ (two_elements _ _ _ _ _ ∙ sym (rw fields at tested) ∙ c.if-some_non_element.true))
    ∙ base_later _ _ fields _ c.in_ok-test_header.ensures refl

pub returns : goal.returns
returns c =
    let tested = c.some_non_element.ensures in
    let fields = c.product_header-h.ensures in
    sym (lowest_clear _ (two_elements _ _ _ _ _ ∙ sym (rw fields at tested) ∙ c.if-some_non_element.false, tt))
    ∙ base_later _ _ fields _ c.in_ok-test_header.ensures refl
