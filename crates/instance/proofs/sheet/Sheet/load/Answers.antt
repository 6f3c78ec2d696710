-- `instance::sheet::Sheet::load` meets its contract: the shape is tested before the group elements, and what passes both is Valid.
-- Assumes nothing.
use mathlib.Core.Path.{sym, ◌∙◌}
use native.Mathlib.Omega.{arith}
use Rattle.std.proofs.lemmas.Result.{err_from_is_err_and}
use Rattle.refusals.proofs.Positive.{number_positive}
use Rattle.formats.proofs.Loads.{loads_valid}
use Rattle.instance.proofs.LoadSteps.{shape_first, shape_header, shape_shaped, elements_next, values_loaded}
use Rattle.instance.proofs.sheet.Sheet.load.Goals as goal

pub returns-in_err-header-clause-number : goal.returns-in_err-header-clause-number
returns-in_err-header-clause-number c =
    let number_is = c.in_err-header.ensures.number in
    let passed_on = err_from_is_err_and c.from_residual.result c.from_residual.ensures.1 in
    rw (passed_on.1, passed_on.2)
    (number_is ∙ shape_first _ (omega (arith, number_is, number_positive c.in_err-header.field-0.0)))

pub read_entries-entries-requires : goal.read_entries-entries-requires
read_entries-entries-requires c = shape_shaped _ _ c.in_ok-header.ensures.fields (sym c.in_ok-header.ensures.number)

pub read_statement-statement-requires : goal.read_statement-statement-requires
read_statement-statement-requires c = shape_shaped _ _ c.in_ok-header.ensures.fields (sym c.in_ok-header.ensures.number)

pub test_elements-requires : goal.test_elements-requires
test_elements-requires c =
    let bounds = shape_header _ _ c.in_ok-header.ensures.fields (sym c.in_ok-header.ensures.number) in
    record { modulus = bounds.0; rows = bounds.1.0; columns = bounds.1.1 }

pub returns-in_err-test_elements-clause-number : goal.returns-in_err-test_elements-clause-number
returns-in_err-test_elements-clause-number c =
    let next = elements_next _ _ c.in_ok-header.ensures.fields c.read_entries-entries.ensures c.read_statement-statement.ensures in
    let passed_on = err_from_is_err_and c.from_residual-in_err-test_elements.result c.from_residual-in_err-test_elements.ensures.1 in
    rw (passed_on.1, passed_on.2) (c.in_err-test_elements.ensures ∙ next (sym c.in_ok-header.ensures.number))

pub invariant_of-result : goal.invariant_of-result
invariant_of-result c =
    let next = elements_next _ _ c.in_ok-header.ensures.fields c.read_entries-entries.ensures c.read_statement-statement.ensures in
    let loads = c.in_ok-test_elements.ensures ∙ next (sym c.in_ok-header.ensures.number) in
    let values = values_loaded _ _ c.in_ok-header.ensures.fields c.read_entries-entries.ensures c.read_statement-statement.ensures in
    record { valid = rw values (loads_valid _ (sym loads)) }

pub returns-clause-number : goal.returns-clause-number
returns-clause-number c =
    let next = elements_next _ _ c.in_ok-header.ensures.fields c.read_entries-entries.ensures c.read_statement-statement.ensures in
    c.in_ok-test_elements.ensures ∙ next (sym c.in_ok-header.ensures.number)

pub returns-clause-values : goal.returns-clause-values
returns-clause-values c =
    values_loaded _ _ c.in_ok-header.ensures.fields c.read_entries-entries.ensures c.read_statement-statement.ensures
