-- `instance::elements::test_elements` meets its contract: the entries are tested before the statement.
-- Assumes nothing.
use mathlib.Core.Path.{sym, ◌∙◌}
use Rattle.instance.proofs.ElementNumber.{entries_number, statement_number, elements_right}
use Rattle.instance.proofs.elements.test_elements.Goals as goal

pub returns-then-some_bad_entry : goal.returns-then-some_bad_entry
returns-then-some_bad_entry c = entries_number _ _ _ (sym c.some_bad_entry.ensures ∙ c.if-some_bad_entry.true)

pub returns-then-some_non_element : goal.returns-then-some_non_element
returns-then-some_non_element c =
    let args = c.args in
    statement_number args.h args.entries args.statement (sym c.some_bad_entry.ensures ∙ c.if-some_bad_entry.false)
    (sym c.some_non_element.ensures ∙ c.if-some_non_element.true)

pub returns : goal.returns
returns c =
    let args = c.args in
    elements_right args.h args.entries args.statement (sym c.some_bad_entry.ensures ∙ c.if-some_bad_entry.false)
    (sym c.some_non_element.ensures ∙ c.if-some_non_element.false)
