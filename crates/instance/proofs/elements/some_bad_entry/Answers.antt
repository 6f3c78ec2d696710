use mathlib.Core.Path.{◌∙◌}
use native.Mathlib.Omega.{arith}
use Rattle.numbers.proofs.Search.{any_on, any_start}
use Rattle.instance.proofs.ElementNumber.{entries_unread, row_found, row_test, rows_good}
use Rattle.instance.proofs.elements.some_bad_entry.Goals as goal

pub returns-then-h-ne1 : goal.returns-then-h-ne1
returns-then-h-ne1 c = entries_unread _ _ c.if-h-ne1.true

pub loop-i-init : goal.loop-i-init
loop-i-init c = (omega arith, any_start _)

pub returns-then-some_non_element : goal.returns-then-some_non_element
returns-then-some_non_element c =
    row_found _ _ c.if-h-ne1.false _ c.loop-i-test.true
    (row_test _ _ _ c.some_non_element.ensures ∙ c.if-some_non_element.true)

pub loop-i-preserved : goal.loop-i-preserved
loop-i-preserved c =
    (omega arith, any_on _ _ c.loop-i.invariant.1 (row_test _ _ _ c.some_non_element.ensures ∙ c.if-some_non_element.false))

pub returns : goal.returns
returns c =
    rows_good _ _ c.if-h-ne1.false _ c.loop-i.invariant.0 c.loop-i-test.false c.loop-i.invariant.1
