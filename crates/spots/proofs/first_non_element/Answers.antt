use mathlib.Core.Path.{◌≡◌, sym, ap, ◌∙◌}
use mathlib.Core.Bool.{not}
use native.Mathlib.Omega.{arith}
use borrow.Author.Tests.{not-true, not-false}
use Rattle.numbers.proofs.Search.{find_to_start, find_to_end, find_to_here, find_to_on}
use Rattle.sigma.specs.Element.{is_element}
use Rattle.reasons.specs.Reason.{first_non_element}
use Rattle.spots.proofs.first_non_element.Goals as goal

pub loop-i-init : goal.loop-i-init
unfolding first_non_element
loop-i-init c = find_to_start _ _

pub returns-then-not-is_element-clause-value : goal.returns-then-not-is_element-clause-value
returns-then-not-is_element-clause-value c =
    let tested = ap (is_element _) (sym c.read_u32.ensures.value) ∙ sym c.is_element.ensures in
    let fails = tested ∙ not-true _ (ap not c.if-not-is_element.true) in sym (find_to_here _ _ _ c.loop-i-test.true (ap not fails)) ∙ c.loop-i.invariant

pub loop-i-preserved : goal.loop-i-preserved
loop-i-preserved c =
    let tested = ap (is_element _) (sym c.read_u32.ensures.value) ∙ sym c.is_element.ensures in
    let passes = tested ∙ not-false _ (ap not c.if-not-is_element.false) in
    find_to_on _ _ _ c.loop-i-test.true (ap not passes) ∙ c.loop-i.invariant

pub returns-clause-value : goal.returns-clause-value
returns-clause-value c =
    let last : c.args.n ≡ c.loop-i.i = omega arith in
    last ∙ sym (find_to_end _ _ _ c.loop-i-test.false) ∙ c.loop-i.invariant
