use Rattle.comparison.proofs.TwoSides.{agreed_none, agreed_on, differ_here, differ_nowhere}
use Rattle.comparison.proofs.first_difference.Goals as goal

pub loop-i-init : goal.loop-i-init
loop-i-init c = agreed_none _ _ _

pub returns-then-xs-i-clause-value : goal.returns-then-xs-i-clause-value
returns-then-xs-i-clause-value c =
    let agreed = c.loop-i.invariant in differ_here _ _ _ _ c.loop-i-test.true c.if-xs-i.true agreed

pub loop-i-preserved : goal.loop-i-preserved
loop-i-preserved c = agreed_on _ _ _ _ c.loop-i-test.true c.if-xs-i.false c.loop-i.invariant

pub returns-clause-value : goal.returns-clause-value
returns-clause-value c = differ_nowhere _ _ _ c.loop-i-test.false c.loop-i.invariant
