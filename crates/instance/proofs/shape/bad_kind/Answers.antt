-- `instance::shape::bad_kind` meets its contract: 1 is told apart first, and then 2.
-- Assumes nothing.
use borrow.Author.Tests.{eq-eqb, ne_eqb}
use Rattle.sigma.specs.Admission.{bad_kind}
use Rattle.instance.proofs.shape.bad_kind.Goals as goal

pub returns-then-h-eq1 : goal.returns-then-h-eq1
unfolding bad_kind
returns-then-h-eq1 c = rw (eq-eqb _ 1 c.if-h-eq1.true)

pub returns : goal.returns
unfolding bad_kind
returns c = rw (ne_eqb _ 1 c.if-h-eq1.false)
