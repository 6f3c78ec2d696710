-- `instance::shape::entry_count` meets its contract: eight times eight is 64.
-- Assumes nothing.
use borrow.Author.Tests.{eq-eqb, ne_eqb}
use Rattle.sigma.specs.Instance.{is_exponent}
use Rattle.formats.specs.Sheet.{entry_count}
use Rattle.instance.proofs.shape.entry_count.Goals as goal

pub returns-then-h-eq1-clause-value : goal.returns-then-h-eq1-clause-value
unfolding entry_count is_exponent
returns-then-h-eq1-clause-value c =
    let rows = c.requires.rows in let columns = c.requires.columns in rw (eq-eqb _ 1 c.if-h-eq1.true)

pub returns-clause-value : goal.returns-clause-value
unfolding entry_count is_exponent
returns-clause-value c = rw (ne_eqb _ 1 c.if-h-eq1.false)
