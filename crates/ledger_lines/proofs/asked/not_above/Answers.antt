-- `ledger_lines::asked::not_above` meets its contract: only a sum's and a product's two lines are tested.
-- Assumes nothing.
use Rattle.std.proofs.Common.{rules}
use borrow.Author.Tests.{le-leb, lt-leb, ne_eqb}
use Rattle.ledgers.specs.Check.{not_above}
use Rattle.ledger_lines.proofs.KindOf.{names_lines, names_none, no_kind}
use Rattle.ledger_lines.proofs.asked.not_above.Goals as goal

pub returns-then-first-i : goal.returns-then-first-i
unfolding not_above
returns-then-first-i c =
    rw (names_lines c.args.kind c.try_from.ensures c.in-Ok-Sum.is (search rules), le-leb _ _ c.if-first-i.true)

pub returns-else-first-i : goal.returns-else-first-i
unfolding not_above
returns-else-first-i c =
    rw (names_lines c.args.kind c.try_from.ensures c.in-Ok-Sum.is (search rules), lt-leb _ _ c.if-first-i.false)

pub returns-in_default : goal.returns-in_default
unfolding not_above
returns-in_default c = rw (names_none c.args.kind c.try_from.ensures c.in_default.is (search rules) (search rules))

pub returns-in_default-2 : goal.returns-in_default-2
unfolding not_above
returns-in_default-2 c =
    let none = no_kind c.try_from.ensures c.in_default.is in
    rw (ne_eqb c.args.kind 2 none.1, ne_eqb c.args.kind 3 none.2)
