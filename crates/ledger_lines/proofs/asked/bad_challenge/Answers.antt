-- `ledger_lines::asked::bad_challenge` meets its contract: only a product's challenge is tested.
-- Assumes nothing.
use Rattle.std.proofs.Common.{rules}
use borrow.Author.Tests.{eq-eqb, ne_eqb}
use Rattle.ledgers.specs.Check.{bad_line_challenge}
use Rattle.ledger_lines.specs.declared.kinds.Kind.TheVariants.{Product}
use Rattle.ledger_lines.proofs.KindOf.{kind_number, no_kind, other_number}
use Rattle.ledger_lines.proofs.asked.bad_challenge.Goals as goal

pub returns-in-Ok-Product : goal.returns-in-Ok-Product
unfolding bad_line_challenge
returns-in-Ok-Product c =
    rw (eq-eqb c.args.kind 3 (kind_number c.try_from.ensures c.in-Ok-Product.is c.in-Ok-Product.field-0-is))

pub returns-in_default : goal.returns-in_default
unfolding bad_line_challenge
returns-in_default c =
    rw (ne_eqb c.args.kind 3 (other_number c.try_from.ensures c.in_default.is {l = Product} (search rules)))

pub returns-in_default-2 : goal.returns-in_default-2
unfolding bad_line_challenge
returns-in_default-2 c = rw (ne_eqb c.args.kind 3 (no_kind c.try_from.ensures c.in_default.is).2)
