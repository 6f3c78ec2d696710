-- `ledger_lines::asked::bad_response` meets its contract: only a product's response is tested.
-- Assumes nothing.
use Rattle.std.proofs.Common.{rules}
use borrow.Author.Tests.{eq-eqb, ne_eqb}
use Rattle.ledgers.specs.Check.{bad_response}
use Rattle.ledger_lines.specs.declared.kinds.Kind.TheVariants.{Product}
use Rattle.ledger_lines.proofs.KindOf.{kind_number, no_kind, other_number}
use Rattle.ledger_lines.proofs.asked.bad_response.Goals as goal

pub returns-in-Ok-Product : goal.returns-in-Ok-Product
unfolding bad_response
returns-in-Ok-Product c =
    rw (eq-eqb c.args.line.now.kind 3 (kind_number c.try_from.ensures c.in-Ok-Product.is c.in-Ok-Product.field-0-is))
    c.some_high_slot.ensures

pub returns-in_default : goal.returns-in_default
unfolding bad_response
returns-in_default c =
    rw (ne_eqb c.args.line.now.kind 3 (other_number c.try_from.ensures c.in_default.is {l = Product} (search rules)))

pub returns-in_default-2 : goal.returns-in_default-2
unfolding bad_response
returns-in_default-2 c = rw (ne_eqb c.args.line.now.kind 3 (no_kind c.try_from.ensures c.in_default.is).2)
