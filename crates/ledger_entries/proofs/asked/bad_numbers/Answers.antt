-- `ledger_entries::asked::bad_numbers` meets its contract: each kind has its law.
-- Assumes nothing.
use Rattle.std.proofs.Common.{rules}
use mathlib.Core.Path.{sym}
use borrow.Author.Tests.{le-leb, lt-leb}
use Rattle.ledger_lines.specs.declared.kinds.Kind.TheVariants.{Commitment, Product}
use Rattle.ledger_lines.proofs.KindOf.{kind_number, no_kind, other_number}
use Rattle.ledger_entries.proofs.Numbers.{numbers_none, numbers_one, numbers_three}
use Rattle.ledger_entries.proofs.asked.bad_numbers.Goals as goal

pub returns-then-entry-base : goal.returns-then-entry-base
returns-then-entry-base c =
    rw (numbers_one c.args.base c.args.entry.now (kind_number c.try_from.ensures c.in-Ok-Commitment.is c.in-Ok-Commitment.field-0-is), le-leb _ _ c.if-entry-base.true)

pub returns-else-entry-base : goal.returns-else-entry-base
returns-else-entry-base c =
    rw (numbers_one c.args.base c.args.entry.now (kind_number c.try_from.ensures c.in-Ok-Commitment.is c.in-Ok-Commitment.field-0-is), lt-leb _ _ c.if-entry-base.false)

pub returns-in_default : goal.returns-in_default
returns-in_default c =
    sym (numbers_none _ _ (other_number c.try_from.ensures c.in_default.is {l = Commitment} (search rules))
    (other_number c.try_from.ensures c.in_default.is {l = Product} (search rules)))

pub returns-in_default-2 : goal.returns-in_default-2
returns-in_default-2 c =
    let none = no_kind c.try_from.ensures c.in_default.is in
    sym (numbers_none _ _ none.0 none.2)

pub returns-then-entry-base-2 : goal.returns-then-entry-base-2
returns-then-entry-base-2 c =
    rw (numbers_three c.args.base c.args.entry.now (kind_number c.try_from.ensures c.in-Ok-Product.is c.in-Ok-Product.field-0-is), le-leb _ _ c.if-entry-base-2.true)

pub returns-else-entry-base-2 : goal.returns-else-entry-base-2
returns-else-entry-base-2 c =
    rw (numbers_three c.args.base c.args.entry.now (kind_number c.try_from.ensures c.in-Ok-Product.is c.in-Ok-Product.field-0-is), lt-leb _ _ c.if-entry-base-2.false)
    c.some_high_slot.ensures
