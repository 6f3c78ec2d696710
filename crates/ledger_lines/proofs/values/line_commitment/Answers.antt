-- `ledger_lines::values::line_commitment` meets its contract: a sum's two lines are inside the array.
-- Assumes nothing.
use Rattle.std.proofs.Common.{rules}
use borrow.Author.Tests.{eq-eqb, ne_eqb}
use Rattle.ledgers.specs.Ledger.{line_commitment}
use Rattle.ledger_lines.specs.declared.kinds.Kind.TheVariants.{Sum}
use Rattle.ledger_lines.proofs.KindOf.{kind_number, no_kind, other_number}
use Rattle.ledger_lines.proofs.values.line_commitment.Goals as goal
use Rattle.ledger_lines.proofs.values.line_commitment.Goals.{in_default-via-in-Ok+in_default, in_default-via-in_default}

pub product_in-requires : goal.product_in-requires
product_in-requires c =
    let (first, second) = c.requires.names (kind_number c.try_from.ensures c.in-Ok-Sum.is c.in-Ok-Sum.field-0-is) in
    (first, second, c.requires.modulus)

pub returns-in-Ok-Sum : goal.returns-in-Ok-Sum
unfolding line_commitment
returns-in-Ok-Sum c =
    rw (eq-eqb c.args.line.now.kind 2 (kind_number c.try_from.ensures c.in-Ok-Sum.is c.in-Ok-Sum.field-0-is))
    c.product_in.ensures

pub returns-in_default : goal.returns-in_default
unfolding line_commitment
returns-in_default c = elim c.in_default.branch [
  | in_default-via-in-Ok+in_default w ↦
      rw (ne_eqb c.args.line.now.kind 2 (other_number c.try_from.ensures w.in_default.is {l = Sum} (search rules)))
  | in_default-via-in_default w ↦ rw (ne_eqb c.args.line.now.kind 2 (no_kind c.try_from.ensures w.in_default.is).1)
]
