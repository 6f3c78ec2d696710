-- `ledger_writer::made::made_line` meets its contract: a product's two lines are inside the array, and each kind has its law.
-- Assumes nothing.
use Rattle.std.proofs.Common.{rules}
use mathlib.Core.Path.{sym, ◌∙◌}
use Rattle.ledger_lines.specs.declared.kinds.Kind.TheVariants.{Product, Sum}
use Rattle.ledger_lines.proofs.KindOf.{kind_number, no_kind, other_number}
use Rattle.ledger_writer.proofs.Opening.{line_given, line_product, line_sum}
use Rattle.ledger_writer.proofs.made.made_line.Goals as goal
use Rattle.ledger_writer.proofs.made.made_line.Goals.{in_default-via-in-Ok+in_default, in_default-via-in_default}

pub bounds-above-entry : goal.bounds-above-entry
bounds-above-entry c = (c.requires.product (kind_number c.try_from.ensures c.in-Ok-Product.is c.in-Ok-Product.field-0-is)).0

pub bounds-above-entry-in-Ok-Product : goal.bounds-above-entry-in-Ok-Product
bounds-above-entry-in-Ok-Product c =
    (c.requires.product (kind_number c.try_from.ensures c.in-Ok-Product.is c.in-Ok-Product.field-0-is)).1

pub product_line-requires : goal.product_line-requires
product_line-requires c =
    (c.requires.modulus, (c.requires.product (kind_number c.try_from.ensures c.in-Ok-Product.is c.in-Ok-Product.field-0-is)).2)

pub returns-in-Ok-Sum : goal.returns-in-Ok-Sum
returns-in-Ok-Sum c = λ above keeps own.
    c.plain_line.ensures ∙ line_sum _ above _ (kind_number c.try_from.ensures c.in-Ok-Sum.is c.in-Ok-Sum.field-0-is)

pub returns-in-Ok-Product : goal.returns-in-Ok-Product
returns-in-Ok-Product c = λ above keeps own.
    c.product_line.ensures above (sym (keeps _)) (sym (keeps _))
    ∙ line_product _ above _ c.args.own own (kind_number c.try_from.ensures c.in-Ok-Product.is c.in-Ok-Product.field-0-is)

pub returns-in_default : goal.returns-in_default
returns-in_default c = λ above keeps own. c.plain_line-in_default.ensures ∙ elim c.in_default.branch [
  | in_default-via-in-Ok+in_default w ↦
      line_given _ above _ c.args.own own (other_number c.try_from.ensures w.in_default.is {l = Sum} (search rules))
      (other_number c.try_from.ensures w.in_default.is {l = Product} (search rules)) _ c.commit.ensures
  | in_default-via-in_default w ↦
      let none = no_kind c.try_from.ensures w.in_default.is in
      line_given _ above _ c.args.own own none.1 none.2 _ c.commit.ensures
]
