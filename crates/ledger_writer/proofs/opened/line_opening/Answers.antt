-- `ledger_writer::opened::line_opening` meets its contract: the two lines that an entry names are inside the array, and each kind has its
-- law.
-- Assumes nothing.
use Rattle.std.proofs.Common.{rules}
use mathlib.Core.Logic.{inl, inr}
use Rattle.ledger_lines.specs.declared.kinds.Kind.TheVariants.{Product, Sum}
use Rattle.ledger_lines.proofs.KindOf.{kind_number, no_kind, other_number}
use Rattle.ledger_writer.proofs.Opening.{given_opening, product_opening, sum_opening}
use Rattle.ledger_writer.proofs.opened.line_opening.Goals as goal
use Rattle.ledger_writer.proofs.opened.line_opening.Goals.{in_default-via-in-Ok+in_default, in_default-via-in_default}

pub bounds-above-entry : goal.bounds-above-entry
bounds-above-entry c =
    (c.requires.names (inl (kind_number c.try_from.ensures c.in-Ok-Sum.is c.in-Ok-Sum.field-0-is))).0

pub bounds-above-entry-in-Ok-Sum : goal.bounds-above-entry-in-Ok-Sum
bounds-above-entry-in-Ok-Sum c =
    (c.requires.names (inl (kind_number c.try_from.ensures c.in-Ok-Sum.is c.in-Ok-Sum.field-0-is))).1

pub bounds-above-entry-in-Ok-Product : goal.bounds-above-entry-in-Ok-Product
bounds-above-entry-in-Ok-Product c =
    (c.requires.names (inr (kind_number c.try_from.ensures c.in-Ok-Product.is c.in-Ok-Product.field-0-is))).0

pub bounds-above-entry-in-Ok-Product-2 : goal.bounds-above-entry-in-Ok-Product-2
bounds-above-entry-in-Ok-Product-2 c =
    (c.requires.names (inr (kind_number c.try_from.ensures c.in-Ok-Product.is c.in-Ok-Product.field-0-is))).1

pub returns-in-Ok-Sum : goal.returns-in-Ok-Sum
returns-in-Ok-Sum c = λ above keeps.
    sum_opening _ above _ c.args.above.now keeps (kind_number c.try_from.ensures c.in-Ok-Sum.is c.in-Ok-Sum.field-0-is) _
    c.add_mod.ensures c.add_mod-in-Ok-Sum.ensures

pub returns-in-Ok-Product : goal.returns-in-Ok-Product
returns-in-Ok-Product c = λ above keeps.
    product_opening _ above _ c.args.above.now keeps
    (kind_number c.try_from.ensures c.in-Ok-Product.is c.in-Ok-Product.field-0-is) _ c.mul_mod.ensures.value

pub returns-in_default : goal.returns-in_default
returns-in_default c = λ above keeps. elim c.in_default.branch [
  | in_default-via-in-Ok+in_default w ↦
      given_opening _ _ _ (other_number c.try_from.ensures w.in_default.is {l = Sum} (search rules))
      (other_number c.try_from.ensures w.in_default.is {l = Product} (search rules))
  | in_default-via-in_default w ↦
      let none = no_kind c.try_from.ensures w.in_default.is in given_opening _ _ _ none.1 none.2
]
