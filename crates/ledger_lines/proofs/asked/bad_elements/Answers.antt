-- `ledger_lines::asked::bad_elements` meets its contract: each kind has its law.
-- Assumes nothing.
use Rattle.std.proofs.Common.{rules}
use mathlib.Core.Path.{ap, ◌∙◌}
use mathlib.Core.Bool.{not}
use Rattle.ledger_lines.specs.declared.kinds.Kind.TheVariants.{Commitment, Product}
use Rattle.ledger_lines.proofs.Few.{elements_none, elements_one, elements_three}
use Rattle.ledger_lines.proofs.KindOf.{kind_number, no_kind, other_number}
use Rattle.ledger_lines.proofs.asked.bad_elements.Goals as goal

pub returns-in-Ok-Commitment : goal.returns-in-Ok-Commitment
returns-in-Ok-Commitment c =
    let tested = c.is_element.ensures in
    let fields = c.product_header-h.ensures in
    let arm = c.in-Ok-Commitment in
    ap not (rw fields at tested) ∙ elements_one _ _ (kind_number c.try_from.ensures arm.is arm.field-0-is)

pub returns-in-Ok-Product : goal.returns-in-Ok-Product
returns-in-Ok-Product c =
    let tested = c.some_non_element.ensures in
    let fields = c.product_header-h.ensures in
    let arm = c.in-Ok-Product in
    rw fields at tested ∙ elements_three _ _ (kind_number c.try_from.ensures arm.is arm.field-0-is) _

pub returns-in_default : goal.returns-in_default
returns-in_default c =
    elements_none _ _ (other_number c.try_from.ensures c.in_default.is {l = Commitment} (search rules))
    (other_number c.try_from.ensures c.in_default.is {l = Product} (search rules))

pub returns-in_default-2 : goal.returns-in_default-2
returns-in_default-2 c =
    let none = no_kind c.try_from.ensures c.in_default.is in
    elements_none _ _ none.0 none.2
