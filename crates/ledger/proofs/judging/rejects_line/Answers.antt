-- `ledger::judging::rejects_line` meets its contract: a product's two lines are inside the array, and its round is judged.
-- Assumes nothing.
use Rattle.std.proofs.Common.{rules}
use mathlib.Core.Path.{◌≡◌, sym, ◌∙◌}
use mathlib.Core.Logic.{inl, inr}
use borrow.Author.Tests.{ne_eqb}
use Rattle.sigma.specs.Answer.{is_accepted}
use Rattle.ledgers.specs.Check.{rejects_line}
use Rattle.ledgers.specs.Ledger.{line_instance}
use Rattle.types.specs.declared.Verdict.TheVariants.{Refused, Rejected}
use Rattle.ledger_lines.specs.declared.kinds.Kind.TheVariants.{Product}
use Rattle.ledger_lines.proofs.KindOf.{kind_number, no_kind, other_number}
use Rattle.ledger.proofs.Products.{rejected_by}
use Rattle.ledger.proofs.judging.rejects_line.Goals as goal

pub returns-in_default : goal.returns-in_default
unfolding rejects_line
returns-in_default c = rw (ne_eqb c.args.line.now.kind 3 (other_number c.try_from.ensures c.in_default.is {l = Product} (search rules)))

pub returns-in_default-2 : goal.returns-in_default-2
unfolding rejects_line
returns-in_default-2 c = rw (ne_eqb c.args.line.now.kind 3 (no_kind c.try_from.ensures c.in_default.is).2)

pub bounds-above-line : goal.bounds-above-line
bounds-above-line c = (c.requires (kind_number c.try_from.ensures c.in-Ok-Product.is c.in-Ok-Product.field-0-is)).0

pub bounds-above-line-2 : goal.bounds-above-line-2
bounds-above-line-2 c = (c.requires (kind_number c.try_from.ensures c.in-Ok-Product.is c.in-Ok-Product.field-0-is)).1

pub product_verdict-requires : goal.product_verdict-requires
unfolding line_instance
product_verdict-requires c = (c.requires (kind_number c.try_from.ensures c.in-Ok-Product.is c.in-Ok-Product.field-0-is)).2

pub returns-in-Accepted : goal.returns-in-Accepted
unfolding is_accepted
returns-in-Accepted c =
    rejected_by _ _ _ _ (kind_number c.try_from.ensures c.in-Ok-Product.is c.in-Ok-Product.field-0-is) c.in-Accepted.ensures

pub returns-in-Rejected : goal.returns-in-Rejected
unfolding is_accepted
returns-in-Rejected c =
    let three : c.args.line.now.kind ≡ 3 = kind_number c.try_from.ensures c.in-Ok-Product.is c.in-Ok-Product.field-0-is in
    elim c.in-Rejected.is [
      | inl (rows, is) ↦ rejected_by _ _ _ (Rejected rows) three (sym is ∙ c.product_verdict.ensures)
      | inr (n, is) ↦ rejected_by _ _ _ (Refused n) three (sym is ∙ c.product_verdict.ensures)
    ]
