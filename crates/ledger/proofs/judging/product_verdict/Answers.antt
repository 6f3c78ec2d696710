-- `ledger::judging::product_verdict` meets its contract: the values are those of the product statement, and judging reads two places of
-- t and three of r.
-- Assumes nothing.
use mathlib.Core.Path.{subst, sym, ◌∙◌}
use Rattle.sigma.specs.Valid.{Valid}
use Rattle.ledger.proofs.Products.{judged_alike, statement_is}
use Rattle.ledger.proofs.judging.product_verdict.Goals as goal

pub invariant_of-sheet : goal.invariant_of-sheet
invariant_of-sheet c = record {
  valid = subst Valid (sym (statement_is c.args.base _ c.args.b _ _ _ c.product_header.ensures (c.product_entries.ensures _ _))) c.requires;
}

pub returns : goal.returns
returns c =
    let judged = c.judge_loaded.ensures in
    let is = statement_is c.args.base c.args.a c.args.b c.args.line.now.commitment _ _
    c.product_header.ensures (c.product_entries.ensures _ _) in
    rw is at judged ∙ judged_alike _ _ _ _ c.args.line.now.t _ c.args.line.now.response _ _
