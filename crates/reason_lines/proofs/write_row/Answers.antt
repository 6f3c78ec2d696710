-- `reason_lines::write_row` meets its contract: the bit decides between nothing and the row with its two sides.
-- Assumes nothing.
use borrow.Author.Tests.{eq-eqb}
use Rattle.reasons.specs.Reason.{row_text}
use Rattle.reason_lines.proofs.write_row.Goals as goal

pub returns : goal.returns
unfolding row_text
returns c =
    rw (eq-eqb _ _ c.if-rest-ne1.false) c.write_sides.ensures
