-- `reason_lines::write_rejected` meets its contract: the parts of the line stand one after the other, and its numbers have 32
-- bits.
-- Assumes nothing.
use Rattle.encoding.specs.Text.{ascii}
use Rattle.encoding.proofs.Fitted.{fitted_then}
use Rattle.reasons.proofs.Length.{rejected_short}
use Rattle.reason_lines.proofs.Pieces.{array_below}
use Rattle.reason_lines.proofs.write_rejected.Goals as goal

pub returns : goal.returns
unfolding ascii
returns c =
    let (text, (mask, (left, (right, none)))) = c.well_formed in
    record {
      fitted = fitted_then (fitted_then c.write_word-next.ensures c.write_rows-end.ensures) c.write_word.ensures;
      short = rejected_short _ _ _ (λ row few. (array_below 8 c.args.left _ left row, array_below 8 c.args.right _ right row));
    }
