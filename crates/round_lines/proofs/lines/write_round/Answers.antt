-- `round_lines::lines::write_round` meets its contract: the parts of the line stand one after the other.
-- Assumes nothing.
use Rattle.encoding.specs.Text.{ascii}
use Rattle.encoding.proofs.Fitted.{fitted_as, fitted_then}
use Rattle.runs.specs.Marker.{newline}
use Rattle.round_lines.proofs.LineByLine.{line_parts}
use Rattle.round_lines.proofs.lines.write_round.Goals as goal

pub returns : goal.returns
unfolding ascii newline
returns c =
    let front = fitted_then c.write_decimal-word.ensures c.write_verdict-end.ensures in
    fitted_as (fitted_then front c.write_word.ensures) (line_parts _ _)
