-- `answer_lines::write_answer` meets its contract: the parts of a candidate's line stand one after the other.
-- Assumes nothing.
use Rattle.encoding.proofs.Fitted.{fitted_then}
use Rattle.runs.specs.Marker.{newline}
use Rattle.answer_lines.proofs.LineByLine.{answer_line_law}
use Rattle.answer_lines.proofs.write_answer.Goals as goal

pub returns : goal.returns
unfolding newline
returns c =
    rw (answer_line_law c.args.h c.args.c c.args.k c.requires.found c.requires.small c.response_at-response.ensures)
    (fitted_then (fitted_then c.write_decimal-next.ensures c.write_slots-end.ensures) c.write_word.ensures)
