-- `round_lines::lines::write_result` meets its contract: each branch stores its word and the line's end.
-- Assumes nothing.
use Rattle.encoding.specs.Text.{ascii}
use Rattle.runs.specs.Marker.{newline, result_line}
use Rattle.round_lines.proofs.lines.write_result.Goals as goal

pub returns-then-failed : goal.returns-then-failed
unfolding result_line ascii newline
returns-then-failed c = rw c.if-failed.true c.write_word.ensures

pub returns-else-failed : goal.returns-else-failed
unfolding result_line ascii newline
returns-else-failed c = rw c.if-failed.false c.write_word-else-failed.ensures
