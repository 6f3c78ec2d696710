-- `round_lines::lines::write_line` meets its contract: the word and the number, and then the line's end.
-- Assumes nothing.
use borrow.Author.Rules.{rules}
use Rattle.encoding.specs.Text.{ascii}
use Rattle.encoding.proofs.Fitted.{fitted_then}
use Rattle.runs.specs.Marker.{newline, word_line}
use Rattle.round_lines.proofs.lines.write_line.Goals as goal

pub returns : goal.returns
unfolding word_line ascii newline
returns c = search (rules, fitted_then)
