-- `answer_lines::write_slot` meets its contract: a word of no bytes, the space and the number.
-- Assumes nothing.
use Rattle.encoding.specs.Text.{ascii}
use Rattle.runs.specs.Marker.{row_word}
use Rattle.answer_lines.proofs.write_slot.Goals as goal

pub returns : goal.returns
unfolding row_word ascii
returns c = c.write_numbered.ensures
