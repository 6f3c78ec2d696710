-- `row_words::write_row` meets its contract: the bit decides between the row's word and nothing.
-- Assumes nothing.
use borrow.Author.Tests.{eq-eqb}
use Rattle.encoding.specs.Text.{ascii}
use Rattle.runs.specs.Marker.{row_word}
use Rattle.row_words.proofs.write_row.Goals as goal

pub returns : goal.returns
unfolding row_word ascii
returns c =
    rw (eq-eqb _ _ c.if-rest-ne1.false) c.write_numbered.ensures
