-- `row_words::write_rows` meets its contract. The invariant: the words of the rows before this one are stored, and the rest of the
-- mask has its bit lowest.
-- Assumes nothing.
use mathlib.Core.Path.{◌≡◌}
use lib.ListN.{length}
use Rattle.runs.specs.Marker.{row_word}
use Rattle.row_words.proofs.RowByRow.{Told}
use Rattle.row_words.proofs.write_rows.Given as goal

abbrev pub invariant-loop-row : goal.invariant-loop-row
invariant-loop-row l = Told row_word l.mask l.initial.text l.at l.text l.next l.rest l.row × (length l.text ≡ length l.initial.text)
