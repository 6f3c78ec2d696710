-- `reason_lines::write_rows` meets its contract. The invariant: the texts of the rows before this one are stored, and the rest of
-- the mask has its bit lowest. The measure: how many rows are left.
-- Assumes nothing.
use Prim.Native.Nat.{◌-◌}
use mathlib.Core.Path.{◌≡◌}
use lib.ListN.{length}
use Rattle.reasons.specs.Reason.{row_text}
use Rattle.row_words.proofs.RowByRow.{Told}
use Rattle.reason_lines.proofs.write_rows.Given as goal

abbrev pub invariant-loop-row : goal.invariant-loop-row
invariant-loop-row l =
    Told (row_text l.left l.right) l.mask l.initial.text l.at l.text l.next l.rest l.row × (length l.text ≡ length l.initial.text)

abbrev pub decreases-loop-row : goal.decreases-loop-row
decreases-loop-row l = 8 - l.row
