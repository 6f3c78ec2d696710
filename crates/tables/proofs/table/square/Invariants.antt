-- `tables::table::square` meets its contract. The invariant: the first i places hold the first i rows.
-- Assumes nothing.
use Rattle.lists.proofs.Filling.{Filled}
use Rattle.tables.specs.Flat.{square_row}
use Rattle.tables.proofs.table.square.Given as goal

abbrev pub invariant-loop-i : goal.invariant-loop-i
invariant-loop-i l = Filled l.initial.rows 8 (square_row l.entries) l.rows l.i
