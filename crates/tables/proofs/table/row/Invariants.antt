-- `tables::table::row` meets its contract. The invariant: the first j places hold the first j numbers of the row.
-- Assumes nothing.
use Rattle.lists.proofs.Filling.{Filled}
use Rattle.tables.specs.Flat.{square_at}
use Rattle.tables.proofs.table.row.Given as goal

abbrev pub invariant-loop-j : goal.invariant-loop-j
invariant-loop-j l = Filled l.initial.numbers 8 (square_at l.entries l.i) l.numbers l.j
