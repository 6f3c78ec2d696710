-- `tables::table::flat` meets its contract. The invariant: the first k places hold the first k numbers of the rows.
-- Assumes nothing.
use Rattle.lists.proofs.Filling.{Filled}
use Rattle.tables.specs.Flat.{flat_at}
use Rattle.tables.proofs.table.flat.Given as goal

abbrev pub invariant-loop-k : goal.invariant-loop-k
invariant-loop-k l = Filled l.initial.numbers 64 (flat_at l.rows) l.numbers l.k
