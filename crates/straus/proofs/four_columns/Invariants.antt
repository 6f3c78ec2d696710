-- `straus::four_columns` meets its contract. The invariant: the first j places hold the first j columns, and those beyond hold 1.
-- Assumes nothing.
use Rattle.lists.proofs.Filling.{Filled}
use Rattle.straus.specs.MultiPowers.{column_of}
use Rattle.straus.proofs.four_columns.Given as goal

abbrev pub invariant-loop-j : goal.invariant-loop-j
invariant-loop-j l = Filled l.initial.columns l.n (column_of l.a l.b l.c l.d) l.columns l.j
