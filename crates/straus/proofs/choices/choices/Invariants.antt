-- `straus::choices::choices` meets its contract. The invariant: the first d fours of the table are the products of the two tables'
-- fours. Assumes nothing.
use Prim.Native.Nat.{◌≤◌}
use Rattle.straus.proofs.Tables.{Crossed}
use Rattle.straus.proofs.choices.choices.Given as goal

abbrev pub invariant-loop-d : goal.invariant-loop-d
invariant-loop-d l = (l.d ≤ 16) × Crossed l.by.modulus l.low l.high l.d l.table
