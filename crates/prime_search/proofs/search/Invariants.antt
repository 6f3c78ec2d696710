-- `prime_search::search` meets its contract. The invariant: the words before i are passed, and a is their last number.
-- Assumes nothing.
use Rattle.prime_search.proofs.Passing.{Passed}
use Rattle.prime_search.proofs.search.Given as goal

abbrev pub invariant-loop-i : goal.invariant-loop-i
invariant-loop-i l = Passed l.table l.order l.i l.a l.most
