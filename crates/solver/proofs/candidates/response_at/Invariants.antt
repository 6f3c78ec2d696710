-- `solver::candidates::response_at` meets its contract. The invariant: the first j places hold the first j digits of k, and weight and
-- rest are those of the digits that are left. Assumes nothing.
use Rattle.lists.proofs.Filling.{Filled}
use Rattle.solver.proofs.Digits.{Left, digit}
use Rattle.solver.proofs.candidates.response_at.Given as goal

abbrev pub invariant-loop-j : goal.invariant-loop-j
invariant-loop-j l =
    Filled l.initial.slots l.columns (digit l.h.order l.columns l.k) l.slots l.j × Left l.h.order l.columns l.k l.j l.weight l.rest
