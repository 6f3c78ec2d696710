-- `comparison::first_difference` meets its contract. The invariant: what is left of the search gives what the whole search gives.
-- Assumes nothing.
use Rattle.comparison.proofs.TwoSides.{Agreed}
use Rattle.comparison.proofs.first_difference.Given as goal

abbrev pub invariant-loop-i : goal.invariant-loop-i
invariant-loop-i l = Agreed l.n l.xs l.ys l.i
