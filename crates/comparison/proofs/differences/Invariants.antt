-- `comparison::differences` meets its contract. The invariant: the mask of the places before i, and the bit of place i.
-- Assumes nothing.
use Rattle.comparison.proofs.Masks.{Marked}
use Rattle.comparison.proofs.differences.Given as goal

abbrev pub invariant-loop-i : goal.invariant-loop-i
invariant-loop-i l = Marked l.n l.xs l.ys l.i l.mask l.bit
