-- `modular::inverse` meets its contract. The invariant: a turn of Euclid's algorithm with its two factors. The measure: the
-- second number. Assumes nothing.
use Rattle.modular.proofs.Euclid.{Turn}
use Rattle.modular.proofs.inverse.Given as goal

abbrev pub invariant-loop-y : goal.invariant-loop-y
invariant-loop-y l = Turn l.m l.v l.x l.y l.s l.t

abbrev pub decreases-loop-y : goal.decreases-loop-y
decreases-loop-y l = l.y
