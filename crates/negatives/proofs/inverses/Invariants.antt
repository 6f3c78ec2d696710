-- `negatives::inverses` meets its contract. The invariant: the first i places hold the first i inverses, and those beyond
-- hold 0. Assumes nothing.
use lib.ListN.{get_or}
use Rattle.lists.proofs.Filling.{Filled}
use Rattle.numbers.specs.Inverse.{inverse}
use Rattle.negatives.proofs.inverses.Given as goal

abbrev pub invariant-loop-i : goal.invariant-loop-i
invariant-loop-i l = Filled l.initial.found l.n (λ place. inverse l.m (get_or l.values place 0)) l.found l.i
