-- `straus::largest` meets its contract. The invariant: none of the values passed is above the one kept.
-- Assumes nothing.
use Rattle.straus.specs.MultiPowers.{AtMost}
use Rattle.straus.proofs.largest.Given as goal

abbrev pub invariant-loop-value : goal.invariant-loop-value
invariant-loop-value l = AtMost l.most l.value-index l.fn.values
