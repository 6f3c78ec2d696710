-- The measure: how many bytes of the cases are left.
use Rattle.std.proofs.Common.{length}
use Rattle.trials_marker.proofs.print_all.Given as goal

abbrev pub decreases-loop-rest : goal.decreases-loop-rest
decreases-loop-rest g l = length l.rest
