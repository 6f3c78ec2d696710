-- Demand 2's order of steps holds of both sessions.
-- Assumes nothing.
use Rattle.runs.specs.Ours.{run_calls}
use Rattle.runs.specs.Sessions.{Sessions}
use Rattle.runs.proofs.OneAnswer.{prover_once}
use Rattle.runs.proofs.OrderOfSteps.{verifier_ordered}

-- both sessions take their steps in order
pub sessions : Sessions run_calls
sessions = record { prover = prover_once; verifier = verifier_ordered }
