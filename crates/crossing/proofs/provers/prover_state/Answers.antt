-- `crossing::provers::prover_state` meets its contract: a state's place in its enum is its number. Assumes nothing.
use Rattle.crossing.proofs.Phases.{prover_placed}
use Rattle.crossing.proofs.provers.prover_state.Goals as goal

pub returns : goal.returns
returns c = prover_placed c.args.phase
