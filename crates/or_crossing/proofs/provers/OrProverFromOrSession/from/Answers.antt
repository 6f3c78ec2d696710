-- `or_crossing::provers::OrProver::from` meets its contract: the state is that of the number, and the rest is copied.
-- Assumes nothing.
use Rattle.or_crossing.specs.Provers.{or_prover_of}
use Rattle.or_crossing.proofs.provers.OrProverFromOrSession.from.Goals as goal

pub returns : goal.returns
unfolding or_prover_of
returns c = rw c.prover_phase.ensures
