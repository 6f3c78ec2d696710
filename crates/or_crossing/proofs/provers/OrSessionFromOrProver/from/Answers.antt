-- `or_crossing::provers::OrSession::from` meets its contract: the number is that of the state, and the rest is copied.
-- Assumes nothing.
use Rattle.or_crossing.specs.Provers.{or_session}
use Rattle.or_crossing.proofs.provers.OrSessionFromOrProver.from.Goals as goal

pub returns : goal.returns
unfolding or_session
returns c = rw c.prover_state.ensures
