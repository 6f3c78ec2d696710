-- `or_session::session::wiped` meets its contract: all but the commitments and the state is as in a new session.
-- Assumes nothing.
use Rattle.disjunctions.specs.Prover.{new_or_prover, wiped_or}
use Rattle.or_session.proofs.session.wiped.Goals as goal

pub returns : goal.returns
unfolding new_or_prover wiped_or
returns c = rw c.new.ensures
