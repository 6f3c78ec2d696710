-- `prover_session::session::new` meets its contract: the zeros are written out.
-- Assumes nothing.
use Rattle.lists.specs.Places.{zeros8}
use Rattle.runs.specs.Memory.{no_memory}
use Rattle.runs.specs.Prover.{new_prover}
use Rattle.crossing.specs.Provers.{prover_session}
use Rattle.prover_session.proofs.session.new.Goals as goal

pub returns : goal.returns
unfolding prover_session new_prover no_memory zeros8
returns c = rw c.prover_state.ensures
