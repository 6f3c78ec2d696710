-- `crossing::verifiers::Verifier::from` meets its contract: the state is that of the number, and the rest is copied.
-- Assumes nothing.
use Rattle.crossing.specs.Verifiers.{verifier_of}
use Rattle.crossing.proofs.verifiers.VerifierFromVerifierSession.from.Goals as goal

pub returns : goal.returns
unfolding verifier_of
returns c = rw c.verifier_phase.ensures
