-- `crossing::verifiers::VerifierSession::from` meets its contract: the number is that of the state, and the rest is copied.
-- Assumes nothing.
use Rattle.crossing.specs.Verifiers.{verifier_session}
use Rattle.crossing.proofs.Phases.{verifier_placed}
use Rattle.crossing.proofs.verifiers.VerifierSessionFromVerifier.from.Goals as goal

pub returns : goal.returns
unfolding verifier_session
returns c = rw (verifier_placed c.args.session.phase)
