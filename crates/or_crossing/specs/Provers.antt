-- Peggy's session of the OR proof with its state as a number.
-- Assumes nothing.
use Rattle.rules.specs.Answer.{unless_refused}
use Rattle.runs.specs.Prover.{prover_state}
use Rattle.runs.specs.Saving.{prover_phase}
use Rattle.disjunctions.specs.declared.OrProver.{OrProver}
use Rattle.disjunctions.specs.declared.OrStep.{OrStep}
use Rattle.or_crossing.specs.declared.OrAnswer.{OrAnswer}
use Rattle.or_crossing.specs.declared.OrSession.{OrSession}

-- the session that a caller hands in
unfoldable pub or_prover_of : OrSession → OrProver
or_prover_of s =
    record {
      nonce = s.nonce;
      response = s.response;
      commitment0 = s.commitment0;
      commitment1 = s.commitment1;
      challenge = s.challenge;
      side = s.side;
      phase = prover_phase s.phase;
    }

-- the session as it is handed out
unfoldable pub or_session : OrProver → OrSession
or_session p =
    record {
      nonce = p.nonce;
      response = p.response;
      commitment0 = p.commitment0;
      commitment1 = p.commitment1;
      challenge = p.challenge;
      side = p.side;
      phase = prover_state p.phase;
    }

-- a call's answer; where it is refused, the session comes back as it was given
unfoldable pub or_answer : OrSession → OrStep → OrAnswer
or_answer given step =
    record {
      session = unless_refused step.refusal (or_session step.session) given;
      values0 = step.values0;
      values1 = step.values1;
      challenge0 = step.challenge0;
      refusal = step.refusal;
    }
