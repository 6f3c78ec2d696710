-- Peggy's session with its state as a number.
-- Assumes nothing.
use Rattle.types.specs.declared.Prover.{Prover}
use Rattle.types.specs.declared.ProverStep.{ProverStep}
use Rattle.rules.specs.Answer.{unless_refused}
use Rattle.runs.specs.Prover.{prover_state}
use Rattle.runs.specs.Saving.{prover_phase}
use Rattle.crossing.specs.declared.ProverAnswer.{ProverAnswer}
use Rattle.crossing.specs.declared.ProverSession.{ProverSession}

-- the session that a caller hands in
unfoldable pub prover_of : ProverSession → Prover
prover_of s = record { phase = prover_phase s.phase; nonce = s.nonce; commitment = s.commitment; memory = s.memory }

-- the session as it is handed out
unfoldable pub prover_session : Prover → ProverSession
prover_session p = record { phase = prover_state p.phase; nonce = p.nonce; commitment = p.commitment; memory = p.memory }

-- a call's answer; where it is refused, the session comes back as it was given
unfoldable pub prover_answer : ProverSession → ProverStep → ProverAnswer
prover_answer given step =
    record {
      refusal = step.refusal;
      session = unless_refused step.refusal (prover_session step.session) given;
      values = step.values;
    }
