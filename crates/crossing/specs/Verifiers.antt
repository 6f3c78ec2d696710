-- Vic's session with its state as a number.
-- Assumes nothing.
use Rattle.std.specs.Prelude.{ℕ}
use Rattle.types.specs.declared.Verifier.{Verifier}
use Rattle.types.specs.declared.VerifierPhase.{VerifierPhase}
use Rattle.types.specs.declared.VerifierPhase.TheVariants.{Waiting, Holding, Asked, Judged}
use Rattle.types.specs.declared.VerifierStep.{VerifierStep}
use Rattle.types.specs.declared.VerifierVerdict.{VerifierVerdict}
use Rattle.rules.specs.Answer.{unless_refused}
use Rattle.sigma.specs.Answer.{outcome}
use Rattle.runs.specs.Verifier.{verifier_state}
use Rattle.crossing.specs.OfFour.{of_four}
use Rattle.crossing.specs.Verdicts.{judgement}
use Rattle.crossing.specs.declared.VerifierAnswer.{VerifierAnswer}
use Rattle.crossing.specs.declared.VerifierJudgement.{VerifierJudgement}
use Rattle.crossing.specs.declared.VerifierSession.{VerifierSession}

-- the state of a number, Judged for a number that is no state's
unfoldable pub verifier_phase : ℕ → VerifierPhase
verifier_phase n = of_four Waiting Holding Asked Judged n

-- the session that a caller hands in
unfoldable pub verifier_of : VerifierSession → Verifier
verifier_of s = record { phase = verifier_phase s.phase; commitment = s.commitment; challenge = s.challenge }

-- the session as it is handed out
unfoldable pub verifier_session : Verifier → VerifierSession
verifier_session v = record { phase = verifier_state v.phase; commitment = v.commitment; challenge = v.challenge }

-- the answer to a commitment or a challenge; where it is refused, the session comes back as it was given
unfoldable pub verifier_answer : VerifierSession → VerifierStep → VerifierAnswer
verifier_answer given step =
    record {
      refusal = step.refusal;
      session = unless_refused step.refusal (verifier_session step.session) given;
    }

-- the answer to a response; where it is refused, the session comes back as it was given
unfoldable pub verifier_judgement : VerifierSession → VerifierVerdict → VerifierJudgement
verifier_judgement given told =
    record {
      verdict = judgement told.verdict;
      session = unless_refused (outcome told.verdict).number (verifier_session told.session) given;
    }
