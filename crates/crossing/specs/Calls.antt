-- Any call on a session that a caller hands in, answered in the form in which it crosses.
-- Assumes nothing.
use Rattle.std.specs.Prelude.{List, map}
use Rattle.types.specs.declared.ProverStep.{ProverStep}
use Rattle.types.specs.declared.VerifierStep.{VerifierStep}
use Rattle.runs.specs.Ours.{call_prover}
use Rattle.runs.specs.ProverCalls.{ProverCall}
use Rattle.runs.specs.Run.{trace}
use Rattle.runs.specs.Verifier.{take_commitment, take_challenge, take_response}
use Rattle.runs.specs.VerifierCalls.{VerifierCall, Commitment, Challenge, Response}
use Rattle.crossing.specs.Provers.{prover_of, prover_answer}
use Rattle.crossing.specs.Verifiers.{verifier_of, verifier_answer, verifier_judgement}
use Rattle.crossing.specs.declared.ProverAnswer.{ProverAnswer}
use Rattle.crossing.specs.declared.ProverSession.{ProverSession}
use Rattle.crossing.specs.declared.VerifierAnswer.{VerifierAnswer}
use Rattle.crossing.specs.declared.VerifierJudgement.{VerifierJudgement}
use Rattle.crossing.specs.declared.VerifierSession.{VerifierSession}

-- the calls of a trace, with each answer read
unfoldable pub read_answers : {Call Answer Step : Type 0} → (Answer → Step) → List (Call × Answer) → List (Call × Step)
read_answers read answers = map (λ one. (one.0, read one.1)) answers

-- the answer to a call on Peggy's session
abbrev pub answered_prover : ProverCall → ProverSession → ProverAnswer
answered_prover call s = prover_answer s (call_prover call (prover_of s))

-- an answer that crossed, taken for what the call answers
abbrev pub prover_read : ProverAnswer → ProverStep
prover_read a = record { session = prover_of a.session; values = a.values; refusal = a.refusal }

-- the calls of a list that are carried out, each given the session that the last one handed back, with its answer
unfoldable pub answered_trace : List ProverCall → ProverSession → List (ProverCall × ProverAnswer)
answered_trace calls s = trace answered_prover (λ answer. answer.session) (λ answer. answer.refusal) calls s

-- the session and the number in the answer to a call on Vic's session
unfoldable pub answered_verifier : VerifierCall → VerifierSession → VerifierAnswer
answered_verifier (Commitment sheet t) s = verifier_answer s (take_commitment sheet (verifier_of s) t)
answered_verifier (Challenge sheet c) s = verifier_answer s (take_challenge sheet (verifier_of s) c)
answered_verifier (Response sheet r) s =
    let told : VerifierJudgement = verifier_judgement s (take_response sheet (verifier_of s) r) in
    record { session = told.session; refusal = told.verdict.refusal }

-- the same two of Vic's session
abbrev pub verifier_read : VerifierAnswer → VerifierStep
verifier_read a = record { session = verifier_of a.session; refusal = a.refusal }

unfoldable pub answered_verifier_trace : List VerifierCall → VerifierSession → List (VerifierCall × VerifierAnswer)
answered_verifier_trace calls s = trace answered_verifier (λ answer. answer.session) (λ answer. answer.refusal) calls s
