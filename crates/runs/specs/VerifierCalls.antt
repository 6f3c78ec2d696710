-- Any list of calls on one of Vic's sessions (01, "Sessions").
-- Assumes nothing.
use Rattle.std.specs.Prelude.{ℕ, ◌≡◌, List}
use Rattle.types.specs.declared.Verifier.{Verifier}
use Rattle.types.specs.declared.VerifierPhase.TheVariants.{Waiting, Holding, Asked, Judged}
use Rattle.types.specs.declared.VerifierStep.{VerifierStep}
use Rattle.types.specs.declared.VerifierVerdict.{VerifierVerdict}
use Rattle.lists.specs.Places.{pad8}
use Rattle.sigma.specs.Answer.{outcome}
use Rattle.runs.specs.OnSheet.{read_values}
use Rattle.runs.specs.Run.{session_after, trace}
use Rattle.runs.specs.RunCalls.{RunCalls}

-- a call with what it brings: a sheet and a commitment, a challenge or a response
pub data VerifierCall : Type 0 where
  Commitment : List ℕ → List ℕ → VerifierCall
  Challenge : List ℕ → ℕ → VerifierCall
  Response : List ℕ → List ℕ → VerifierCall

module _ (code : RunCalls) where
  open code use {take_commitment, take_challenge, take_response}

  -- what a call on a session gives: the number that it is refused with, 0 for none, and the session that it hands back
  abbrev pub call_verifier : VerifierCall → Verifier → VerifierStep
  call_verifier (Commitment sheet t) v = take_commitment sheet v t
  call_verifier (Challenge sheet c) v = take_challenge sheet v c
  call_verifier (Response sheet r) v =
      let told : VerifierVerdict = take_response sheet v r in
      record { refusal = (outcome told.verdict).number; session = told.session }

  -- the session after a list of calls
  abbrev pub verifier_after : List VerifierCall → Verifier → Verifier
  verifier_after calls v = session_after call_verifier (λ step. step.session) calls v

  -- the calls of a list that are carried out, each with what it answered
  abbrev pub verifier_trace : List VerifierCall → Verifier → List (VerifierCall × VerifierStep)
  verifier_trace calls v = trace call_verifier (λ step. step.session) (λ step. step.refusal) calls v

-- in which state a call is carried out, and what it hands back: a commitment leads from Waiting to Holding, a challenge from
-- Holding to Asked, and a response from Asked to Judged; what came before is kept, and no response is
abbrev pub VerifierMoves : Verifier → VerifierCall → VerifierStep → Type 0
VerifierMoves v (Commitment sheet t) step =
    (v.phase ≡ Waiting) ×
    (step.session ≡ record { phase = Holding; commitment = pad8 0 (read_values sheet t); challenge = v.challenge })
VerifierMoves v (Challenge sheet c) step =
    (v.phase ≡ Holding) × (step.session ≡ record { phase = Asked; commitment = v.commitment; challenge = c })
VerifierMoves v (Response sheet r) step =
    (v.phase ≡ Asked) ×
    (step.session ≡ record { phase = Judged; commitment = v.commitment; challenge = v.challenge })
