-- One call on Vic's session, whatever it brings: a refused call leaves the session, and each other call moves it one state on.
-- Assumes nothing.
use Prim.Native.Nat.{ℕ, suc, ◌≤◌, ◌<◌}
use mathlib.Core.Path.{◌≡◌, ap}
use native.Mathlib.Omega.{arith}
use Rattle.types.specs.declared.Verifier.{Verifier}
use Rattle.types.specs.declared.VerifierPhase.TheVariants.{Judged}
use Rattle.types.specs.declared.VerifierStep.{VerifierStep}
use Rattle.types.specs.declared.VerifierVerdict.{VerifierVerdict}
use Rattle.runs.specs.Ours.{call_verifier}
use Rattle.runs.specs.Verifier.{verifier_state, taking_commitment, taking_challenge, taking_response}
use Rattle.runs.specs.VerifierCalls.{VerifierCall, Commitment, Challenge, Response}
use Rattle.runs.specs.VerifierCalls.{VerifierMoves}
use Rattle.runs.proofs.VerifierSteps.{take_commitment_kept, take_commitment_runs, take_commitment_value, take_challenge_kept, take_challenge_runs, take_challenge_value, take_response_kept, take_response_runs, take_response_value}
use Rattle.runs.proofs.Run.{Machine}

-- ---- a refused call

-- a refused call hands back the same session
pub verifier_kept : (call : VerifierCall) (v : Verifier) → 0 < (call_verifier call v).refusal → (call_verifier call v).session ≡ v
unfolding call_verifier
verifier_kept (Commitment sheet t) v h = ap (λ (step : VerifierStep). step.session) (take_commitment_kept sheet v t h)
verifier_kept (Challenge sheet c) v h = ap (λ (step : VerifierStep). step.session) (take_challenge_kept sheet v c h)
verifier_kept (Response sheet r) v h = ap (λ (told : VerifierVerdict). told.session) (take_response_kept sheet v r h)

-- ---- any other call

-- a call that is not refused moves the session as 01 says
pub verifier_moves : (call : VerifierCall) (v : Verifier) → (call_verifier call v).refusal ≡ 0 → VerifierMoves v call (call_verifier call v)
unfolding call_verifier taking_commitment taking_challenge taking_response
verifier_moves (Commitment sheet t) v e = (
  ((take_commitment_runs sheet v t).0 e).1.phase,
  ap (λ (step : VerifierStep). step.session) (take_commitment_value sheet v t e),
)
verifier_moves (Challenge sheet c) v e = (
  ((take_challenge_runs sheet v c).0 e).1.phase,
  ap (λ (step : VerifierStep). step.session) (take_challenge_value sheet v c e),
)
verifier_moves (Response sheet r) v e = (
  ((take_response_runs sheet v r).0 e).1.ready.phase,
  ap (λ (told : VerifierVerdict). told.session) (take_response_value sheet v r e),
)

-- the calls on Vic's session, and how they move it
abbrev pub vic : Machine VerifierCall Verifier VerifierStep
vic = record {
  answer = call_verifier;
  session = λ step. step.session;
  refusal = λ step. step.refusal;
  Moves = VerifierMoves;
  kept = verifier_kept;
  moves = verifier_moves;
}

-- ---- the state

-- the number of a session's state
abbrev pub state_of : Verifier → ℕ
state_of v = verifier_state v.phase

-- a call that moves the session leads to the next state, which is at most the last
pub next_state : (v : Verifier) (call : VerifierCall) (step : VerifierStep) → VerifierMoves v call step
    → (state_of step.session ≡ suc (state_of v)) × (state_of step.session ≤ 3)
unfolding verifier_state
next_state v (Commitment sheet t) step m = omega (arith, ap verifier_state m.0, ap state_of m.1)
next_state v (Challenge sheet c) step m = omega (arith, ap verifier_state m.0, ap state_of m.1)
next_state v (Response sheet r) step m = omega (arith, ap verifier_state m.0, ap state_of m.1)

-- so no call moves a Judged session
pub judged_unmoved : (v : Verifier) (call : VerifierCall) (step : VerifierStep) → v.phase ≡ Judged → ¬ VerifierMoves v call step
unfolding verifier_state
judged_unmoved v call step judged moved = omega (arith, ap verifier_state judged, next_state v call step moved)
